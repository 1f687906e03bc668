use Rattle.std.proofs.Common.{◌≡◌, ◌≤◌, ◌<◌, ◌+◌, ◌-◌, ◌==◌, ◌||◌, nat_le, ◌++◌, ◌∷◌, [], length, sym, ap, subst, arith, rules}
use Rattle.std.proofs.Common.{List, ℕ, true, false, length-append}
use Rattle.std.proofs.lemmas.Bool.Decides.{nat_tests}
use Rattle.room_hub.specs.declared.hub.Happening.{Happening}
use Rattle.room_server.specs.declared.arrivals.Came.{Came}
use Rattle.room_serving.specs.Serving as serving
use Rattle.room_serving.specs.Serving.{turn_if_full}
use Rattle.room_turns.specs.Gathering.{events_of, happening_of}
use Rattle.room_turns.specs.Parts.{gathering, Leads, Begins}
use Rattle.room_turns.specs.declared.gathering.Given.TheVariants.{Arrives, Ends}
use Rattle.room_turns.proofs.Causes.{next_most}
use Rattle.room_turns.proofs.Happening.{on_err}
use Rattle.room_turns.proofs.Gathered.{gather_next, gather_end, gather_full, gather_begins, left_some}
use Rattle.room_turns.proofs.gathering.gather.Goals as goal

pub loop-left-preserved : goal.loop-left-preserved
loop-left-preserved g c =
    let h = g.H.Hub in
    let l = c.loop-left in
    let more : (nat_le 64 (length l.came) || l.left == 0) ≡ false = search rules in
    let told : h.tells ≡ true
    → h.happened c.ask.new.hub ≡ h.happened l.hub ++ happening_of (Arrives c.in-Arrives.arrival) ∷ [] = search rules in
    let pushed : c.push.new.self ≡ l.came ++ c.in-Arrives.arrival ∷ [] = search rules in
    let some = left_some (length l.came) l.left more in
    record {
      leads = λ tells v groups owed.
          subst
          (λ (cs : List Came). Leads (gathering v c.args.left serving.GoesOn [] groups owed) (h.happened c.args.hub.now)
          (h.happened c.ask.new.hub)
          (turn_if_full (gathering v (l.left - 1) serving.GoesOn (events_of cs) groups owed))) (sym pushed)
          (gather_next v c.args.left groups owed (h.happened c.args.hub.now) (h.happened l.hub)
          (h.happened c.ask.new.hub) l.left l.came c.in-Arrives.arrival more (l.invariant.leads tells v groups owed)
          (told tells));
      counted =
          omega (arith, ap length pushed, length-append l.came (c.in-Arrives.arrival ∷ []), l.invariant.counted, some);
      asked = omega (arith, c.ask.ensures.asked, next_most (h.asked l.hub), l.invariant.asked, some);
      later = search (rules, arith);
    }

pub returns-in_err-arrival-clause-begins : goal.returns-in_err-arrival-clause-begins
returns-in_err-arrival-clause-begins g c tells v groups owed =
    let h = g.H.Hub in
    let l = c.loop-left in
    let same : h.happened c.ask.new.hub ≡ h.happened l.hub = search rules in
    on_err c.from_residual.result _
    (subst
    (λ (z : List Happening). Begins (gathering v c.args.left serving.GoesOn [] groups owed) (h.happened c.args.hub.now) z)
    (sym same)
    (gather_begins v c.args.left groups owed (h.happened c.args.hub.now) (h.happened l.hub) l.left l.came
    (l.invariant.leads tells v groups owed)))

pub returns-in_err-push-in-Arrives-clause-begins : goal.returns-in_err-push-in-Arrives-clause-begins
returns-in_err-push-in-Arrives-clause-begins g c tells v groups owed =
    let h = g.H.Hub in
    let l = c.loop-left in
    let more : (nat_le 64 (length l.came) || l.left == 0) ≡ false = search rules in
    let told : h.happened c.ask.new.hub ≡ h.happened l.hub ++ happening_of (Arrives c.in-Arrives.arrival) ∷ [] =
    search rules in
    on_err c.from_residual-in_err-push-in-Arrives.result _
    (gather_begins v c.args.left groups owed (h.happened c.args.hub.now) (h.happened c.ask.new.hub) (l.left - 1)
    (l.came ++ c.in-Arrives.arrival ∷ [])
    (gather_next v c.args.left groups owed (h.happened c.args.hub.now) (h.happened l.hub)
    (h.happened c.ask.new.hub) l.left l.came c.in-Arrives.arrival more (l.invariant.leads tells v groups owed) told))

pub returns-in-Ends-clause-leads : goal.returns-in-Ends-clause-leads
returns-in-Ends-clause-leads g c tells v groups owed =
    let h = g.H.Hub in
    let l = c.loop-left in
    let more : (nat_le 64 (length l.came) || l.left == 0) ≡ false = search rules in
    let told : h.happened c.ask.new.hub ≡ h.happened l.hub ++ happening_of (Ends c.in-Ends.ending) ∷ [] =
    search rules in
    gather_end v c.args.left groups owed (h.happened c.args.hub.now) (h.happened l.hub) (h.happened c.ask.new.hub)
    l.left l.came c.in-Ends.ending more (l.invariant.leads tells v groups owed) told

pub returns-clause-leads : goal.returns-clause-leads
returns-clause-leads g c tells v groups owed =
    let h = g.H.Hub in
    let l = c.loop-left in
    let full : (nat_le 64 (length l.came) || l.left == 0) ≡ true = search rules in
    gather_full v c.args.left groups owed (h.happened c.args.hub.now) (h.happened l.hub) l.left l.came full
    (l.invariant.leads tells v groups owed)

full_less : (n left first : ℕ) → (nat_le 64 n || left == 0) ≡ true → 0 < first → n + left ≤ first → left < first
full_less n left first full some most = grind (arith, nat_tests)

pub returns-clause-less : goal.returns-clause-less
returns-clause-less g c =
    let l = c.loop-left in
    let full : (nat_le 64 (length l.came) || l.left == 0) ≡ true = search rules in
    full_less (length l.came) l.left c.args.left full c.requires l.invariant.counted
