use Rattle.std.proofs.Common.{◌≡◌, ◌+◌, ◌∷◌, [], sym, ap, subst, arith, rules, List, true, drop}
use Rattle.std.proofs.Common.{◌∙◌}
use Rattle.std.proofs.lemmas.List.{drop_more, drop_all}
use Rattle.room_links.specs.declared.outs.Out.{Out}
use Rattle.room_turns.specs.Trying.{Tries, TriesOrNot}
use Rattle.room_turns.proofs.Happening.{on_err}
use Rattle.room_turns.proofs.Tried.{Trying, try_begins, try_done, tried_all}
use Rattle.room_turns.proofs.trying.try_all.Goals as goal

pub loop-out-preserved : goal.loop-out-preserved
loop-out-preserved g c =
    let h = g.H.Hub in
    let l = c.loop-out in
    let tried : h.tells ≡ true
    → Tries c.out-item.result (h.happened l.hub) (h.happened c.attempt.new.hub) l.lost c.attempt.new.lost =
    search rules in
    let at : drop l.out-index c.args.outs.now ≡ c.out-item.result ∷ drop (l.out-index + 1) c.args.outs.now =
    drop_more c.args.outs.now l.out-index c.out-item.result (omega arith)
    ∙ ap (λ (y : Out). y ∷ drop (l.out-index + 1) c.args.outs.now) (sym c.out-item.is) in
    record {
      tries = λ tells v left ending groups owed todo is.
          try_done v left ending groups owed todo (h.happened c.args.hub.now) (h.happened l.hub)
          (h.happened c.attempt.new.hub) c.out-item.result (drop (l.out-index + 1) c.args.outs.now) l.lost
          c.attempt.new.lost
          (subst (λ (os : List Out). Trying v left ending groups owed todo (h.happened c.args.hub.now) (h.happened l.hub) os l.lost)
          at (l.invariant.tries tells v left ending groups owed todo is)) (tried tells);
      asked = search rules;
      later = search (rules, arith);
    }

pub returns-in_err-attempt-clause-begins : goal.returns-in_err-attempt-clause-begins
returns-in_err-attempt-clause-begins g c tells v left ending todo groups owed is =
    let h = g.H.Hub in
    let l = c.loop-out in
    let perhaps : TriesOrNot c.out-item.result (h.happened l.hub) (h.happened c.attempt.new.hub) = search rules in
    let at : drop l.out-index c.args.outs.now ≡ c.out-item.result ∷ drop (l.out-index + 1) c.args.outs.now =
    drop_more c.args.outs.now l.out-index c.out-item.result (omega arith)
    ∙ ap (λ (y : Out). y ∷ drop (l.out-index + 1) c.args.outs.now) (sym c.out-item.is) in
    on_err c.from_residual.result _
    (try_begins v left ending groups owed todo (h.happened c.args.hub.now) (h.happened l.hub)
    (h.happened c.attempt.new.hub) c.out-item.result (drop (l.out-index + 1) c.args.outs.now) l.lost
    (subst (λ (os : List Out). Trying v left ending groups owed todo (h.happened c.args.hub.now) (h.happened l.hub) os l.lost)
    at (l.invariant.tries tells v left ending groups owed todo is)) perhaps)

pub returns-clause-leads : goal.returns-clause-leads
returns-clause-leads g c tells v left ending todo groups owed is =
    let h = g.H.Hub in
    let l = c.loop-out in
    let done : drop l.out-index c.args.outs.now ≡ [] =
    drop_all l.out-index c.args.outs.now c.loop-out-test.false in
    tried_all v left ending groups owed todo (h.happened c.args.hub.now) (h.happened l.hub) l.lost
    (subst (λ (os : List Out). Trying v left ending groups owed todo (h.happened c.args.hub.now) (h.happened l.hub) os l.lost)
    done (l.invariant.tries tells v left ending groups owed todo is))
