-- The headline, from the laws of every run.
use Rattle.std.proofs.Common.{◌≡◌, ◌≤◌, ◌+◌, ℕ, List, [], ◌∷◌, ◌++◌, length, length-append, append-nil}
use Rattle.std.proofs.Common.{Some, refl, sym, ap, ◌∙◌, subst, arith}
use Rattle.std.specs.Prelude.{if◌then◌else◌}
use Rattle.room_nodes.specs.declared.nodes.Body.{Body}
use Rattle.room_nodes.specs.Shape.{Nodes}
use Rattle.room_nodes.specs.Steps.{fold}
use Rattle.room_log.specs.Log.{State, Entry, after, last_of, tree_at, state_after}
use Rattle.room_log.specs.Follows.{IsValidLog, IsValidState}
use Rattle.room_model.specs.Account.{Batch, actor, all_bodies, bodies_in, is_some_list, issued}
use Rattle.room_model.specs.Account.{pending_bodies, shown, unacknowledged}
use Rattle.room_model.specs.Lines as lines
use Rattle.room_model.specs.Lines.{Line}
use Rattle.room_model.specs.World.{World, account, opening, state_in, step}
use Rattle.room_model.specs.Run.{Run, run, line, opened, IsUndisturbed}
use Rattle.room_laws.specs.Always.{lines_of}
use Rattle.room_laws.specs.Laws.{ShowsLog}
use Rattle.room_laws.specs.Undo.{Course, Lies, call_back, call_of, whole}
use Rattle.room_laws.specs.Undoing.{TakesBack}
use Rattle.room_laws.specs.Validity.{AreLines, AreSpelled}
use Rattle.room_laws.proofs.EveryRun.{every_growth, every_log, every_once, every_shows, every_undo, every_undone}
use Rattle.room_laws.proofs.EveryRun.{every_world}
use Rattle.room_laws.proofs.SoundLines.{state_after-append, valid-append}
use Rattle.room_world.specs.Trying.{tries}
use Rattle.room_run.specs.Running.{after_lines}
use Rattle.room_headline.specs.Headline.{Adds, Headline, Holds, HoldsOf, Undoes}
use Rattle.room_headline.proofs.Adding.{line_ends}
use Rattle.room_headline.proofs.Clocks.{last_rises, run_on}
use Rattle.room_headline.proofs.Following.{line_follow}

-- lines before others

spelled_front : (ls ms : List (ℕ × Line)) → AreSpelled (ls ++ ms) → AreSpelled ls
spelled_front [] ms h = tt
spelled_front (l ∷ ls) ms h = (h.0, spelled_front ls ms h.1)

lines_front : (ls ms : List (ℕ × Line)) → AreLines (ls ++ ms) → AreLines ls
lines_front ls ms h = record {
  spelled = spelled_front ls ms h.spelled;
  fewer = omega (arith, h.fewer, length-append ls ms);
}

run_append : (ls ms : List (ℕ × Line)) (r : Run) → run r (ls ++ ms) ≡ run (run r ls) ms
run_append [] ms r = refl
run_append (l ∷ ls) ms r = run_append ls ms (line r l.0 l.1)

world_is : (ls : List (ℕ × Line)) (r : Run) → (run r ls).world ≡ after_lines r.world ls
world_is [] r = refl
world_is (l ∷ ls) r = world_is ls (line r l.0 l.1)

-- the lines of a course

whole_is : (s : State) (q : Course) (c : ℕ) → whole s q c ≡ run (opened s) (lines_of q c)
whole_is s q c =
    let made : ℕ × Line = (q.last, lines.OfClient c (call_of q.maker)) in
    let back : ℕ × Line = (q.back, lines.OfClient c (call_back q.maker)) in
    let at_last = q.until ++ back ∷ q.rest in
    let before = run (opened s) q.before in
    let ready = run before q.within in
    let until = line ready made.0 made.1 in
    sym (run_append q.before (q.within ++ made ∷ at_last) (opened s)
    ∙ run_append q.within (made ∷ at_last) before
    ∙ run_append q.until (back ∷ q.rest) until)

-- nothing unacknowledged is nothing on top

none_on_top : (bs : List Batch) (os : List Body) → length bs + (if is_some_list os then 1 else 0) ≡ 0
    → all_bodies bs ++ os ≡ []
none_on_top [] [] e = refl
none_on_top [] (o ∷ os) e = absurd (omega (arith, e))
none_on_top (b ∷ bs) os e = absurd (omega (arith, e))

settles : (s : State) (r : Run) (c : ℕ) (t : Nodes) → ShowsLog s r c t → unacknowledged (account r.world c) ≡ 0
    → shown (account r.world c) ≡ Some (tree_at s r.log (account r.world c).n)
settles s r c t h e =
    let x = account r.world c in
    let none : pending_bodies x ≡ [] = none_on_top (issued x) (bodies_in x.batch) e in
    h.on_top ∙ ap (λ bs. Some (fold (tree_at s r.log x.n) bs)) none

-- what is behind a first part of a valid log
valid_rest : (s : State) (es fs : List Entry) → IsValidLog s (es ++ fs) → IsValidLog (state_after s es) fs
valid_rest s [] fs h = h
valid_rest s (e ∷ es) fs h = valid_rest (after s e) es fs h.1

-- at each line

module _ (s : State) (done : List (ℕ × Line)) (valid : IsValidState s) (are : AreLines done) where
  undoes : (c : ℕ) → IsUndisturbed (run (opened s) done) c → Undoes s done c
  undoes c alone = record {
    undone = λ q t made back us vs ws b u is goes lies.
        let same : run (opened s) done ≡ whole s q c = sym (whole_is s q c ∙ ap (run (opened s)) is) in
        every_undo s q c t made back us vs ws b u valid (subst AreLines (sym is) are)
        (subst (λ (r : Run). IsUndisturbed r c) same alone) goes
        (subst (λ (r : Run). Lies s r c t made back us vs ws b u) same lies);
    reversed = λ ls ms t made back us vs ws b u is shows takes.
        let same : run (opened s) done ≡ run (opened s) (ls ++ ms) = ap (run (opened s)) (sym is) in
        every_undone s ls ms c t made back us vs ws b u valid (subst AreLines (sym is) are) shows
        (subst (λ (r : Run). IsUndisturbed r c) same alone)
        (subst (λ (r : Run). TakesBack s r c t made back us vs ws b u) same takes);
  }

  state_is : state_in (run (opened s) done).world.host ≡ state_after s (run (opened s) done).log
  state_is = (every_growth s done [] valid (subst AreLines (sym (append-nil done)) are)).stands

  -- what was acknowledged stays, whatever valid log comes behind
  recovered : (c : ℕ) → IsUndisturbed (run (opened s) done) c → (more : List Entry)
      → IsValidLog s ((run (opened s) done).log ++ more)
      → (account (run (opened s) done).world c).told
      ≤ last_of (state_after s ((run (opened s) done).log ++ more)).sessions
      (actor (account (run (opened s) done).world c))
  recovered c alone more h =
      let r = run (opened s) done in
      let a = actor (account r.world c) in
      let now = (every_once s done c valid are alone).acknowledged in
      let here : last_of (state_in r.world.host).sessions a ≡ last_of (state_after s r.log).sessions a
      = ap (λ (z : State). last_of z.sessions a) state_is in
      let later = last_rises (state_after s r.log) more a (valid_rest s r.log more h) in
      let whole : last_of (state_after s (r.log ++ more)).sessions a
      ≡ last_of (state_after (state_after s r.log) more).sessions a
      = ap (λ (z : State). last_of z.sessions a) (state_after-append s r.log more) in
      omega (arith, now, here, later, whole)

  client : (c : ℕ) → IsUndisturbed (run (opened s) done) c → HoldsOf s done c
  client c alone = record {
    once = every_once s done c valid are alone;
    recovered = recovered c alone;
    shows = λ t e. every_shows s done c t valid are alone e;
    settled = λ t e none. settles s (run (opened s) done) c t (every_shows s done c t valid are alone e) none;
    undoes = undoes c alone;
  }

  stands : state_in (after_lines (opening s) done).host ≡ state_after s (run (opened s) done).log
  stands = ap (λ (w : World). state_in w.host) (sym (world_is done (opened s))) ∙ state_is

  holds : Holds s done
  holds = record {
    world = world_is done (opened s);
    log = every_log s done valid are;
    clocks = λ a. run_on s (run (opened s) done).log a (every_log s done valid are);
    state = stands;
    clients = client;
  }

  -- what the line behind these adds
  adds : (l : ℕ × Line) → Adds s done l
  adds l =
      let r = run (opened s) done in
      let h = line_ends r.world l.0 l.1 in
      let follow = line_follow (length done) r.world l.0 l.1 (every_world s done valid are) in
      let behind = subst (λ t. IsValidLog t (tries r.world l.0 l.1)) state_is follow in
      record {
        entries = (step r.world l.0 l.1).entries;
        log = ap (λ (z : Run). z.log) (run_append done (l ∷ []) (opened s));
        dropped = h.dropped;
        tries = ap (λ (w : World). tries w l.0 l.1) (sym (world_is done (opened s))) ∙ h.is;
        valid = subst (λ es. IsValidLog s (r.log ++ es)) h.is
            (valid-append s r.log (tries r.world l.0 l.1) (every_log s done valid are) behind);
      }

pub everywhere : (s : State) (ls : List (ℕ × Line)) → IsValidState s → AreLines ls → Headline s ls
everywhere s ls valid are = record {
  holds = λ done left is. holds s done valid (lines_front done left (subst AreLines (sym is) are));
  adds = λ done left l is.
      adds s done valid (lines_front done (l ∷ left) (subst AreLines (sym is) are)) l;
  grows = λ done left is.
      let g = every_growth s done left valid (subst AreLines (sym is) are) in
      (g.more, ap (λ ms. (run (opened s) ms).log) (sym is) ∙ g.log);
}
