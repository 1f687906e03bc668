-- The invariant stands at every moment of a run, and with it the laws.
use Rattle.std.proofs.Common.{◌≡◌, ℕ, List, [], ◌++◌, refl, sym, ap, ◌∙◌, subst, append_assoc}
use Rattle.room_log.specs.Log.{State, Update, updates_of}
use Rattle.room_model.specs.Lines.{Line}
use Rattle.room_model.specs.Run.{Run, run, opened}
use Rattle.room_laws.specs.Invariant.{Inv}
use Rattle.room_laws.specs.Laws.{ReadsBack}
use Rattle.room_laws.specs.Moments.{AtEveryMoment, Within}
use Rattle.room_laws.specs.Moves.{Moment}
use Rattle.room_laws.specs.Validity.{ReadableRun}
use Rattle.room_laws.proofs.Follows.{kept, shows}
use Rattle.room_laws.proofs.Growth.{Adds, adds}
use Rattle.room_laws.proofs.Moves.{runs_singly}
use Rattle.room_laws.proofs.Refusals.{taken}
use Rattle.room_laws.proofs.RunSteps.{updates_of-append}
use Rattle.room_laws.proofs.Spared.{served}
use Rattle.room_laws.proofs.UndoSound.{run-append}
use Rattle.room_laws.proofs.Whole.{Good, begins, keeps_all}

front_reads : (s : State) (us vs : List Update) → ReadsBack s (us ++ vs) → ReadsBack s us
front_reads s us vs h ws xs e = h ws (xs ++ vs) (ap (λ ys. ys ++ vs) e ∙ append_assoc ws xs vs)

-- the whole run goes on from the moment
behind : (s : State) (ls : List (ℕ × Line)) (r : Run) (m : Moment s ls r) → run r m.rest ≡ run (opened s) ls
behind s ls r m = ap (λ z. run z m.rest) (sym m.is) ∙ sym (run-append m.front m.rest (opened s)) ∙ ap (run (opened s)) (sym m.lines) ∙ runs_singly (opened s) ls

module _ (reads : ReadableRun) where
  inv : (s : State) (ls : List (ℕ × Line)) (r : Run) (c : ℕ) → Within s ls r c → Inv s r
  inv s ls r c h =
      let m = h.moment in
      let a : Adds r.log (run r m.rest).log = adds r m.rest in
      let whole : ReadsBack s (updates_of (run r m.rest).log) = subst (λ (z : Run). ReadsBack s (updates_of z.log)) (sym (behind s ls r m)) (reads s ls h.valid h.lines) in
      let here : ReadsBack s (updates_of r.log) = front_reads s (updates_of r.log) (updates_of a.more) (subst (ReadsBack s) (ap updates_of a.is ∙ updates_of-append r.log a.more) whole) in
      let good : Good s r = subst (Good s) m.is (keeps_all s m.front (opened s) (λ g. begins s (g [] [] refl))) in
      good here

  pub at_every_moment : AtEveryMoment
  at_every_moment = record {
    shows = λ s ls r c t h e. shows s r c (inv s ls r c h) h.undisturbed t e;
    once = λ s ls r c h. kept s r c (inv s ls r c h) h.undisturbed;
    taken = λ s ls r c k m ms h present first. taken s r c k m ms (inv s ls r c h) h.undisturbed present first;
    served = λ s ls r c k v u us h runs owner first. served s r v k c u us (inv s ls r c h) runs owner h.undisturbed first;
  }
