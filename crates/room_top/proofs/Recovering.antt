-- What a stop leaves of a run that ended.
use Rattle.std.proofs.Common.{◌≡◌, inl, inr, ⊎_elim, ℕ, List, [], ◌∷◌, ◌++◌, Option, Err, refl, sym, ◌∙◌}
use Rattle.std.proofs.Common.{append_assoc, subst}
use Rattle.std.proofs.Math.Nat.{le_refl, le_antisymm}
use Rattle.room_disk.specs.Model.{Reads, Images, WholeBetween}
use Rattle.room_host.proofs.Lying.{stands_state}
use Rattle.room_log.specs.Log.{State}
use Rattle.room_model.specs.Lines.{Line}
use Rattle.room_model.specs.World.{World, state_in}
use Rattle.room_replay.specs.Files.{Files, Damaged, Stands, StandsFor}
use Rattle.room_run.specs.Halting.{IsDone, IsOfOpening}
use Rattle.room_run.specs.Running.{Replayed, Replays, InOpening}
use Rattle.room_run.specs.declared.halt.Halt.{Halt}
use Rattle.room_run.specs.declared.halt.Halt.TheVariants as halt
use Rattle.room_store.specs.Consistent.{BeforeOr}
use Rattle.room_top.specs.Recovery.{Recovers}

-- files that stand for a state aren't damaged
pub not_damaged : (s : State) (fs : Files) (f at : ℕ) → Stands s fs → fs ≡ Damaged f at → ⊥
not_damaged s fs f at (inl room) is = cc
not_damaged s fs f at (inr new) is = cc

not_both : (e : Halt) → IsOfOpening e → IsDone {T = Unit {0}} (Err e) → ⊥
not_both halt.Memory o d = d
not_both halt.Sink o d = o
not_both halt.Disk o d = d
not_both (halt.Damaged f at) o d = d

module _ (images : Images) (seen : Reads) (s : State) (ls : List (ℕ × Line)) (rose : Type 0) where
  -- a run that was done
  pub recovers_done : (from till : ℕ) (old now : Option (List ℕ)) → ((f : ℕ) → images till f (seen f))
      → Replayed images s ls old now from till → Recovers images seen s ls rose from till 0
  recovers_done from till old now here r = record {
    opened = r.opened;
    opens = r.opens;
    done = r.ran.done;
    left = [];
    lines_are = r.ran.lines_are;
    along = r.ran.along;
    all = λ z. refl;
    ends = λ a b. subst (λ (w : World). StandsFor 0 (state_in w.host) seen) r.ran.world_is (r.ran.ends seen here);
  }

  -- one that ended in its opening, or behind it
  pub recovers_none : (from till status : ℕ) → (status ≡ 0 → ls ≡ []) → InOpening images (images from) s from till
      → ((status ≡ 1 → ⊥) → (rose → ⊥) → StandsFor 0 s seen) → Recovers images seen s ls rose from till status
  recovers_none from till status all opens ends = record {
    opened = till;
    opens = opens;
    done = [];
    left = ls;
    lines_are = refl;
    along = refl;
    all = all;
    ends = ends;
  }

  -- or in a line
  pub recovers_halted : (e : Halt) (from till status : ℕ) (old now : Option (List ℕ)) → (status ≡ 0 → ⊥)
      → ((status ≡ 1 → ⊥) → (rose → ⊥) → IsDone {T = Unit {0}} (Err e)) → ((f : ℕ) → images till f (seen f))
      → Replays {T = Unit {0}} (Err e) images s ls old now from till → Recovers images seen s ls rose from till status
  recovers_halted e from till status old now not_done done here (inl unopened) =
      recovers_none from till status (λ z. absurd (not_done z)) unopened.0.opens
      (λ a b. absurd (not_both e unopened.1 (done a b)))
  recovers_halted e from till status old now not_done done here (inr broken) = record {
    opened = broken.opened;
    opens = broken.opens;
    done = broken.halted.done ++ broken.halted.line ∷ [];
    left = broken.halted.left;
    lines_are = append_assoc broken.halted.done (broken.halted.line ∷ []) broken.halted.left ∙ broken.halted.lines_are;
    along = broken.halted.along;
    all = λ z. absurd (not_done z);
    ends = λ a b. broken.halted.ends (done a b) seen here;
  }

-- an opening by itself, as the disk tells it
pub opens_within : (before now : ℕ) (was is : Images) (s : State)
    → WholeBetween before now was is (BeforeOr (was before) (StandsFor 0 s)) → InOpening is (is before) s before now
opens_within before now was is s run = record {
  later = run.later;
  each = λ m image from till left. ⊎_elim
      (λ (old : (f : ℕ) → was before f (image f)). inl (λ f. run.keeps.kept before f (image f) (le_refl before) (old f)))
      (λ (new : StandsFor 0 s image). inr new)
      (run.each m image from till left);
}

-- a disk that stays as it is
pub opens_nothing : (at : ℕ) (is : Images) (s : State) → InOpening is (is at) s at at
opens_nothing at is s = record {
  later = le_refl at;
  each = λ m image from till left.
      inl (λ f. subst (λ (n : ℕ). is n f (image f)) (le_antisymm till from) (left f));
}

-- files stand for one state alone
pub stands_for_one : (s t : State) (fs : Files) → Stands s fs → Stands t fs → s ≡ t
stands_for_one s t fs a b = sym (stands_state s fs a) ∙ stands_state t fs b
