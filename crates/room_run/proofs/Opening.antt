-- A run from the opening on.
use Rattle.std.proofs.Common.{◌≡◌, ◌⊎◌, inl, inr, ⊎_elim, ℕ, List, Option, Result, Ok, Err, sym, subst, arith}
use Rattle.std.specs.Prelude.{OnOk, IfErr}
use Rattle.room_disk.specs.Model.{Reads, Images, Keeps, WholeBetween}
use Rattle.room_fuse.specs.Mirrors.{MirrorsBetween}
use Rattle.room_host.specs.Seen.{room_files}
use Rattle.room_host.proofs.Lying.{same_files}
use Rattle.room_log.specs.Log.{State}
use Rattle.room_model.specs.Lines.{Line}
use Rattle.room_model.specs.World.{World, opening}
use Rattle.room_moves.proofs.Moments.{holds_within}
use Rattle.room_replay.specs.Files.{Stands, StandsFor}
use Rattle.room_store.specs.Consistent.{BeforeOr}
use Rattle.room_run.specs.Running.{InOpening, Runs, Replays}
use Rattle.room_run.specs.declared.halt.Halt.{Halt}

-- files that read alike stand alike
pub stands_seen : (s : State) (a b : Reads) → ((f : ℕ) → a f ≡ b f) → Stands s (room_files b) → Stands s (room_files a)
stands_seen s a b same stands = subst (Stands s) (sym (same_files a b same)) stands

-- what was before is the images of the last disk at the first moment
pub opens : (before : ℕ → List ℕ → Type 0) (s : State) (from mid : ℕ) (was so is : Images)
    → ((f : ℕ) (c : List ℕ) → before f c → was from f c)
    → WholeBetween from mid was so (BeforeOr before (StandsFor 0 s))
    → Keeps mid so is → InOpening is (is from) s from mid
opens before s from mid was so is old run keeps = record {
  later = run.later;
  each = λ m image after till left. ⊎_elim
      (λ (was_there : (f : ℕ) → before f (image f)).
      inl (λ f. keeps.kept from f (image f) run.later
      (run.keeps.kept from f (image f) (omega arith) (old f (image f) (was_there f)))))
      (λ stands. inr stands)
      (run.each m image after till (λ f. keeps.nothing_else m f (image f) till (left f)));
}

-- the same of a disk over an inner one
pub opens_inner : (before now : ℕ) (outer_was outer_is : Images) (s : State) (from mid : ℕ) (was so is : Images)
    → MirrorsBetween before now outer_was outer_is from mid was so
    → ((f : ℕ) (c : List ℕ) → outer_was before f c → was from f c)
    → WholeBetween before now outer_was outer_is (BeforeOr (outer_was before) (StandsFor 0 s))
    → Keeps mid so is → InOpening is (is from) s from mid
opens_inner before now outer_was outer_is s from mid was so is mirrors old run keeps =
    opens (outer_was before) s from mid was so is old
    (holds_within (BeforeOr (outer_was before) (StandsFor 0 s)) before now outer_was outer_is from mid was so mirrors
    run) keeps

-- what is so whatever the result

pub on_ok : {T : Type 0} (r : Result T Halt) (P : Type 0) → P → OnOk r P
on_ok (Ok x) P p = p
on_ok (Err e) P p = tt

pub on_err : {T : Type 0} (r : Result T Halt) (P : Type 0) (Q : Halt → Type 0) → P → IfErr r (λ e. P ⊎ Q e)
on_err (Ok x) P Q p = tt
on_err (Err e) P Q p = inl p

pub replays_on : {T : Type 0} (r : Result T Halt) (is : Images) (s : State) (ls : List (ℕ × Line))
    (told now : Option (List ℕ)) (from mid till : ℕ) (v : World) → InOpening is (is from) s from mid
    → Runs r is (opening s) ls told now mid till v → Replays r is s ls told now from till
replays_on (Ok x) is s ls told now from mid till v opened ran =
    record { opened = mid; opens = opened; world = v; ran = ran }
replays_on (Err e) is s ls told now from mid till v opened halted =
    inr (record { opened = mid; opens = opened; halted = halted })
