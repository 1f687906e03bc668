-- What a disk that was settled after a stop holds.
use Rattle.std.proofs.Common.{◌≡◌, inl, inr, ⊎_elim, ℕ, ◌+◌, List, take, refl, sym, ap, ◌∙◌, subst, None}
use Rattle.std.specs.Prelude.{◌⊎◌}
use Rattle.room_disk.specs.Model.{Reads, Images, Only, WithinWhole}
use Rattle.room_disk.specs.Stops.{Left}
use Rattle.room_disk.specs.declared.disk.Stop.{Stop}
use Rattle.room_log.specs.Log.{State, Entry, empty_state, state_after}
use Rattle.room_journal.specs.Files.{reading}
use Rattle.room_replay.specs.Files.{Files, New, Room, files, Stands, StandsFor}
use Rattle.room_store.specs.Consistent.{IsWritten, AreWritten}
use Rattle.room_moves.specs.Fuses.{fuse_on}
use Rattle.room_moves.specs.Moments.{OfFirst}
use Rattle.room_host.specs.Rests.{Lies, Holds}
use Rattle.room_host.specs.Seen.{state_in_files, room_files, fuse_of}
use Rattle.room_host.proofs.Moments.{at_end, settled}

-- files that stand for a state

pub stands_state : (s : State) (fs : Files) → Stands s fs → state_in_files fs ≡ s
stands_state s fs is = ⊎_elim
    (λ (e : fs ≡ Room s). ap state_in_files e)
    (λ (e : (fs ≡ New) × (s ≡ empty_state)). ap state_in_files e.0 ∙ sym e.1)
    is

pub same_files : (a b : Reads) → ((f : ℕ) → a f ≡ b f) → room_files a ≡ room_files b
same_files a b same = ap (λ (x : List ℕ). files 0 x (a 1)) (same 0) ∙ ap (λ (y : List ℕ). files 0 (b 0) y) (same 1)

-- a disk that isn't armed has no fuse
pub no_fuse : {D : Type 0} (armed : D → ℕ) (way : D → Stop) (d : D) → armed d ≡ 0 → fuse_of armed way d ≡ None
no_fuse armed way d is = ap (λ (n : ℕ). fuse_on n (way d)) is

module _ {D : Type 0} (seen : D → Reads) (moment : D → ℕ) (images : D → Images) (leaves : D → Left) (mid new : D)
    (w : Stop) where
  -- by what the stop may leave
  pub holds : (s : State) → ((f : ℕ) → seen new f ≡ leaves mid w f)
      → Only (seen new 0) (images new (moment new) 0)
      → Only (seen new (0 + 1)) (images new (moment new) (0 + 1))
      → StandsFor 0 s (leaves mid w) → AreWritten 0 (leaves mid w) → Holds (images new (moment new)) s
  holds s same first second stands written = record {
    stands = settled (λ (a b : List ℕ). Stands s (files 0 a b)) (leaves mid w) (seen new) (images new (moment new)) 0
        (0 + 1) same first second stands;
    written = settled (λ (a b : List ℕ). IsWritten (reading 0 a b)) (leaves mid w) (seen new) (images new (moment new))
        0 (0 + 1) same first second written;
  }

  pub lies : (old : D) (s : State) (es : List Entry)
      → WithinWhole moment images old mid (OfFirst (StandsFor 0) s es)
      → WithinWhole moment images old mid (AreWritten 0)
      → ((f : ℕ) → images mid (moment mid) f (leaves mid w f))
      → ((f : ℕ) → seen new f ≡ leaves mid w f)
      → Only (seen new 0) (images new (moment new) 0)
      → Only (seen new (0 + 1)) (images new (moment new) (0 + 1)) → Lies (images new (moment new))
  lies old s es moments written image same first second =
      let at = at_end moment images (OfFirst (StandsFor 0) s es) old mid moments (leaves mid w) image in
      let is = at_end moment images (AreWritten 0) old mid written (leaves mid w) image in
      (state_after s (take at.count es), holds (state_after s (take at.count es)) same first second at.stands is)

  -- the state that is seen then
  pub seen_state : (s : State) → ((f : ℕ) → seen new f ≡ leaves mid w f) → StandsFor 0 s (leaves mid w)
      → state_in_files (room_files (seen new)) ≡ s
  seen_state s same stands =
      ap state_in_files (same_files (seen new) (leaves mid w) same) ∙ stands_state s (room_files (leaves mid w)) stands
