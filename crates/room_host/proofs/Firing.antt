-- The fuse of a disk after its calls.
use Rattle.std.proofs.Common.{◌≡◌, ◌≤◌, ℕ, ◌+◌, ◌-◌, Bool, true, false, subst}
use Rattle.room_disk.specs.declared.disk.Stop.{Stop}
use Rattle.room_fuse.specs.Mirrors.{CountsDown, CountsDownBetween}
use Rattle.room_model.specs.World.{Fires, burn}
use Rattle.room_moves.specs.Fuses.{how_of, GoesOn, StopsThere}
use Rattle.room_moves.proofs.Fuses.{goes_on, stops_there}
use Rattle.room_host.specs.Seen.{fuse_of}
use Rattle.room_host.specs.Outcomes as out

module _ {D : Type 0} (stopped : D → Bool) (armed moment : D → ℕ) (way : D → Stop) (old new : D) where
  counted : (a b : Bool) → stopped old ≡ a → stopped new ≡ b → CountsDown stopped armed moment way old new
      → CountsDownBetween a (armed old) (moment old) (way old) b (armed new) (moment new) (way new)
  counted a b is so c =
      subst (λ (x : Bool). CountsDownBetween a (armed old) (moment old) (way old) x (armed new) (moment new) (way new))
      so
      (subst
      (λ (x : Bool). CountsDownBetween x (armed old) (moment old) (way old) (stopped new) (armed new) (moment new)
      (way new))
      is c)

  -- a disk that made so many calls
  pub made : (calls : ℕ) → stopped old ≡ false → stopped new ≡ false → CountsDown stopped armed moment way old new
      → moment new ≡ moment old + calls → out.GoesOn calls (fuse_of armed way old) (fuse_of armed way new)
  made calls was is c all =
      goes_on calls (armed old) (moment old) (way old) (armed new) (moment new) (way new) (counted false false was is c)
      all

  -- a disk that stopped in so many calls
  pub fired : (calls : ℕ) → stopped old ≡ false → stopped new ≡ true → CountsDown stopped armed moment way old new
      → moment new ≤ moment old + calls
      → burn calls (fuse_of armed way old) ≡ Fires (moment new - moment old) (how_of (way old))
  fired calls was is c most =
      stops_there calls (armed old) (moment old) (way old) (armed new) (moment new) (way new)
      (counted false true was is c) most
