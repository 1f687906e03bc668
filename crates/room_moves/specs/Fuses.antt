-- The fuse of a disk as the model's, and what so many calls do to it.
use Rattle.std.specs.Prelude.{◌≡◌, ◌≤◌, ℕ, zero, suc, ◌+◌, ◌-◌, Bool, true, false, Option, Some, None}
use Rattle.room_disk.specs.declared.disk.Stop.{Stop}
use Rattle.room_disk.specs.declared.disk.Stop.TheVariants as stop
use Rattle.room_fuse.specs.Mirrors.{CountsDownBetween}
use Rattle.room_model.specs.Lines.{How, Old, New, Torn}
use Rattle.room_model.specs.World.{Fuse, Intact, Fires, burn, is_kept}

abbrev pub how_of : Stop → How
how_of stop.Old = Old
how_of stop.New = New
how_of stop.Torn = Torn

-- a disk that is armed for the call of that number; 0 is for none
abbrev pub fuse_on : ℕ → Stop → Option Fuse
fuse_on zero way = None
fuse_on (suc n) way = Some (record { left = suc n; how = how_of way })

-- a disk that made all the calls, and hasn't stopped
abbrev pub GoesOn : Type 0
GoesOn = (calls armed before : ℕ) (way : Stop) (armed_now now : ℕ) (way_now : Stop)
    → CountsDownBetween false armed before way false armed_now now way_now → now ≡ before + calls
    → burn calls (fuse_on armed way) ≡ Intact (fuse_on armed_now way_now)

-- a disk that stopped at one of the calls
abbrev pub StopsThere : Type 0
StopsThere = (calls armed before : ℕ) (way : Stop) (armed_now now : ℕ) (way_now : Stop)
    → CountsDownBetween false armed before way true armed_now now way_now → now ≤ before + calls
    → burn calls (fuse_on armed way) ≡ Fires (now - before) (how_of way)

-- what a stop leaves of a commit: in its first two calls nothing, later the entry, but where what was held back is left
-- out

abbrev pub leaves_held : Stop → Bool
leaves_held stop.Old = false
leaves_held stop.New = true
leaves_held stop.Torn = true

abbrev pub EarlyIsNotKept : Type 0
EarlyIsNotKept = (call : ℕ) (way : Stop) → call ≤ 2 → is_kept call (how_of way) ≡ false

abbrev pub LateIsKept : Type 0
LateIsKept = (call : ℕ) (way : Stop) → 3 ≤ call → is_kept call (how_of way) ≡ leaves_held way
