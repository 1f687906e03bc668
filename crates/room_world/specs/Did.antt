-- What a line of a world did.
use Rattle.std.specs.Prelude.{◌≡◌, ℕ, List, Option}
use Rattle.room_replay.specs.Files.{Files}
use Rattle.room_disk.specs.Model.{Reads}
use Rattle.room_disk.specs.declared.disk.Stop.{Stop}
use Rattle.room_model.specs.World.{World, Stepped, Fuse, step}
use Rattle.room_model.specs.Lines.{Line}
use Rattle.room_world.specs.Seen.{Peopled, world_in, world_on}

-- it wrote the lines, and left the world, of the model's step
pub record Did (out : Stepped) (lines : List (List ℕ)) (now : World) : Type 0 where
  pub lines_are : out.lines ≡ lines
  pub world_is : out.world ≡ now

-- a line that leaves the disk as it is, whatever that is
abbrev pub Does : Peopled → Peopled → (number : ℕ) → Line → List (List ℕ) → Type 0
Does old new number l lines = (fs : Files) (fuse : Option Fuse)
    → Did (step (world_in old fs fuse) number l) lines (world_in new fs fuse)

-- a part of a line, which changes the model's world so
abbrev pub Becomes : Peopled → Peopled → (World → World) → Type 0
Becomes old new change = (fs : Files) (fuse : Option Fuse) → world_in new fs fuse ≡ change (world_in old fs fuse)

-- a line over a disk
abbrev pub DoesOn : {D : Type 0} → (D → Reads) → (D → ℕ) → (D → Stop) → Peopled → D → Peopled → D → (number : ℕ) → Line
    → List (List ℕ) → Type 0
DoesOn seen armed way old before new after number l lines =
    Did (step (world_on seen armed way old before) number l) lines (world_on seen armed way new after)
