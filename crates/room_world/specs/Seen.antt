-- A world with its disk, as the model's world.
use Rattle.std.specs.Prelude.{ℕ, Bool, Option}
use Rattle.std.specs.Ordering.{nat_cmp}
use Rattle.std.specs.FinMap.{FinMap}
use Rattle.room_replay.specs.Files.{Files}
use Rattle.room_disk.specs.Model.{Reads, Images}
use Rattle.room_disk.specs.Stops.{Left}
use Rattle.room_disk.specs.declared.disk.Stop.{Stop}
use Rattle.room_model.specs.World.{World, Slot, Conn, Fuse}
use Rattle.room_arrivals.specs.Serving.{limits_of}
use Rattle.room_moves.specs.Fuses.{fuse_on}
use Rattle.room_host.specs.Seen.{Hosting, host_in, room_files}

-- what a world holds beside its disk
pub record Peopled : Type 0 where
  pub hosting : Hosting
  pub clients : FinMap nat_cmp Slot
  pub conns : FinMap nat_cmp Conn
  pub opened : ℕ

-- with what the disk's files stand for, and its fuse
abbrev pub world_in : Peopled → Files → Option Fuse → World
world_in p fs fuse = record {
  host = host_in p.hosting.server fs;
  limits = limits_of p.hosting.limits;
  fuse = fuse;
  clients = p.clients;
  conns = p.conns;
  opened = p.opened;
}

-- the same of a disk
abbrev pub world_on : {D : Type 0} → (D → Reads) → (D → ℕ) → (D → Stop) → Peopled → D → World
world_on seen armed way p d = world_in p (room_files (seen d)) (fuse_on (armed d) (way d))
