-- A host, as contracts see it: a server that runs or is stopped, and the limits that it starts with.
use Rattle.std.specs.Prelude.{ℕ, Option, Some, None}
use Rattle.room_log.specs.Log.{State, empty_state}
use Rattle.room_disk.specs.Model.{Reads}
use Rattle.room_disk.specs.declared.disk.Stop.{Stop}
use Rattle.room_replay.specs.Files.{Files, New, Room, Damaged, files}
use Rattle.room_model.specs.World.{Host, Running, Stopped, Fuse}
use Rattle.room_moves.specs.Fuses.{fuse_on}
use Rattle.room_store.specs.declared.limits.Limits.{Limits}
use Rattle.room_server.specs.Hosted.{Hosted, server_in}

pub record Hosting : Type 0 where
  pub server : Option Hosted
  pub limits : Limits

-- the state that files stand for; damaged ones stand for none
abbrev pub state_in_files : Files → State
state_in_files New = empty_state
state_in_files (Room s) = s
state_in_files (Damaged f at) = empty_state

-- the room's files, as a disk reads
abbrev pub room_files : Reads → Files
room_files seen = files 0 (seen 0) (seen 1)

-- the model's host: a stopped one is what the files stand for
abbrev pub host_in : Option Hosted → Files → Host
host_in (Some h) fs = Running (server_in h)
host_in None fs = Stopped (state_in_files fs)

-- the model's fuse of a disk
abbrev pub fuse_of : {D : Type 0} → (D → ℕ) → (D → Stop) → D → Option Fuse
fuse_of armed way d = fuse_on (armed d) (way d)
