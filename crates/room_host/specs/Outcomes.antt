-- What the calls of a host do to it and to the disk's fuse, by the model's world.
use Rattle.std.specs.Prelude.{◌≡◌, ℕ, if◌then◌else◌, List, [], map, Bool, true, false, Option, Some, None}
use Rattle.std.specs.FinMap.{empty}
use Rattle.room_log.specs.Log.{State}
use Rattle.room_links.specs.Outs.{written}
use Rattle.room_model.specs.Server.{Server, Served, Limits, Outbound, gone}
use Rattle.room_model.specs.Lines.{How, start_line, start_failed_line}
use Rattle.room_model.specs.World.{Host, Running, Stopped, Fuse, Intact, Fires, burn, commit_calls, is_kept}
use Rattle.room_model.specs.World.{state_with, room_name}
use Rattle.room_server.specs.Hosted.{Hosted}
use Rattle.room_host.specs.declared.outcomes.Heard.{Heard}
use Rattle.room_host.specs.declared.outcomes.Heard.TheVariants as heard
use Rattle.room_host.specs.declared.outcomes.Started.{Started}
use Rattle.room_host.specs.declared.outcomes.Started.TheVariants as started

-- the disk made so many calls, and the fuse goes on with what is left
abbrev pub GoesOn : ℕ → Option Fuse → Option Fuse → Type 0
GoesOn calls fuse now = burn calls fuse ≡ Intact now

-- the fuse fired at one of so many calls; what that leaves is told by the call and the way
pub record FiresIn (calls : ℕ) (fuse now : Option Fuse) (host : Host) (left : ℕ → How → State) : Type 0 where
  pub call : ℕ
  pub how : How
  pub fires : burn calls fuse ≡ Fires call how
  pub disarmed : now ≡ None
  pub stopped : host ≡ Stopped (left call how)

-- a frame, where the server served it so

-- what a stop in its commit leaves
abbrev pub left_of : Server → Served → ℕ → How → State
left_of v out call how = if is_kept call how then state_with v.state out.entry else v.state

abbrev pub HearsAs : Server → Served → Option Fuse → Option Fuse → Host → Heard → Type 0
HearsAs v out fuse now host (heard.Sends outs) =
    GoesOn (commit_calls out.entry) fuse now × (host ≡ Running out.server) × (outs ≡ map written out.outs)
HearsAs v out fuse now host heard.Stopped = FiresIn (commit_calls out.entry) fuse now host (left_of v out)

-- which server there is after a frame
abbrev pub server_after : Heard → Hosted → Option Hosted
server_after (heard.Sends outs) h = Some h
server_after heard.Stopped h = None

-- a start, by the host before it

abbrev pub begun : State → Limits → Server
begun s limits = record { state = s; room = room_name; limits = limits; access = None; links = empty }

abbrev pub StartsAs : Host → Limits → Option Fuse → Option Fuse → Host → Started → Type 0
StartsAs (Running v) limits fuse now host started.Ran = (host ≡ Running v) × (now ≡ fuse)
StartsAs (Running v) limits fuse now host started.Began = ⊥
StartsAs (Running v) limits fuse now host started.Failed = ⊥
StartsAs (Stopped s) limits fuse now host started.Ran = ⊥
StartsAs (Stopped s) limits fuse now host started.Began = GoesOn 2 fuse now × (host ≡ Running (begun s limits))
StartsAs (Stopped s) limits fuse now host started.Failed = FiresIn 2 fuse now host (λ call how. s)

abbrev pub started_by : Option Hosted → Started
started_by (Some h) = started.Began
started_by None = started.Failed

-- the line of a start, by the host after it
abbrev pub start_shown : Host → List ℕ
start_shown (Running v) = start_line v.state
start_shown (Stopped s) = start_failed_line

-- a compaction: whether the host was stopped by it
abbrev pub CompactsAs : Host → Option Fuse → Option Fuse → Host → Bool → Type 0
CompactsAs (Running v) fuse now host false = GoesOn 6 fuse now × (host ≡ Running v)
CompactsAs (Running v) fuse now host true = FiresIn 6 fuse now host (λ call how. v.state)
CompactsAs (Stopped s) fuse now host false = (host ≡ Stopped s) × (now ≡ fuse)
CompactsAs (Stopped s) fuse now host true = ⊥

-- a stop: whether the host ran
abbrev pub StopsAs : Host → Option Fuse → Option Fuse → Host → Bool → Type 0
StopsAs (Running v) fuse now host true = (host ≡ Stopped v.state) × (now ≡ None)
StopsAs (Running v) fuse now host false = ⊥
StopsAs (Stopped s) fuse now host true = ⊥
StopsAs (Stopped s) fuse now host false = (host ≡ Stopped s) × (now ≡ fuse)

-- which server there is after a call that it was stopped by, or wasn't
abbrev pub server_unless : Bool → Hosted → Option Hosted
server_unless false h = Some h
server_unless true h = None

-- a connection that is gone: the host after it, and what goes out for it

abbrev pub gone_in : Host → ℕ → Host
gone_in (Running v) k = Running (gone v k).server
gone_in (Stopped s) k = Stopped s

abbrev pub outs_in : Host → ℕ → List (ℕ × Outbound)
outs_in (Running v) k = (gone v k).outs
outs_in (Stopped s) k = []
