-- The entries that a line tries to add: those that it adds, and one whose commit the disk stops in and that isn't kept.
use Rattle.std.specs.Prelude.{ℕ, zero, suc, List, [], ◌++◌, Option, Some, None}
use Rattle.std.specs.FinMap.{get, entries}
use Rattle.room_disk.specs.Model.{Reads, Images, WithinWhole}
use Rattle.room_disk.specs.declared.disk.Stop.{Stop}
use Rattle.room_log.specs.Log.{Entry}
use Rattle.room_model.specs.Lines as lines
use Rattle.room_model.specs.Lines.{Line}
use Rattle.room_model.specs.Server.{Inbound, serve}
use Rattle.room_model.specs.World.{World, Host, Running, Stopped, state_in, entries_in, least, has_inbound, drain_once}
use Rattle.room_moves.specs.Moments.{OfFirst}
use Rattle.room_queues.specs.Calls.{next_inbound}
use Rattle.room_replay.specs.Files.{StandsFor}
use Rattle.room_world.specs.Seen.{Peopled, world_on}

abbrev pub tried_by : ℕ → Host → Option Inbound → List Entry
tried_by k (Running v) (Some u) = entries_in (serve v k u).entry
tried_by k (Running v) None = []
tried_by k (Stopped s) u = []

-- as the server receives the next frame of a connection
abbrev pub up_tries : World → ℕ → List Entry
up_tries w k = tried_by k w.host (next_inbound (get w.conns k))

abbrev pub move_tries : World → Option ℕ → List Entry
move_tries w None = []
move_tries w (Some k) = up_tries w k

abbrev pub drain_tries : World → ℕ → ℕ → List Entry
drain_tries w number zero = []
drain_tries w number (suc n) =
    move_tries w (least has_inbound (entries w.conns)) ++ drain_tries (drain_once w number).world number n

abbrev pub traffic_tries : World → ℕ → lines.Traffic → List Entry
traffic_tries w k lines.Up = up_tries w k
traffic_tries w k lines.Down = []
traffic_tries w k lines.Gone = []
traffic_tries w k (lines.Raw text) = []

abbrev pub tries : World → ℕ → Line → List Entry
tries w number (lines.OfClient c call) = []
tries w number (lines.AsksClient c question) = []
tries w number (lines.OfConnection k traffic) = traffic_tries w k traffic
tries w number (lines.OfServer service) = []
tries w number (lines.Drain n) = drain_tries w number n
tries w number lines.Link = []

-- each image within the line stands for the state before it with a first part of what the line tries to add
abbrev pub TriesOn : {D : Type 0} → (D → Reads) → (D → ℕ) → (D → Stop) → (D → ℕ) → (D → Images) → Peopled → D → D
    → (number : ℕ) → Line → Type 0
TriesOn seen armed way moment images p before after number l =
    let w = world_on seen armed way p before in
    WithinWhole moment images before after (OfFirst (StandsFor 0) (state_in w.host) (tries w number l))
