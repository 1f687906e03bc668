-- A move of a drain.
use Rattle.std.specs.Prelude.{◌≡◌, ◌⊎◌, ℕ, List, Option, Some, None}
use Rattle.std.specs.FinMap.{entries}
use Rattle.room_disk.specs.Model.{Reads, Images, WithinWhole}
use Rattle.room_disk.specs.declared.disk.Stop.{Stop}
use Rattle.room_log.specs.Log.{State, Entry, state_after}
use Rattle.room_model.specs.World.{World, Host, Stopped, drain_next, drain_once, has_inbound, least, state_in}
use Rattle.room_moves.specs.Moments.{OfFirst}
use Rattle.room_replay.specs.Files.{StandsFor}
use Rattle.room_world.specs.Did.{Did}
use Rattle.room_world.specs.Seen.{Peopled, world_on}
use Rattle.room_world.specs.Trying.{move_tries}

-- nothing waits, and nothing has changed; or it was the model's next move
abbrev pub Moves : World → (number : ℕ) → World → Option (List (List ℕ)) → Type 0
Moves w number v None = (drain_next w number ≡ None) × (v ≡ w)
Moves w number v (Some lines) = Did (drain_once w number) lines v

-- what the next move tries to add
abbrev pub next_tries : World → List Entry
next_tries w = move_tries w (least has_inbound (entries w.conns))

-- each image within it stands for the state before it with a first part of that
abbrev pub TriesNext : {D : Type 0} → (D → Reads) → (D → ℕ) → (D → Stop) → (D → ℕ) → (D → Images) → Peopled → D → D
    → Type 0
TriesNext seen armed way moment images p before after =
    let w = world_on seen armed way p before in
    WithinWhole moment images before after (OfFirst (StandsFor 0) (state_in w.host) (next_tries w))

-- The server holds the state with what was tried; or the disk stopped, and the server is stopped with the state before.
abbrev pub Leaves : State → List Entry → Host → Type 0
Leaves s es h = (state_in h ≡ state_after s es) ⊎ (h ≡ Stopped s)
