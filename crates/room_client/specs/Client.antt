-- A client: the account of its editor, with what a connection adds.
use Rattle.std.specs.Prelude.{◌≡◌, ◌≤◌, ℕ, Bool, true, false, if◌then◌else◌, nat_lt, List, [], ◌∷◌, map, is_some}
use Rattle.std.specs.Prelude.{Option, None}
use Rattle.std.specs.Prelude.{⊤}
use Rattle.room_json.specs.declared.tree.Json.{Json}
use Rattle.room_nodes.specs.Shape.{Nodes}
use Rattle.room_msg.specs.Laws.{IsResumable}
use Rattle.room_msg.specs.declared.messages.Resume.{Resume}
use Rattle.room_msg.specs.declared.messages.ClientMsg.{ClientMsg}
use Rattle.room_msg.specs.declared.messages.ClientMsg.TheVariants as client
use Rattle.room_model.specs.Account as account
use Rattle.room_model.specs.Account.{Account, Batch, Part, issued, last_clock, last_issued}
use Rattle.room_client.specs.declared.parts.Kept.{Kept}
use Rattle.room_client.specs.declared.stage.Stage.{Stage}
use Rattle.room_client.specs.declared.stage.Stage.TheVariants.{Idle, Dialled, Connected, Synced}

-- batches up to a clock, and those behind: the first that ends later parts them

abbrev pub up_to : ℕ → List Batch → List Batch
up_to c [] = []
up_to c (b ∷ bs) = if nat_lt c (last_clock b) then [] else b ∷ up_to c bs

abbrev pub behind : ℕ → List Batch → List Batch
behind c [] = []
behind c (b ∷ bs) = if nat_lt c (last_clock b) then b ∷ bs else behind c bs

abbrev pub stage_of : Stage → account.Stage
stage_of Idle = account.Idle
stage_of Dialled = account.Dialled
stage_of Connected = account.Connected
stage_of Synced = account.Synced

abbrev pub is_dialled : account.Stage → Bool
is_dialled account.Idle = false
is_dialled account.Dialled = true
is_dialled account.Connected = false
is_dialled account.Synced = false

abbrev pub part_of : Kept → Part
part_of k = record { seq = k.seq; last = k.last; items = k.items }

abbrev pub parts_of : List Kept → List Part
parts_of ks = map part_of ks

-- the issued batches up to `sent_to` were sent on this connection
abbrev pub client_of : Account → account.Stage → (sent_to : ℕ) → List Part → List Json → Account
client_of x stage sent_to parts events = record x {
  stage = stage;
  sent = up_to sent_to (issued x);
  fresh = behind sent_to (issued x);
  parts = parts;
  events = events;
}

abbrev pub hello_to : List ℕ → Option Resume → List ClientMsg
hello_to room resume = client.Hello (record { room = room; resume = resume; name = None; «pass» = None }) ∷ []

-- what a client keeps to: what was sent was issued; a session has an actor from 1 on; it is known once it is told on a
-- connection, and so is the tree

abbrev pub HasCome : account.Stage → Option Resume → Option Nodes → Type 0
HasCome account.Idle session confirmed = ⊤
HasCome account.Dialled session confirmed = ⊤
HasCome account.Connected session confirmed = is_some session ≡ true
HasCome account.Synced session confirmed = (is_some session ≡ true) × (is_some confirmed ≡ true)

pub record Stands (x : Account) (stage : account.Stage) (sent_to : ℕ) : Type 0 where
  pub sent : sent_to ≤ last_issued x
  pub known : IsResumable x.session
  pub come : HasCome stage x.session x.confirmed
