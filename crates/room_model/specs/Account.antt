-- The account of a client: what it holds, shows and sends.
use Rattle.std.specs.Prelude.{ℕ, ◌+◌, ◌-◌, pos, negsuc, Bool, true, false, if◌then◌else◌, nat_lt, max, List, [], ◌∷◌}
use Rattle.std.specs.Prelude.{◌++◌, length, drop, Option, Some, None}
use Rattle.room_json.specs.Value.{Value}
use Rattle.room_json.specs.declared.tree.Json.{Json}
use Rattle.room_nodes.specs.declared.nodes.Op.{Op}
use Rattle.room_nodes.specs.declared.nodes.Body.{Body}
use Rattle.room_nodes.specs.declared.nodes.Change.{Change}
use Rattle.room_nodes.specs.Shape.{Nodes}
use Rattle.room_nodes.specs.Steps.{fold}
use Rattle.room_msg.specs.declared.messages.Resume.{Resume}
use Rattle.room_msg.specs.declared.messages.ClientMsg.{ClientMsg}
use Rattle.room_msg.specs.declared.messages.ClientMsg.TheVariants as client
use Rattle.room_msg.specs.Written.{client_text}
use Rattle.room_log.specs.Log.{ops_from, last_from}
use Rattle.room_model.specs.Edits.{Clocks}
use Rattle.room_model.specs.History.{History, empty_history}
use Rattle.room_model.specs.Presence.{Others, nobody}

-- no connection; dialled; told its session; told the state on this connection
pub data Stage : Type 0 where
  Idle : Stage
  Dialled : Stage
  Connected : Stage
  Synced : Stage

-- a closed batch: its operation i, counted from 0, has the clock first + i
pub record Batch : Type 0 where
  pub first : ℕ
  pub bodies : List Body

-- the open batch: its operations so far, the changes that go back, the newest first, and the presence keys patched
-- in it, in byte order
pub record OpenBatch : Type 0 where
  pub bodies : List Body
  pub changes : List Change
  pub keys : List (List ℕ)

-- a part of a state, kept until the last one comes
pub record Part : Type 0 where
  pub seq : ℕ
  pub last : ℕ
  pub items : List Value

pub record Account : Type 0 where
  pub room : List ℕ
  pub stage : Stage
  pub session : Option Resume  -- its actor and key, once told
  pub sent : List Batch  -- closed batches beyond `told` that were sent on this connection
  pub fresh : List Batch  -- and those after them, that were not
  pub batch : Option OpenBatch  -- the open one
  pub told : ℕ  -- the last acknowledged clock
  pub n : ℕ  -- the number of the last update taken
  pub confirmed : Option Nodes  -- the tree after it, from the first state on
  pub parts : List Part
  pub node : ℕ  -- the next node clock
  pub me : List (List ℕ × Value)  -- its own presence
  pub unsent : List (List ℕ)  -- the presence keys not yet sent to all, in byte order
  pub others : Others
  pub events : List Json  -- queued
  pub history : History

abbrev pub new_account : List ℕ → Account
new_account room = record {
  room = room;
  stage = Idle;
  session = None;
  sent = [];
  fresh = [];
  batch = None;
  told = 0;
  n = 0;
  confirmed = None;
  parts = [];
  node = 1;
  me = [];
  unsent = [];
  others = nobody;
  events = [];
  history = empty_history;
}

-- what it says of itself

abbrev pub actor_in : Option Resume → ℕ
actor_in None = 0
actor_in (Some s) = s.actor

-- 0 while it knows no session
abbrev pub actor : Account → ℕ
actor x = actor_in x.session

-- the closed batches beyond `told`, in order
abbrev pub issued : Account → List Batch
issued x = x.sent ++ x.fresh

abbrev pub last_clock : Batch → ℕ
last_clock b = last_from b.first b.bodies

-- the last clock of these batches, or else c
abbrev pub ends : ℕ → List Batch → ℕ
ends c [] = c
ends c (b ∷ bs) = ends (last_clock b) bs

-- the last clock that was issued
abbrev pub last_issued : Account → ℕ
last_issued x = ends x.told (issued x)

-- what is left of a batch beyond a clock
abbrev pub rest_of : ℕ → Batch → Batch
rest_of c b = record { first = max b.first (c + 1); bodies = drop (c + 1 - b.first) b.bodies }

-- the batches beyond a clock, those with nothing left out
abbrev pub beyond : ℕ → List Batch → List Batch
beyond c [] = []
beyond c (b ∷ bs) = if nat_lt c (last_clock b) then rest_of c b ∷ beyond c bs else beyond c bs

abbrev pub batch_ops : ℕ → Batch → List Op
batch_ops a b = ops_from a b.first b.bodies

abbrev pub all_ops : ℕ → List Batch → List Op
all_ops a [] = []
all_ops a (b ∷ bs) = batch_ops a b ++ all_ops a bs

abbrev pub all_bodies : List Batch → List Body
all_bodies [] = []
all_bodies (b ∷ bs) = b.bodies ++ all_bodies bs

abbrev pub bodies_in : Option OpenBatch → List Body
bodies_in None = []
bodies_in (Some o) = o.bodies

abbrev pub keys_in : Option OpenBatch → List (List ℕ)
keys_in None = []
keys_in (Some o) = o.keys

-- the operations of the open batch, which isn't issued yet
abbrev pub open_ops : Account → List Op
open_ops x = ops_from (actor x) (last_issued x + 1) (bodies_in x.batch)

-- the own operations beyond `told`, the open batch's too
abbrev pub pending : Account → List Op
pending x = all_ops (actor x) (issued x) ++ open_ops x

abbrev pub pending_bodies : Account → List Body
pending_bodies x = all_bodies (issued x) ++ bodies_in x.batch

abbrev pub shown_over : Account → Option Nodes → Option Nodes
shown_over x None = None
shown_over x (Some t) = Some (fold t (pending_bodies x))

-- what it shows: the confirmed tree with its own operations beyond `told` on top, once it has one
abbrev pub shown : Account → Option Nodes
shown x = shown_over x x.confirmed

abbrev pub is_some_list : {X : Type 0} → List X → Bool
is_some_list [] = false
is_some_list (x ∷ xs) = true

-- the issued batches that aren't acknowledged whole, and the open batch if it holds operations
abbrev pub unacknowledged : Account → ℕ
unacknowledged x = length (issued x) + (if is_some_list (bodies_in x.batch) then 1 else 0)

-- the next clocks
abbrev pub clocks : Account → Clocks
clocks x = record { actor = actor x; node = x.node; op = last_issued x + 1 + length (bodies_in x.batch) }

abbrev pub is_on : Stage → Bool
is_on Idle = false
is_on Dialled = false
is_on Connected = true
is_on Synced = true

abbrev pub is_synced : Stage → Bool
is_synced Synced = true
is_synced Connected = false
is_synced Dialled = false
is_synced Idle = false

-- frames, each a list of messages

abbrev pub frame_of_ops : List Op → List ClientMsg
frame_of_ops os = client.Update os ∷ []

abbrev pub frame_of : ℕ → Batch → List ClientMsg
frame_of a b = frame_of_ops (batch_ops a b)

abbrev pub frame_of_patch : List (List ℕ × Value) → List ClientMsg
frame_of_patch patch = client.Presence None patch ∷ []

-- to all others
abbrev pub frame_of_full : List (List ℕ × Value) → List ClientMsg
frame_of_full me = client.Presence (Some (negsuc 0)) me ∷ []

abbrev pub frame_of_full_to : ℕ → List (List ℕ × Value) → List ClientMsg
frame_of_full_to a me = client.Presence (Some (pos a)) me ∷ []

abbrev pub frame_of_event : Json → List ClientMsg
frame_of_event e = client.Broadcast e ∷ []

abbrev pub frame_of_fetch : List ClientMsg
frame_of_fetch = client.Fetch ∷ []

abbrev pub size_of : List ClientMsg → ℕ
size_of ms = length (client_text ms)

-- the greatest frame: 1,048,576 bytes
abbrev pub most_bytes : ℕ
most_bytes = 1048576
