-- An open batch, and what takes it back.
use Rattle.std.specs.Prelude.{◌≡◌, ℕ, Bool, true, false, List, [], ◌∷◌, Option, Some, None, Ok}
use Rattle.room_json.specs.Value.{Value}
use Rattle.room_json.specs.declared.tree.Json.{Json}
use Rattle.room_nodes.specs.declared.nodes.Change.{Change}
use Rattle.room_nodes.specs.Shape.{Nodes}
use Rattle.room_nodes.specs.Steps.{fold}
use Rattle.room_msg.specs.declared.messages.ServerMsg.{ServerMsg}
use Rattle.room_msg.specs.declared.messages.ServerMsg.TheVariants as server
use Rattle.room_model.specs.Edits.{Edit}
use Rattle.room_nodes.specs.Reversal.{reverse_all}
use Rattle.room_model.specs.History.{note}
use Rattle.room_model.specs.Account.{Account, Batch, OpenBatch, issued, all_bodies, shown}
use Rattle.room_model.specs.Calls as calls
use Rattle.room_model.specs.Receive as messages

-- what a client shows without its open batch
abbrev pub base_over : Account → Option Nodes → Option Nodes
base_over x None = None
base_over x (Some t) = Some (fold t (all_bodies (issued x)))

abbrev pub base : Account → Option Nodes
base x = base_over x x.confirmed

-- what goes back of it is its reversal on the tree before it
abbrev pub GoesBack : Nodes → Option OpenBatch → Type 0
GoesBack t None = ⊥
GoesBack t (Some o) = calls.entry_bodies o.changes ≡ reverse_all t o.bodies

-- an open batch that stands on the tree t
pub record IsOpenOn (t : Nodes) (x : Account) : Type 0 where
  pub stands : base x ≡ Some t
  pub back : GoesBack t x.batch

-- a message that brings no state and no update
abbrev pub brings_none : ServerMsg → Bool
brings_none (server.Presence a target patch) = true
brings_none (server.Joined a) = true
brings_none (server.Left a) = true
brings_none (server.Broadcast a e) = true
brings_none (server.RoomState a key users) = true
brings_none (server.State seq last items more) = false
brings_none (server.Update seq os) = false

-- a batch was issued, and what was noted takes it back, as it was made on the tree t
pub record Notes (t : Nodes) (x : Account) (b : Batch) (out : calls.Done) : Type 0 where
  pub changes : List Change
  pub noted : out.account.history ≡ note changes x.history
  pub back : calls.entry_bodies changes ≡ reverse_all t b.bodies

-- an open batch stands on the tree that was shown as it began, until a state or an update comes; what its end notes
-- takes
-- it back; an edit outside a batch notes what takes it back; and undoing an entry issues that entry's operations
pub record KeepsOpen : Type 0 where
  pub batch_begin : (t : Nodes) (x y : Account) → shown x ≡ Some t → calls.batch_begin x ≡ Ok y → IsOpenOn t y
  pub edit : (t : Nodes) (x : Account) (e : Edit) (out : calls.Done) → IsOpenOn t x → calls.edit x e ≡ Ok out
      → IsOpenOn t out.account
  pub presence : (t : Nodes) (x y : Account) (patch : List (List ℕ × Value)) (in_history : Bool) → IsOpenOn t x
      → calls.presence x patch in_history ≡ Ok y → IsOpenOn t y
  pub event : (t : Nodes) (x y : Account) (e : Json) → IsOpenOn t x → calls.event x e ≡ Ok y → IsOpenOn t y
  pub pause : (t : Nodes) (x : Account) → IsOpenOn t x → IsOpenOn t (calls.pause x)
  pub resume : (t : Nodes) (x : Account) → IsOpenOn t x → IsOpenOn t (calls.resume x)
  pub clear : (t : Nodes) (x : Account) → IsOpenOn t x → IsOpenOn t (calls.clear x)
  pub flushed : (t : Nodes) (x : Account) → IsOpenOn t x → IsOpenOn t (calls.flushed x)
  pub resent : (t : Nodes) (x : Account) → IsOpenOn t x → IsOpenOn t (calls.resent x)
  pub lost : (t : Nodes) (x : Account) → IsOpenOn t x → IsOpenOn t (calls.lost x)
  pub dialled : (t : Nodes) (x : Account) → IsOpenOn t x → IsOpenOn t (calls.dialled x)
  pub receive : (t : Nodes) (x : Account) (m : ServerMsg) (out : messages.Received) → brings_none m ≡ true
      → IsOpenOn t x → messages.receive x m ≡ Ok out → IsOpenOn t out.account
  pub batch_end : (t : Nodes) (x : Account) (b : Batch) (out : calls.Done) → IsOpenOn t x → calls.batch_end x ≡ Ok out
      → out.issues ≡ b ∷ [] → Notes t x b out
  pub alone : (t : Nodes) (x : Account) (e : Edit) (b : Batch) (out : calls.Done) → x.batch ≡ None → shown x ≡ Some t
      → calls.edit x e ≡ Ok out → out.issues ≡ b ∷ [] → Notes t x b out
  pub go_back : (way : calls.Direction) (x : Account) (e : List Change) (b : Batch) (out : calls.Done)
      → calls.entry_of way x.history ≡ Some e → calls.go_back way x ≡ Ok (Some out) → out.issues ≡ b ∷ []
      → b.bodies ≡ calls.entry_bodies e
