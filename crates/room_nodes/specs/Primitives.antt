-- What the primitive changes of a tree need and leave: other fields of an object, another key of a child of a list.
use Rattle.std.specs.Prelude.{◌≡◌, ◌≢◌, ℕ, true, false, List, [], Option, Some, None, is_some}
use Rattle.std.specs.Ordering.{nat_cmp}
use Rattle.std.specs.Cmp.Lexicographic.{slice_cmp}
use Rattle.std.specs.FinMap.{get, find}
use Rattle.room_ids.specs.Position.{is_pos}
use Rattle.room_json.specs.Value.{Value}
use Rattle.room_nodes.specs.Shape.{Nodes, up}
use Rattle.room_nodes.specs.Steps.{changed, on_fields, holds_object, holds_list}
use Rattle.room_ids.specs.declared.ids.NodeId.{NodeId}
use Rattle.room_ids.specs.declared.ids.NodeId.TheVariants.{Root}
use Rattle.room_nodes.specs.declared.nodes.Node.{Node}
use Rattle.room_nodes.specs.declared.nodes.Kind.{Kind}
use Rattle.room_nodes.specs.declared.nodes.Kind.TheVariants.{Object}

abbrev pub with_fields_at : Nodes → NodeId → List (List ℕ × Value) → Nodes
with_fields_at t x fs = changed t x (on_fields (λ _. fs))

abbrev pub with_key_at : Nodes → NodeId → List ℕ → Nodes
with_key_at t x k = changed t x (λ n. record n { key = k })

abbrev pub kind_fields : Kind → List (List ℕ × Value)
kind_fields (Object fs) = fs
kind_fields _ = []

abbrev pub fields_in : Option Node → List (List ℕ × Value)
fields_in None = []
fields_in (Some n) = kind_fields n.kind

abbrev pub key_in : Option Node → List ℕ
key_in None = []
key_in (Some n) = n.key

-- an object may have these fields
pub record CanHold (t : Nodes) (x : NodeId) (fs : List (List ℕ × Value)) : Type 0 where
  pub object : holds_object (get t x) ≡ true
  pub free : (y : NodeId) (n : Node) → y ≢ Root → get t y ≡ Some n → n.parent ≡ x
      → is_some (find (slice_cmp nat_cmp) n.key fs) ≡ false

-- a child of a list may stand there
pub record CanStand (t : Nodes) (x : NodeId) (k : List ℕ) : Type 0 where
  pub there : is_some (get t x) ≡ true
  pub made : x ≢ Root
  pub list : holds_list (get t (up t x)) ≡ true
  pub pos : is_pos k ≡ true
  pub free : (y : NodeId) (n : Node) → y ≢ Root → y ≢ x → get t y ≡ Some n → n.parent ≡ up t x → n.key ≡ k → ⊥
