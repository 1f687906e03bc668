-- The depth of values that a client's frame can carry: 55 for a field, 56 for a register.
use Rattle.std.specs.Prelude.{◌≡◌, ℕ, Bool, true, ◌&&◌, nat_le, List, [], ◌∷◌, Some}
use Rattle.std.specs.FinMap.{get}
use Rattle.room_json.specs.Value.{Value, depth}
use Rattle.room_json.specs.View.{json_of}
use Rattle.room_ids.specs.declared.ids.NodeId.{NodeId}
use Rattle.room_nodes.specs.declared.nodes.Node.{Node}
use Rattle.room_nodes.specs.declared.nodes.Kind.{Kind}
use Rattle.room_nodes.specs.declared.nodes.Kind.TheVariants.{Object, List as Listed, Map, Register}
use Rattle.room_nodes.specs.declared.nodes.Body.{Body}
use Rattle.room_nodes.specs.declared.nodes.Body.TheVariants.{SetKey, Create, Update, Delete, DeleteKey}
use Rattle.room_nodes.specs.declared.nodes.Op.{Op}
use Rattle.room_nodes.specs.Shape.{Nodes}

abbrev pub are_shallow : List (List ℕ × Value) → Bool
are_shallow [] = true
are_shallow (f ∷ fs) = nat_le (depth f.1) 55 && are_shallow fs

abbrev pub is_shallow_kind : Kind → Bool
is_shallow_kind (Object fs) = are_shallow fs
is_shallow_kind Listed = true
is_shallow_kind Map = true
is_shallow_kind (Register v) = nat_le (depth (json_of v)) 56

abbrev pub is_shallow : Body → Bool
is_shallow (SetKey x k) = true
is_shallow (Create x p k r kind) = is_shallow_kind kind
is_shallow (Update x fs) = are_shallow fs
is_shallow (Delete x) = true
is_shallow (DeleteKey x k) = true

abbrev pub all_shallow : List Body → Bool
all_shallow [] = true
all_shallow (b ∷ bs) = is_shallow b && all_shallow bs

abbrev pub AreShallow : List Body → Type 0
AreShallow [] = Unit {0}
AreShallow (b ∷ bs) = (is_shallow b ≡ true) × AreShallow bs

abbrev pub AreShallowOps : List Op → Type 0
AreShallowOps [] = Unit {0}
AreShallowOps (o ∷ os) = (is_shallow o.body ≡ true) × AreShallowOps os

abbrev pub IsShallowTree : Nodes → Type 0
IsShallowTree t = (x : NodeId) (n : Node) → get t x ≡ Some n → is_shallow_kind n.kind ≡ true
