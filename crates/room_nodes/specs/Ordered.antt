-- Fields in byte order of their names, each name once.
use Rattle.std.specs.Prelude.{◌≡◌, ℕ, List, [], ◌∷◌, Some}
use Rattle.std.specs.Ordering.{nat_cmp}
use Rattle.std.specs.Cmp.Lexicographic.{slice_cmp}
use Rattle.std.specs.List.Sorted.{IsStrictlySortedBy}
use Rattle.std.specs.Map.{keys_of}
use Rattle.std.specs.FinMap.{get}
use Rattle.room_json.specs.Value.{Value}
use Rattle.room_ids.specs.declared.ids.NodeId.{NodeId}
use Rattle.room_nodes.specs.declared.nodes.Node.{Node}
use Rattle.room_nodes.specs.declared.nodes.Kind.{Kind}
use Rattle.room_nodes.specs.declared.nodes.Kind.TheVariants.{Object, List as Listed, Map, Register}
use Rattle.room_nodes.specs.declared.nodes.Body.{Body}
use Rattle.room_nodes.specs.declared.nodes.Body.TheVariants.{SetKey, Create, Update, Delete, DeleteKey}
use Rattle.room_nodes.specs.Shape.{Nodes}

abbrev pub AreOrdered : List (List ℕ × Value) → Type 0
AreOrdered fs = IsStrictlySortedBy (slice_cmp nat_cmp) (keys_of fs)

abbrev pub IsOrderedKind : Kind → Type 0
IsOrderedKind (Object fs) = AreOrdered fs
IsOrderedKind Listed = Unit {0}
IsOrderedKind Map = Unit {0}
IsOrderedKind (Register v) = Unit {0}

abbrev pub IsOrderedTree : Nodes → Type 0
IsOrderedTree t = (x : NodeId) (n : Node) → get t x ≡ Some n → IsOrderedKind n.kind

abbrev pub IsOrderedBody : Body → Type 0
IsOrderedBody (SetKey x k) = Unit {0}
IsOrderedBody (Create x p k r kind) = IsOrderedKind kind
IsOrderedBody (Update x fs) = AreOrdered fs
IsOrderedBody (Delete x) = Unit {0}
IsOrderedBody (DeleteKey x k) = Unit {0}

abbrev pub AreOrderedBodies : List Body → Type 0
AreOrderedBodies [] = Unit {0}
AreOrderedBodies (b ∷ bs) = IsOrderedBody b × AreOrderedBodies bs
