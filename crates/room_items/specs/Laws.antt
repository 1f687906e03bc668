-- What holds of items by their definitions.
use Rattle.std.specs.Prelude.{◌≡◌, ◌≢◌, ◌≤◌, List, Some}
use Rattle.room_json.specs.Profile.{AreJson}
use Rattle.room_json.specs.Value.{Value, values_of, values_depth}
use Rattle.room_ids.specs.Laws.{IsNodeInRange}
use Rattle.room_ids.specs.declared.ids.NodeId.{NodeId}
use Rattle.room_ids.specs.declared.ids.NodeId.TheVariants.{Root}
use Rattle.std.specs.FinMap.{get}
use Rattle.room_nodes.specs.Shallow.{IsShallowTree}
use Rattle.room_nodes.specs.Sound.{IsSoundTree}
use Rattle.room_nodes.specs.Shape.{Nodes, IsFormed}
use Rattle.room_nodes.specs.declared.nodes.Node.{Node}
use Rattle.room_items.specs.Items.{item_there, row_in, root_in, tree_in, items_of}

-- what is written of a node below the root is read again
abbrev pub NodesReadBack : Type 0
NodesReadBack = (x : NodeId) (n : Node) → x ≢ Root → IsNodeInRange x → IsNodeInRange n.parent
    → row_in (item_there x (Some n)) ≡ Some (record { id = x; parent = n.parent; key = n.key; kind = n.kind })

-- and of the root
abbrev pub RootReadsBack : Type 0
RootReadsBack = (n : Node) → root_in (item_there Root (Some n)) ≡ Some n.kind

-- the ids of a tree are those that an id type has
abbrev pub AreInRange : Nodes → Type 0
AreInRange t = (x : NodeId) (n : Node) → get t x ≡ Some n → IsNodeInRange x

-- the items of a well-formed tree spell that tree; of a sound one the ids are in range
abbrev pub TreesReadBack : Type 0
TreesReadBack = (t : Nodes) → IsFormed t → AreInRange t → tree_in (items_of t) ≡ Some t

-- what items spell is a well-formed tree

abbrev pub TreesAreFormed : Type 0
TreesAreFormed = (vs : List Value) (t : Nodes) → tree_in vs ≡ Some t → IsFormed t

-- it is sound where the items are values of the profile, and the items of a sound tree are such values

abbrev pub TreesAreSound : Type 0
TreesAreSound = (vs : List Value) (t : Nodes) → tree_in vs ≡ Some t → AreJson (values_of vs) → IsSoundTree t

abbrev pub ItemsAreSound : Type 0
ItemsAreSound = (t : Nodes) → IsSoundTree t → AreJson (values_of (items_of t))

-- a state message of at most 60 levels has items of at most 58, and these are a tree of at most 55 and 56

abbrev pub TreesAreShallow : Type 0
TreesAreShallow = (vs : List Value) (t : Nodes)
    → tree_in vs ≡ Some t → values_depth (values_of vs) ≤ 58 → IsShallowTree t

abbrev pub ItemsAreShallow : Type 0
ItemsAreShallow = (t : Nodes) → IsShallowTree t → values_depth (values_of (items_of t)) ≤ 58
