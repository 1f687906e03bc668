-- The cells of a tree that operations read and write, and when two lists of operations are apart.
use Rattle.std.specs.Prelude.{◌≡◌, ℕ, List, [], ◌∷◌, ◌++◌, Option, Some, None, option_map}
use Rattle.std.specs.Prelude.{Bool, true, false, ◌||◌, ◌&&◌, not, if◌then◌else◌}
use Rattle.std.specs.Ordering.{nat_cmp, eq_by_cmp}
use Rattle.std.specs.Cmp.Lexicographic.{slice_cmp}
use Rattle.std.specs.FinMap.{get, entries, find}
use Rattle.room_json.specs.Value.{Value}
use Rattle.room_ids.specs.Order.{is_same}
use Rattle.room_nodes.specs.Shape.{Nodes, child_at, is_below, up}
use Rattle.room_nodes.specs.Steps.{is_void, is_under, step, holds_list, on_fields}
use Rattle.room_nodes.specs.Primitives.{fields_in, key_in}
use Rattle.room_ids.specs.declared.ids.NodeId.{NodeId}
use Rattle.room_nodes.specs.declared.nodes.Node.{Node}
use Rattle.room_nodes.specs.declared.nodes.Body.{Body}
use Rattle.room_nodes.specs.declared.nodes.Body.TheVariants.{SetKey, Create, Update, Delete, DeleteKey}
use Rattle.room_nodes.specs.declared.cells.Cell.{Cell}
use Rattle.room_nodes.specs.declared.cells.Cell.TheVariants.{Node as NodeOf, Slot, All}

-- overlap: all slots of a node overlap themselves and each slot of it, every other cell itself alone

abbrev pub overlaps : Cell → Cell → Bool
overlaps (NodeOf x) (NodeOf y) = is_same x y
overlaps (Slot x j) (Slot y k) = is_same x y && eq_by_cmp (slice_cmp nat_cmp) j k
overlaps (Slot x j) (All y) = is_same x y
overlaps (All x) (Slot y k) = is_same x y
overlaps (All x) (All y) = is_same x y
overlaps _ _ = false

abbrev pub overlaps_some : Cell → List Cell → Bool
overlaps_some c [] = false
overlaps_some c (d ∷ ds) = overlaps c d || overlaps_some c ds

abbrev pub meets : List Cell → List Cell → Bool
meets [] ds = false
meets (c ∷ cs) ds = overlaps_some c ds || meets cs ds

-- the removal of a node: the nodes below it, with all their slots

abbrev pub removal_among : Nodes → NodeId → List (NodeId × Node) → List Cell
removal_among t y [] = []
removal_among t y (e ∷ es) =
    if is_below t y e.0 then NodeOf e.0 ∷ All e.0 ∷ removal_among t y es else removal_among t y es

abbrev pub removal_cells : Nodes → NodeId → List Cell
removal_cells t y = removal_among t y (entries t)

abbrev pub removal_of : Nodes → Option NodeId → List Cell
removal_of t None = []
removal_of t (Some y) = removal_cells t y

-- the field or child at a key, with what goes where a child stands there
abbrev pub slot_cells : Nodes → NodeId → List ℕ → List Cell
slot_cells t x k = Slot x k ∷ removal_of t (child_at t x k)

abbrev pub slots_cells : Nodes → NodeId → List (List ℕ × Value) → List Cell
slots_cells t x [] = []
slots_cells t x (e ∷ es) = slot_cells t x e.0 ++ slots_cells t x es

-- a child of a list that a create replaces
abbrev pub replaced_cells : Nodes → NodeId → Option NodeId → List Cell
replaced_cells t p None = []
replaced_cells t p (Some y) = if is_under p y (get t y) then removal_cells t y else []

abbrev pub node_cells : Option NodeId → List Cell
node_cells None = []
node_cells (Some y) = NodeOf y ∷ []

-- what an operation reads, beside what it writes

abbrev pub create_reads : NodeId → NodeId → Option NodeId → Bool → List Cell
create_reads x p r true = NodeOf x ∷ NodeOf p ∷ All p ∷ node_cells r
create_reads x p r false = NodeOf x ∷ NodeOf p ∷ []

-- the node alone where it isn't there
abbrev pub delete_reads : NodeId → Option Node → List Cell
delete_reads x None = NodeOf x ∷ []
delete_reads x (Some n) = NodeOf x ∷ NodeOf n.parent ∷ []

abbrev pub set_key_reads : Nodes → NodeId → Option Node → List Cell
set_key_reads t x None = NodeOf x ∷ []
set_key_reads t x (Some n) =
    NodeOf x ∷ NodeOf n.parent ∷ (if holds_list (get t n.parent) then All n.parent ∷ [] else [])

abbrev pub reads : Nodes → Body → List Cell
reads t (Create x p k r kind) = create_reads x p r (holds_list (get t p))
reads t (Update x fs) = NodeOf x ∷ []
reads t (Delete x) = delete_reads x (get t x)
reads t (DeleteKey x k) = NodeOf x ∷ []
reads t (SetKey x k) = set_key_reads t x (get t x)

-- what an operation that isn't void reads and writes

abbrev pub effect_cells : Nodes → Body → List Cell
effect_cells t (Create x p k r kind) =
    NodeOf x ∷ All x ∷ (if holds_list (get t p) then All p ∷ replaced_cells t p r else slot_cells t p k)
effect_cells t (Update x fs) = slots_cells t x fs
effect_cells t (Delete x) =
    (if holds_list (get t (up t x)) then All (up t x) else Slot (up t x) (key_in (get t x))) ∷ removal_cells t x
effect_cells t (DeleteKey x k) = slot_cells t x k
effect_cells t (SetKey x k) = All (up t x) ∷ NodeOf x ∷ []

abbrev pub writes : Nodes → Body → List Cell
writes t b = if is_void t b then [] else effect_cells t b

-- lists of operations: the cells of each, on the tree after those before it

abbrev pub writes_all : Nodes → List Body → List Cell
writes_all t [] = []
writes_all t (b ∷ bs) = writes t b ++ writes_all (step t b) bs

abbrev pub cells_all : Nodes → List Body → List Cell
cells_all t [] = []
cells_all t (b ∷ bs) = (reads t b ++ writes t b) ++ cells_all (step t b) bs

-- no written cell of one list overlaps a cell of the other
abbrev pub is_apart : Nodes → List Body → List Body → Bool
is_apart t bs cs = not (meets (writes_all t bs) (cells_all t cs)) && not (meets (writes_all t cs) (cells_all t bs))

abbrev pub IsApart : Nodes → List Body → List Body → Type 0
IsApart t bs cs = is_apart t bs cs ≡ true

-- two trees are equal on cells

-- a node without an object's fields
abbrev pub bare : Node → Node
bare n = on_fields (λ _. []) n

abbrev pub field_at : Nodes → NodeId → List ℕ → Option Value
field_at t x k = find (slice_cmp nat_cmp) k (fields_in (get t x))

abbrev pub SameSlot : Nodes → Nodes → NodeId → List ℕ → Type 0
SameSlot t u x k = (field_at t x k ≡ field_at u x k) × (child_at t x k ≡ child_at u x k)

abbrev pub AgreesOn : Nodes → Nodes → Cell → Type 0
AgreesOn t u (NodeOf x) = option_map bare (get t x) ≡ option_map bare (get u x)
AgreesOn t u (Slot x k) = SameSlot t u x k
AgreesOn t u (All x) = (k : List ℕ) → SameSlot t u x k

abbrev pub Agrees : Nodes → Nodes → List Cell → Type 0
Agrees t u [] = Unit {0}
Agrees t u (c ∷ cs) = AgreesOn t u c × Agrees t u cs
