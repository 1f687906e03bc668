-- The items of a state: [id, node], each node before those below it, children in byte order of their keys.
-- Written they are `items_of`, read `tree_in`: the root, then the rows, then the tree that they spell and its order.
use Rattle.std.specs.Prelude.{◌+◌, ◌++◌, ℕ, pos, negsuc, ℤ, Bool, true, false, ◌&&◌, not, if◌then◌else◌, nat_eq}
use Rattle.std.specs.Prelude.{List, [], ◌∷◌, map, codes, Option, Some, None, is_some, option_map, option_and_then}
use Rattle.std.specs.FinMap.{get, insert, from_sorted}
use Rattle.room_json.specs.Value.{Value, nothing, whole, text, list, members, values_of, fields_of}
use Rattle.room_json.specs.Value.{as_list, as_members, as_text, as_whole}
use Rattle.room_json.specs.View.{json_of}
use Rattle.room_json.specs.Fields.{field_of}
use Rattle.room_json.specs.Back.{json_in}
use Rattle.room_json.specs.Value.{object_of}
use Rattle.room_ids.specs.Order.{is_same}
use Rattle.room_ids.specs.Ids.{node_in, node_text}
use Rattle.room_ids.specs.declared.ids.NodeId.{NodeId}
use Rattle.room_ids.specs.declared.ids.NodeId.TheVariants.{Root}
use Rattle.room_nodes.specs.declared.nodes.Node.{Node}
use Rattle.room_nodes.specs.declared.nodes.Kind.{Kind}
use Rattle.room_nodes.specs.declared.nodes.Kind.TheVariants.{Object, List as Listed, Map, Register}
use Rattle.room_nodes.specs.Shape.{Nodes, child_at, fits_under, is_object}
use Rattle.room_nodes.specs.Steps.{depth_in}
use Rattle.room_nodes.specs.Preorder.{preorder}
use Rattle.room_items.specs.declared.row.Row.{Row}

-- writing

abbrev pub kind_number : Kind → ℕ
kind_number (Object fs) = 0
kind_number Listed = 1
kind_number Map = 2
kind_number (Register v) = 3

abbrev pub content_out : Kind → List (List ℕ × Value)
content_out (Object fs) = (codes "data", members (fields_of fs)) ∷ []
content_out Listed = []
content_out Map = []
content_out (Register v) = (codes "data", json_of v) ∷ []

-- the root has no place
abbrev pub place_out : NodeId → Node → List (List ℕ × Value)
place_out x n =
    if is_same x Root then [] else
    (codes "parentId", text (node_text n.parent)) ∷ (codes "parentKey", text n.key) ∷ []

abbrev pub node_out : NodeId → Option Node → Value
node_out x None = nothing
node_out x (Some n) =
    object_of (((codes "type", whole (pos (kind_number n.kind))) ∷ []) ++ content_out n.kind ++ place_out x n)

abbrev pub item_there : NodeId → Option Node → Value
item_there x n = list (values_of (text (node_text x) ∷ node_out x n ∷ []))

abbrev pub item_out : Nodes → NodeId → Value
item_out t x = item_there x (get t x)

abbrev pub items_of : Nodes → List Value
items_of t = map (item_out t) (preorder t Root)

-- reading: what an item says of a node

abbrev pub as_node : Value → Option NodeId
as_node v = option_and_then node_in (as_text v)

abbrev pub pair_of : List Value → Option (Value × Value)
pair_of [] = None
pair_of (a ∷ []) = None
pair_of (a ∷ b ∷ []) = Some (a, b)
pair_of (a ∷ b ∷ c ∷ vs) = None

-- a list of just two
abbrev pub as_pair : Value → Option (Value × Value)
as_pair v = option_and_then pair_of (as_list v)

abbrev pub kind_of_number : Value → ℕ → Option Kind
kind_of_number v n =
    if nat_eq n 0 then option_map Object (option_and_then as_members (field_of (codes "data") v)) else (
    if nat_eq n 1 then Some Listed else (
    if nat_eq n 2 then Some Map else (
    if nat_eq n 3 then option_map (λ (w : Value). Register (json_in w)) (field_of (codes "data") v) else None)))

abbrev pub kind_at : Value → ℤ → Option Kind
kind_at v (pos n) = kind_of_number v n
kind_at v (negsuc n) = None

abbrev pub kind_in : Value → Option Kind
kind_in v = option_and_then (kind_at v) (option_and_then as_whole (field_of (codes "type") v))

-- the item of the root, of which only the fields count
abbrev pub root_pair : Value × Value → Option Kind
root_pair p = option_and_then (λ (x : NodeId). if is_same x Root then kind_in p.1 else None) (as_node p.0)

abbrev pub root_in : Value → Option Kind
root_in v = option_and_then root_pair (as_pair v)

-- the item of another node
abbrev pub row_pair : Value × Value → Option Row
row_pair p =
    option_and_then (λ (x : NodeId).
    option_and_then (λ (kind : Kind).
    option_and_then (λ (parent : NodeId).
    option_map (λ (key : List ℕ).
    record { id = x; parent = parent; key = key; kind = kind })
    (option_and_then as_text (field_of (codes "parentKey") p.1)))
    (option_and_then as_node (field_of (codes "parentId") p.1)))
    (kind_in p.1)) (as_node p.0)

abbrev pub row_in : Value → Option Row
row_in v = option_and_then row_pair (as_pair v)

abbrev pub rows_in : List Value → Option (List Row)
rows_in [] = Some []
rows_in (v ∷ vs) = option_and_then (λ (r : Row). option_map (λ (rs : List Row). r ∷ rs) (rows_in vs)) (row_in v)

-- reading: the tree that the rows spell

abbrev pub row_node : Nodes → Row → Node
row_node t r = record { parent = r.parent; key = r.key; depth = depth_in (get t r.parent) + 1; kind = r.kind }

-- a new id, at a free key of a node that may hold it
abbrev pub may_put : Nodes → Row → Bool
may_put t r =
    not (is_some (get t r.id))
    && (fits_under (get t r.parent) (row_node t r) && not (is_some (child_at t r.parent r.key)))

abbrev pub put_row : Nodes → Row → Option Nodes
put_row t r = if may_put t r then Some (insert t r.id (row_node t r)) else None

abbrev pub put_rows : Nodes → List Row → Option Nodes
put_rows t [] = Some t
put_rows t (r ∷ rs) = option_and_then (λ (u : Nodes). put_rows u rs) (put_row t r)

abbrev pub same_ids : List NodeId → List NodeId → Bool
same_ids [] [] = true
same_ids (x ∷ xs) (y ∷ ys) = is_same x y && same_ids xs ys
same_ids [] (y ∷ ys) = false
same_ids (x ∷ xs) [] = false

abbrev pub row_id : Row → NodeId
row_id r = r.id

abbrev pub ordered_by : List NodeId → Nodes → Option Nodes
ordered_by ids t = if same_ids (preorder t Root) ids then Some t else None

-- the rows stand in the tree's own order
abbrev pub in_order : List Row → Nodes → Option Nodes
in_order rs t = ordered_by (Root ∷ map row_id rs) t

abbrev pub root_of : Kind → Nodes
root_of kind = from_sorted ((Root, record { parent = Root; key = []; depth = 0; kind = kind }) ∷ [])

abbrev pub tree_under : Kind → List Row → Option Nodes
tree_under kind rs = if is_object kind then option_and_then (in_order rs) (put_rows (root_of kind) rs) else None

-- the tree that the items spell, if they spell a well-formed one in its own order
abbrev pub tree_in : List Value → Option Nodes
tree_in [] = None
tree_in (v ∷ vs) = option_and_then (λ (kind : Kind). option_and_then (tree_under kind) (rows_in vs)) (root_in v)
