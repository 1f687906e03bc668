-- What an edit makes of a list that has so many items, in its cases.
use Rattle.std.specs.Prelude.{◌+◌, ◌==◌, ℕ, min, Bool, true, false, if◌then◌else◌, nat_lt, nat_le, List, [], ◌∷◌}
use Rattle.std.specs.Prelude.{Option, Some, None, Err}
use Rattle.room_json.specs.Fields.{and_then}
use Rattle.room_ids.specs.declared.ids.NodeId.{NodeId}
use Rattle.room_nodes.specs.declared.nodes.Body.TheVariants.{SetKey, Delete}
use Rattle.room_model.specs.Edits.{Edit, Set, Update, Remove, Push, Insert, Put, Move, Take, Clear}
use Rattle.room_model.specs.Edits.{Clocks, BadIndex, placed, below, too_long, clear_bodies}
use Rattle.room_model.specs.Init.{Init, nodes_in, positions_in, creates, plain_depth, node_depth}
use Rattle.room_props.specs.Making.{Outcome, node_made, ops_made}
use Rattle.room_props.specs.Weighing.{checked}
use Rattle.room_effect.specs.Beside.{Kids, key_between}

-- a new item at the position k of the list x, which has the depth d
abbrev pub item_made : Clocks → ℕ → NodeId → List ℕ → Init → Outcome
item_made c d x k i =
    checked (plain_depth i) (node_depth (d + 1) i)
    (placed c (nodes_in i) (creates c.actor c.node x k None i) (too_long (k ∷ positions_in i)))

-- a new item in the place of y
abbrev pub item_put : Clocks → ℕ → NodeId → List ℕ → NodeId → Init → Outcome
item_put c d x k y i = checked (plain_depth i) (node_depth (d + 1) i) (node_made c x k (Some y) i)

-- y moves to the position k
abbrev pub item_moved : Clocks → NodeId → List ℕ → Outcome
item_moved c y k = placed c 0 (SetKey y k ∷ []) (too_long (k ∷ []))

-- by what stands beside the place, and at it

abbrev pub inserted : Clocks → ℕ → NodeId → ℕ → Init → ℕ → Option (List ℕ) → Option (List ℕ) → Outcome
inserted c d x n i count left right =
    if nat_le n count then item_made c d x (key_between left right) i else Err (BadIndex n count)

abbrev pub put_at : Clocks → ℕ → NodeId → ℕ → Init → ℕ → Option NodeId → Option (List ℕ) → Outcome
put_at c d x n i count None key = Err (BadIndex n count)
put_at c d x n i count (Some y) None = Err (BadIndex n count)
put_at c d x n i count (Some y) (Some k) = item_put c d x k y i

abbrev pub moved_to : Clocks → ℕ → ℕ → ℕ → NodeId → List ℕ → Outcome
moved_to c f t count y k =
    and_then (below t count) (λ (o : Option ℕ). if f == t then ops_made c [] else item_moved c y k)

abbrev pub moved : Clocks → ℕ → ℕ → ℕ → Option NodeId → List ℕ → Outcome
moved c f t count None k = Err (BadIndex f count)
moved c f t count (Some y) k = moved_to c f t count y k

abbrev pub taken : Clocks → ℕ → ℕ → Option NodeId → Outcome
taken c n count None = Err (BadIndex n count)
taken c n count (Some y) = ops_made c (Delete y ∷ [])

abbrev pub cleared : Clocks → Kids → Outcome
cleared c cs = ops_made c (clear_bodies cs)

-- where a walk looks for an edit: at its item, and beside the gap into which it puts one

-- all edits of a list but that which takes out everything
abbrev pub looks : Edit → Bool
looks (Set x k i) = false
looks (Update x fs) = false
looks (Remove x k) = false
looks (Push x i) = true
looks (Insert x n i) = true
looks (Put x n i) = true
looks (Move x f t) = true
looks (Take x n) = true
looks (Clear x) = false

-- behind every item, of however many
abbrev pub end : ℕ
end = 18446744073709551615

abbrev pub index_of : Edit → ℕ
index_of (Insert x n i) = n
index_of (Put x n i) = n
index_of (Move x f t) = f
index_of (Take x n) = n
index_of e = end

-- behind the item that is there, where it moves to a later place, else before it
abbrev pub gap_beside : ℕ → ℕ → ℕ
gap_beside f t = if nat_lt f t then min (t + 1) end else t

abbrev pub gap_of : Edit → ℕ
gap_of (Move x f t) = gap_beside f t
gap_of e = index_of e

-- the outcome, by the number of items, the item, and the positions beside the gap
abbrev pub listed : Clocks → ℕ → Edit → ℕ → Option NodeId → Option (List ℕ) → Option (List ℕ) → Outcome
listed c d (Push x i) count item left right = item_made c d x (key_between left right) i
listed c d (Insert x n i) count item left right = inserted c d x n i count left right
listed c d (Put x n i) count item left right = put_at c d x n i count item right
listed c d (Move x f t) count item left right = moved c f t count item (key_between left right)
listed c d (Take x n) count item left right = taken c n count item
listed c d e count item left right = ops_made c []
