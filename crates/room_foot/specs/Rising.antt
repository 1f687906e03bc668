-- The nodes that a removal takes, as a list of ids.
use Rattle.std.specs.Prelude.{ℕ, if◌then◌else◌, List, [], ◌∷◌, Option, Some, None}
use Rattle.std.specs.Ordering.{nat_cmp, is_lt}
use Rattle.std.specs.Cmp.Lexicographic.{slice_cmp}
use Rattle.room_ids.specs.declared.ids.NodeId.{NodeId}
use Rattle.room_nodes.specs.declared.cells.Cell.{Cell}
use Rattle.room_nodes.specs.declared.cells.Cell.TheVariants.{Node as NodeOf, All}

-- each node with all its slots
abbrev pub ids_cells : List NodeId → List Cell
ids_cells [] = []
ids_cells (x ∷ xs) = NodeOf x ∷ All x ∷ ids_cells xs

-- of children by key those with a greater key
abbrev pub rest_of : Option (List ℕ) → List (List ℕ × NodeId) → List (List ℕ × NodeId)
rest_of None es = es
rest_of (Some k) [] = []
rest_of (Some k) (e ∷ es) = if is_lt (slice_cmp nat_cmp k e.0) then e ∷ es else rest_of (Some k) es
