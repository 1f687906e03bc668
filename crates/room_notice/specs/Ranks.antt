-- How many children of a node come before a key, one child not counted.
use Rattle.std.specs.Prelude.{ℕ, Bool, false, not, ◌&&◌, if◌then◌else◌, List, [], ◌∷◌, length, Option, Some, None}
use Rattle.std.specs.Ordering.{nat_cmp, is_lt}
use Rattle.std.specs.Cmp.Lexicographic.{slice_cmp}
use Rattle.room_ids.specs.Order.{is_same}
use Rattle.room_ids.specs.declared.ids.NodeId.{NodeId}
use Rattle.room_nodes.specs.Shape.{Nodes, children}

-- whether y is the one that isn't counted
abbrev pub is_skipped : Option NodeId → NodeId → Bool
is_skipped None y = false
is_skipped (Some x) y = is_same y x

abbrev pub weight : Option NodeId → NodeId → ℕ
weight o y = if is_skipped o y then 0 else 1

abbrev pub is_counted : List ℕ → Option NodeId → List ℕ × NodeId → Bool
is_counted k o e = is_lt (slice_cmp nat_cmp e.0 k) && not (is_skipped o e.1)

abbrev pub counted : List ℕ → Option NodeId → List (List ℕ × NodeId) → List (List ℕ × NodeId)
counted k o [] = []
counted k o (e ∷ es) = if is_counted k o e then e ∷ counted k o es else counted k o es

abbrev pub rank : Nodes → NodeId → List ℕ → Option NodeId → ℕ
rank t p k o = length (counted k o (children t p))
