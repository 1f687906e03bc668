-- What walks over the entries find: a child, the child that comes next, the place of an id.
use Rattle.std.specs.Prelude.{ℕ, suc, Bool, true, ◌&&◌, if◌then◌else◌, List, [], ◌∷◌, Option, Some, None, option_map}
use Rattle.std.specs.Ordering.{nat_cmp, is_lt, eq_by_cmp, match_ordering}
use Rattle.std.specs.Cmp.Lexicographic.{slice_cmp}
use Rattle.room_ids.specs.Order.{node_cmp}
use Rattle.room_nodes.specs.Shape.{is_child}
use Rattle.room_ids.specs.declared.ids.NodeId.{NodeId}
use Rattle.room_nodes.specs.declared.nodes.Node.{Node}

abbrev pub found_of : NodeId → List ℕ → List (NodeId × Node) → Option NodeId
found_of p k [] = None
found_of p k (e ∷ es) = if is_child p e && eq_by_cmp (slice_cmp nat_cmp) k e.1.key then Some e.0 else found_of p k es

abbrev pub is_after : Option (List ℕ) → List ℕ → Bool
is_after None k = true
is_after (Some j) k = is_lt (slice_cmp nat_cmp j k)

abbrev pub keyed : NodeId × Node → List ℕ × NodeId
keyed e = (e.1.key, e.0)

abbrev pub lesser_key : {X : Type 0} → List ℕ × X → Option (List ℕ × X) → Option (List ℕ × X)
lesser_key a None = Some a
lesser_key a (Some b) = if is_lt (slice_cmp nat_cmp b.0 a.0) then Some b else Some a

-- a child and the lesser of those behind it
abbrev pub lesser_of : NodeId × Node → Option (NodeId × Node) → Option (List ℕ × NodeId)
lesser_of e o = lesser_key (keyed e) (option_map keyed o)

abbrev pub may_follow : NodeId → Option (List ℕ) → NodeId × Node → Bool
may_follow p k e = is_child p e && is_after k e.1.key

abbrev pub nearest_of : NodeId → Option (List ℕ) → List (NodeId × Node) → Option (List ℕ × NodeId)
nearest_of p k [] = None
nearest_of p k (e ∷ es) = if may_follow p k e then lesser_key (keyed e) (nearest_of p k es) else nearest_of p k es

-- how many entries stand before the place of an id
abbrev pub place_of : {X : Type 0} → NodeId → List (NodeId × X) → ℕ
place_of id [] = 0
place_of id (e ∷ es) = match_ordering (node_cmp id e.0) 0 0 (suc (place_of id es))
