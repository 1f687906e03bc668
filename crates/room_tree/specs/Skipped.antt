-- The children of a node, and these without one of them.
use Rattle.std.specs.Prelude.{◌≡◌, ℕ, Bool, false, true, if◌then◌else◌, List, Option, Some, None, IfSome, option_map}
use Rattle.room_nodes.specs.Shape.{Nodes, child_at, children, next_of}
use Rattle.room_ids.specs.Order.{is_same}
use Rattle.std.specs.FinMap.{get}
use Rattle.room_nodes.specs.Steps.{is_other, is_under, next_key, without}
use Rattle.room_ids.specs.declared.ids.NodeId.{NodeId}

abbrev pub skip : NodeId → Option NodeId → Option NodeId
skip x None = None
skip x (Some c) = if is_same c x then None else Some c

abbrev pub next_skip : Nodes → NodeId → NodeId → Option (List ℕ × NodeId) → Option (List ℕ)
next_skip t p x None = None
next_skip t p x (Some e) = if is_same e.1 x then next_key t p e.0 else Some e.0

abbrev pub key_of : Nodes → Option NodeId → Option (List ℕ)
key_of t None = None
key_of t (Some x) = option_map (λ n. n.key) (get t x)

abbrev pub is_own : NodeId → Option NodeId → Bool
is_own x None = false
is_own x (Some c) = is_same c x

-- what may be a child of p is one
abbrev pub IsChildOf : Nodes → NodeId → Option NodeId → Type 0
IsChildOf t p o = IfSome o (λ x. is_under p x (get t x) ≡ true)

-- the first child of p, or the first with a key above
abbrev pub next_child : Nodes → NodeId → Option (List ℕ) → Option NodeId
next_child t p k = option_map (λ e. e.1) (next_of k (children t p))

-- whether another node than `own` has the key under p
abbrev pub has_other : Nodes → NodeId → NodeId → List ℕ → Bool
has_other t p own k = is_other own (child_at t p k)

-- the least key above k under p, that of x not counted
abbrev pub next_beside : Nodes → NodeId → NodeId → List ℕ → Option (List ℕ)
next_beside t p x k = next_skip t p x (next_of (Some k) (children t p))

abbrev pub next_without : Nodes → Option NodeId → NodeId → List ℕ → Option (List ℕ)
next_without t r p k = next_key (without t r) p k
