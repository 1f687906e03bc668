use Rattle.std.proofs.Common.{◌≡◌, ◌-◌, ◌++◌, ℕ, List, None, length, option_map}
use Rattle.room_ids.specs.declared.ids.NodeId.{NodeId}
use Rattle.room_nodes.specs.Shape.{children, next_of}
use Rattle.room_items.proofs.kids.kids.Given as goal

-- the children that are found, and those that are left
abbrev pub invariant-loop-next : goal.invariant-loop-next
invariant-loop-next g l =
    (rest : List (List ℕ × NodeId)) × (children (g.T.Tree.nodes l.t) l.id ≡ l.found ++ rest) × (l.next ≡ option_map (λ e. e.1) (next_of None rest))

abbrev pub decreases-loop-next : goal.decreases-loop-next
decreases-loop-next g l = length (children (g.T.Tree.nodes l.t) l.id) - length l.found
