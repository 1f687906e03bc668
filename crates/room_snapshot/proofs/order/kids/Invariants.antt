use Rattle.std.proofs.Common.{◌≡◌, ◌-◌, ◌++◌, ℕ, List, None, length, map, option_map}
use Rattle.room_ids.specs.declared.ids.NodeId.{NodeId}
use Rattle.room_nodes.specs.Shape.{children, next_of}
use Rattle.room_snapshot.proofs.order.kids.Given as goal

-- the children that are found, and those that are left
abbrev pub invariant-loop-next : goal.invariant-loop-next
invariant-loop-next g l =
    (done : List (List ℕ × NodeId)) × (rest : List (List ℕ × NodeId))
    × (children (g.T.Tree.nodes l.t) l.id ≡ done ++ rest)
    × (l.found ≡ map (λ (e : List ℕ × NodeId). e.1) done) × (l.next ≡ option_map (λ e. e.1) (next_of None rest))

abbrev pub decreases-loop-next : goal.decreases-loop-next
decreases-loop-next g l = length (children (g.T.Tree.nodes l.t) l.id) - length l.found
