use Rattle.std.proofs.Common.{◌≡◌, ◌-◌, ◌++◌, ℕ, List, flat_map, length}
use Rattle.std.specs.Option.{option_copied}
use Rattle.room_ids.specs.declared.ids.NodeId.{NodeId}
use Rattle.room_nodes.specs.Preorder.{preorder_within}
use Rattle.room_nodes.specs.Shape.{children}
use Rattle.room_foot.specs.Rising.{rest_of}
use Rattle.room_foot.proofs.below.+push_below.Given as goal

abbrev pub decreases-push_below : goal.decreases-push_below
decreases-push_below g l = l.levels

-- the ids of what is below the children that are left come behind
abbrev pub invariant-loop-child : goal.invariant-loop-child
invariant-loop-child g l =
    let t = g.T.Tree.nodes l.t in
    l.ids.items ++ flat_map (λ (e : List ℕ × NodeId). preorder_within (l.levels - 1) t e.1) (rest_of (option_copied l.key) (children t l.id))
    ≡ l.initial.ids.items ++ flat_map (λ (e : List ℕ × NodeId). preorder_within (l.levels - 1) t e.1) (children t l.id)

abbrev pub decreases-loop-child : goal.decreases-loop-child
decreases-loop-child g l = length (rest_of (option_copied l.key) (children (g.T.Tree.nodes l.t) l.id))
