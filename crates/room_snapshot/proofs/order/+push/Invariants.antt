use Rattle.std.proofs.Common.{◌≡◌, ◌+◌, ◌*◌, ◌++◌, flat_map, drop}
use Rattle.room_nodes.specs.Preorder.{preorder_within}
use Rattle.room_snapshot.proofs.order.+push.Given as goal

abbrev pub decreases-push_node : goal.decreases-push_node
decreases-push_node g l = 2 * l.levels

abbrev pub decreases-push_each : goal.decreases-push_each
decreases-push_each g l = 2 * l.levels + 1

abbrev pub invariant-push_each-loop-kid : goal.invariant-push_each-loop-kid
invariant-push_each-loop-kid g l =
    l.ids ++ flat_map (preorder_within l.levels (g.T.Tree.nodes l.t)) (drop l.kid-index l.below)
    ≡ l.initial.ids ++ flat_map (preorder_within l.levels (g.T.Tree.nodes l.t)) l.below
