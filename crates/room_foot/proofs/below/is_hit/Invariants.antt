use Rattle.std.proofs.Common.{◌≡◌}
use Rattle.std.specs.FinMap.{get}
use Rattle.room_nodes.specs.Steps.{depth_in}
use Rattle.room_steps.proofs.Covering.{is_hit as is_hit_of}
use Rattle.room_foot.proofs.below.is_hit.Given as goal

abbrev pub invariant-loop-node : goal.invariant-loop-node
invariant-loop-node g l = is_hit_of (g.T.Tree.nodes l.t) l.top l.at ≡ is_hit_of (g.T.Tree.nodes l.t) l.top l.id

abbrev pub decreases-loop-node : goal.decreases-loop-node
decreases-loop-node g l = depth_in (get (g.T.Tree.nodes l.t) l.at)
