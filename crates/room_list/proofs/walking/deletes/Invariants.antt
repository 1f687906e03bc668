use Rattle.std.proofs.Common.{◌-◌, length}
use Rattle.std.specs.Option.{option_copied}
use Rattle.room_nodes.specs.Shape.{children}
use Rattle.room_list.proofs.Walked.{Clearing}
use Rattle.room_list.proofs.walking.deletes.Given as goal

abbrev pub invariant-loop-child : goal.invariant-loop-child
invariant-loop-child g l = Clearing (g.T.Tree.nodes l.t) l.list (option_copied l.key) l.bodies

abbrev pub decreases-loop-child : goal.decreases-loop-child
decreases-loop-child g l = length (children (g.T.Tree.nodes l.t) l.list) - length l.bodies
