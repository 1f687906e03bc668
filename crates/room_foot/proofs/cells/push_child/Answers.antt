use Rattle.std.proofs.Common.{refl, sym}
use Rattle.room_nodes.proofs.Children.{child_at_some}
use Rattle.room_foot.proofs.cells.push_child.Goals as goal

pub push_removal-requires-clause-there : goal.push_removal-requires-clause-there
push_removal-requires-clause-there g c = let n = child_at_some (g.T.Tree.nodes c.args.t.now) c.args.id.now c.args.key.now c.in-Some.child (sym c.in-Some.ensures) in rw n.1 refl

pub push_removal-requires-clause-made : goal.push_removal-requires-clause-made
push_removal-requires-clause-made g c = (child_at_some (g.T.Tree.nodes c.args.t.now) c.args.id.now c.args.key.now c.in-Some.child (sym c.in-Some.ensures)).2
