-- What is left to prove of `slots::cut_at`.
use Rattle.room_apply.proofs.Clearing.{child_there}
use Rattle.room_apply.proofs.slots.cut_at.Goals as goal

pub cut-requires-clause-there : goal.cut-requires-clause-there
cut-requires-clause-there g c =
    (child_there (g.T.Tree.nodes c.args.t.now) c.args.parent.now c.args.key.now c.in-Some.child c.in-Some.ensures).0

pub cut-requires-clause-made : goal.cut-requires-clause-made
cut-requires-clause-made g c =
    (child_there (g.T.Tree.nodes c.args.t.now) c.args.parent.now c.args.key.now c.in-Some.child c.in-Some.ensures).1
