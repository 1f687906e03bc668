use Rattle.std.proofs.Common.{◌≡◌, drop}
use Rattle.room_nodes.specs.Steps.{fold}
use Rattle.room_log.specs.Log.{bodies_of}
use Rattle.room_editor.proofs.telling.stepped.Given as goal

abbrev pub invariant-loop-op : goal.invariant-loop-op
invariant-loop-op g l =
    fold (g.T.Tree.nodes l.t) (bodies_of (drop l.op-index l.ops)) ≡ fold (g.T.Tree.nodes l.initial.t) (bodies_of l.ops)
