use Rattle.std.proofs.Common.{◌≡◌, ◌++◌, drop}
use Rattle.room_log.specs.Log.{bodies_of}
use Rattle.room_model.specs.Calls.{changes_back}
use Rattle.room_back.specs.Back.{last_first}
use Rattle.room_back.proofs.batches.reversals.Given as goal

-- the operations that are left are taken back first
abbrev pub invariant-loop-op : goal.invariant-loop-op
invariant-loop-op g l =
    changes_back (g.T.Tree.nodes l.t) (bodies_of (drop l.op-index l.ops)) ++ last_first l.each.items
    ≡ changes_back (g.T.Tree.nodes l.initial.t) (bodies_of l.ops)
