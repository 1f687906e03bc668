use Rattle.std.proofs.Common.{◌≡◌, ◌++◌, drop}
use Rattle.room_client.proofs.frames.copy_ops.Given as goal

abbrev pub invariant-loop-op : goal.invariant-loop-op
invariant-loop-op l = l.copies ++ drop l.op-index l.ops ≡ l.ops
