use Rattle.std.proofs.Common.{◌≡◌, map, take, drop}
use Rattle.room_wire.specs.Written.{op_out}
use Rattle.room_msg.specs.Laws.{AreOpsKnown}
use Rattle.room_msg.proofs.sending.write_ops.Given as goal

abbrev pub invariant-loop-op : goal.invariant-loop-op
invariant-loop-op l = (l.items ≡ map op_out (take l.op-index l.ops)) × (AreOpsKnown (drop l.op-index l.ops) → AreOpsKnown l.ops)
