use Rattle.std.proofs.Common.{◌≡◌, ◌+◌, drop}
use Rattle.room_editor.specs.Sizes.{bytes_of}
use Rattle.room_editor.proofs.sizes.with_ops.Given as goal

abbrev pub invariant-loop-op : goal.invariant-loop-op
invariant-loop-op l = l.bytes + bytes_of (drop l.op-index l.ops) ≡ l.before + bytes_of l.ops
