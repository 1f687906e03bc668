use Rattle.std.proofs.Common.{◌≡◌, drop}
use Rattle.std.specs.Slice.Iter.{iter_rest}
use Rattle.room_nodes.specs.Equal.{are_first}
use Rattle.room_overlay.proofs.equality.are_first.Given as goal

abbrev pub invariant-loop-op : goal.invariant-loop-op
invariant-loop-op l = are_first (drop l.op-index l.ops) (iter_rest l.others) ≡ are_first l.ops l.all
