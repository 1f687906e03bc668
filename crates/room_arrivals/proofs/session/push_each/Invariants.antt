use Rattle.std.proofs.Common.{◌≡◌, ◌++◌, drop}
use Rattle.room_arrivals.proofs.session.push_each.Given as goal

abbrev pub invariant-loop-op : goal.invariant-loop-op
invariant-loop-op l = l.all ++ drop l.op-index l.ops ≡ l.initial.all ++ l.ops
