use Rattle.std.proofs.Common.{◌≡◌, drop}
use Rattle.room_model.specs.Server.{foreign_in}
use Rattle.room_arrivals.proofs.session.foreign_in.Given as goal

abbrev pub invariant-loop-op : goal.invariant-loop-op
invariant-loop-op l = foreign_in l.actor (drop l.op-index l.ops) ≡ foreign_in l.actor l.ops
