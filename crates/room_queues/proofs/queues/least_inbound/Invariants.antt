use Rattle.std.proofs.Common.{◌≡◌}
use Rattle.room_model.specs.World.{least, has_inbound}
use Rattle.room_queues.proofs.queues.least_inbound.Given as goal

abbrev pub invariant-loop-k : goal.invariant-loop-k
invariant-loop-k g l = least has_inbound l.k-iterator ≡ least has_inbound l.conns.entries
