use Rattle.std.proofs.Common.{◌≡◌}
use Rattle.room_model.specs.World.{least, has_outbound}
use Rattle.room_queues.proofs.queues.least_outbound.Given as goal

abbrev pub invariant-loop-k : goal.invariant-loop-k
invariant-loop-k g l = least has_outbound l.k-iterator ≡ least has_outbound l.conns.entries
