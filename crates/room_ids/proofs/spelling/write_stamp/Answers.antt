use Rattle.std.proofs.Common.{arith}
use Rattle.room_ids.proofs.Spelled.{in_range}
use Rattle.room_ids.proofs.spelling.write_stamp.Goals as goal

pub returns-clause-again : goal.returns-clause-again
returns-clause-again c = in_range c.args.stamp.now c.actor-actor.result c.clock-clock.result c.actor-actor.ensures c.clock-clock.ensures.value (omega arith) c.clock-clock.ensures.bound
