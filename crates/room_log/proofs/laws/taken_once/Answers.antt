use Rattle.room_log.proofs.Takings.{taken_once}
use Rattle.room_log.proofs.laws.taken_once.Goals as goal

pub returns : goal.returns
returns c = taken_once
