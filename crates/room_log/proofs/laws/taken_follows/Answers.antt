use Rattle.room_steps.proofs.Settled.{settles_once}
use Rattle.room_steps.proofs.Shallow.{keeps_shallow}
use Rattle.room_steps.proofs.Sound.{keeps_sound}
use Rattle.room_log.proofs.NextTaken.{taken_follows}
use Rattle.room_log.proofs.laws.taken_follows.Goals as goal

pub returns : goal.returns
returns c = taken_follows keeps_sound keeps_shallow settles_once
