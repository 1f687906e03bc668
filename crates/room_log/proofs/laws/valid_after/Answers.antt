use Rattle.room_steps.proofs.Shallow.{keeps_shallow}
use Rattle.room_steps.proofs.Sound.{keeps_sound}
use Rattle.room_log.proofs.ValidStates.{valid_after}
use Rattle.room_log.proofs.laws.valid_after.Goals as goal

pub returns : goal.returns
returns c = valid_after keeps_sound keeps_shallow
