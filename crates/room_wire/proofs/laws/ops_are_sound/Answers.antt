use Rattle.room_wire.proofs.Sound.{ops_sound, ops_shallow}
use Rattle.room_wire.proofs.laws.ops_are_sound.Goals as goal

pub returns-clause-sound : goal.returns-clause-sound
returns-clause-sound c = ops_sound

pub returns-clause-shallow : goal.returns-clause-shallow
returns-clause-shallow c = ops_shallow
