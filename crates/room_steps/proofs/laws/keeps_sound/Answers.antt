use Rattle.room_steps.proofs.Sound.{keeps_sound}
use Rattle.room_steps.proofs.laws.keeps_sound.Goals as goal

pub returns : goal.returns
returns c = keeps_sound
