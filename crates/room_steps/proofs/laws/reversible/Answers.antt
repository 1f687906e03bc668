use Rattle.room_steps.proofs.Reversing.{reversible}
use Rattle.room_steps.proofs.laws.reversible.Goals as goal

pub returns : goal.returns
returns c = reversible
