use Rattle.room_steps.proofs.Shallow.{keeps_shallow}
use Rattle.room_steps.proofs.laws.keeps_shallow.Goals as goal

pub returns : goal.returns
returns c = keeps_shallow
