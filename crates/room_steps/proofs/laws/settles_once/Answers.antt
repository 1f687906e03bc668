use Rattle.room_steps.proofs.Settled.{settles_once}
use Rattle.room_steps.proofs.laws.settles_once.Goals as goal

pub returns : goal.returns
returns c = settles_once
