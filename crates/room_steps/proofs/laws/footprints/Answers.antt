use Rattle.room_steps.proofs.Commuting.{footprints}
use Rattle.room_steps.proofs.laws.footprints.Goals as goal

pub returns : goal.returns
returns c = footprints
