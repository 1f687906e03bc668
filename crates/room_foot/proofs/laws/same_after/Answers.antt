use Rattle.room_steps.proofs.Commuting.{footprints}
use Rattle.room_foot.proofs.laws.same_after.Goals as goal

pub returns : goal.returns
returns c = footprints.alike
