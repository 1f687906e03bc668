use Rattle.room_steps.proofs.Commuting.{footprints}
use Rattle.room_foot.proofs.laws.either_order.Goals as goal

pub returns : goal.returns
returns c = footprints.either_order
