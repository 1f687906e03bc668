use Rattle.room_steps.proofs.Commuting.{footprints}
use Rattle.room_foot.proofs.laws.outside_cells.Goals as goal

pub returns : goal.returns
returns c = footprints.outside
