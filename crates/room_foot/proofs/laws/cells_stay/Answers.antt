use Rattle.room_steps.proofs.SameCells.{cells_stay}
use Rattle.room_foot.proofs.laws.cells_stay.Goals as goal

pub returns : goal.returns
returns c = cells_stay
