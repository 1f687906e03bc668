use Rattle.room_steps.proofs.SameCells.{same_on_cells}
use Rattle.room_foot.proofs.laws.same_on_cells.Goals as goal

pub returns : goal.returns
returns c = same_on_cells
