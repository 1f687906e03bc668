use Rattle.room_steps.proofs.Undoing.{undo_restores}
use Rattle.room_steps.proofs.laws.undo_restores.Goals as goal

pub returns : goal.returns
returns c = undo_restores
