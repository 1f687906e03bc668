use Rattle.room_laws.proofs.SampleUndo.{undo_sample}
use Rattle.room_laws.proofs.samples.undo_is_met.Goals as goal

pub returns : goal.returns
returns c = undo_sample
