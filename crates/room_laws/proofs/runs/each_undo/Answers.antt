use Rattle.room_laws.proofs.EveryRun.{every_undo}
use Rattle.room_laws.proofs.runs.each_undo.Goals as goal

pub returns : goal.returns
returns c = every_undo
