use Rattle.room_laws.proofs.EveryRun.{every_alone}
use Rattle.room_laws.proofs.runs.each_undo_alone.Goals as goal

pub returns : goal.returns
returns c = every_alone
