use Rattle.room_laws.proofs.EveryRun.{every_undone}
use Rattle.room_laws.proofs.runs.each_undone.Goals as goal

pub returns : goal.returns
returns c = every_undone
