use Rattle.room_laws.proofs.EveryRun.{every_taken}
use Rattle.room_laws.proofs.runs.each_taken.Goals as goal

pub returns : goal.returns
returns c = every_taken
