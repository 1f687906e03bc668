use Rattle.room_laws.proofs.EveryRun.{every_log}
use Rattle.room_laws.proofs.runs.valid_run.Goals as goal

pub returns : goal.returns
returns c = every_log
