use Rattle.room_laws.proofs.EveryRun.{every_growth}
use Rattle.room_laws.proofs.runs.log_grows.Goals as goal

pub returns : goal.returns
returns c = every_growth
