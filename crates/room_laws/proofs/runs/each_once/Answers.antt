use Rattle.room_laws.proofs.EveryRun.{every_once}
use Rattle.room_laws.proofs.runs.each_once.Goals as goal

pub returns : goal.returns
returns c = every_once
