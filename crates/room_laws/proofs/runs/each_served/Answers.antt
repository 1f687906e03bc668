use Rattle.room_laws.proofs.EveryRun.{every_served}
use Rattle.room_laws.proofs.runs.each_served.Goals as goal

pub returns : goal.returns
returns c = every_served
