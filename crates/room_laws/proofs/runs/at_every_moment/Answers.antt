use Rattle.room_laws.proofs.EveryRun.{every_moment}
use Rattle.room_laws.proofs.runs.at_every_moment.Goals as goal

pub returns : goal.returns
returns c = every_moment
