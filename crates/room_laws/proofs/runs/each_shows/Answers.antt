use Rattle.room_laws.proofs.EveryRun.{every_shows}
use Rattle.room_laws.proofs.runs.each_shows.Goals as goal

pub returns : goal.returns
returns c = every_shows
