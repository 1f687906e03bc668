use Rattle.room_laws.proofs.EveryRun.{every_world}
use Rattle.room_laws.proofs.runs.sound_worlds.Goals as goal

pub returns : goal.returns
returns c = every_world
