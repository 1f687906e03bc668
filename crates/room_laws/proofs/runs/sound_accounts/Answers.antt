use Rattle.room_laws.proofs.EveryRun.{every_sound}
use Rattle.room_laws.proofs.runs.sound_accounts.Goals as goal

pub returns : goal.returns
returns c = every_sound
