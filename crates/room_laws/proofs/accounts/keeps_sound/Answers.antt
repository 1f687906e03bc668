use Rattle.room_laws.proofs.EveryRun.{every_account}
use Rattle.room_laws.proofs.accounts.keeps_sound.Goals as goal

pub returns : goal.returns
returns c = every_account
