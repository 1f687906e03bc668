use Rattle.room_laws.proofs.Open.{keeps_open}
use Rattle.room_laws.proofs.accounts.keeps_open.Goals as goal

pub returns : goal.returns
returns c = keeps_open
