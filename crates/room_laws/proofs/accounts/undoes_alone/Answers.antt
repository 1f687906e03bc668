use Rattle.room_laws.proofs.Alone.{undoes_alone}
use Rattle.room_laws.proofs.accounts.undoes_alone.Goals as goal

pub returns : goal.returns
returns c = undoes_alone
