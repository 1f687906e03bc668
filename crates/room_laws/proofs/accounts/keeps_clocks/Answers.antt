use Rattle.room_laws.proofs.ClocksKept.{keeps_clocks}
use Rattle.room_laws.proofs.accounts.keeps_clocks.Goals as goal

pub returns : goal.returns
returns c = keeps_clocks
