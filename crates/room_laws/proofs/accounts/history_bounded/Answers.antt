use Rattle.room_laws.proofs.HistoryBounds.{history_bounded}
use Rattle.room_laws.proofs.accounts.history_bounded.Goals as goal

pub returns : goal.returns
returns c = history_bounded
