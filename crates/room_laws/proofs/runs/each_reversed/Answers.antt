use Rattle.room_laws.proofs.Reversed.{each_reversed}
use Rattle.room_laws.proofs.runs.each_reversed.Goals as goal

pub returns : goal.returns
returns c = each_reversed
