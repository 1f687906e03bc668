use Rattle.room_bytes.proofs.Once.{entries_once}
use Rattle.room_bytes.proofs.laws.entries_are_spelled_once.Goals as goal

pub returns : goal.returns
returns c = entries_once
