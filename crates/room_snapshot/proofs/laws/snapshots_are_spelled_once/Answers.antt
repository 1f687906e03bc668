use Rattle.room_snapshot.proofs.Once.{snapshots_once}
use Rattle.room_snapshot.proofs.laws.snapshots_are_spelled_once.Goals as goal

pub returns : goal.returns
returns c = snapshots_once
