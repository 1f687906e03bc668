use Rattle.room_snapshot.proofs.Again.{snapshots_again}
use Rattle.room_snapshot.proofs.Once.{snapshots_differ}
use Rattle.room_snapshot.proofs.laws.snapshots_read_back.Goals as goal

pub returns-clause-back : goal.returns-clause-back
returns-clause-back c = snapshots_again

pub returns-clause-differ : goal.returns-clause-differ
returns-clause-differ c = snapshots_differ
