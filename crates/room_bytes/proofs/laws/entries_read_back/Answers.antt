use Rattle.room_bytes.proofs.Again.{entries_again}
use Rattle.room_bytes.proofs.Once.{entries_differ}
use Rattle.room_bytes.proofs.laws.entries_read_back.Goals as goal

pub returns-clause-back : goal.returns-clause-back
returns-clause-back c = entries_again

pub returns-clause-differ : goal.returns-clause-differ
returns-clause-differ c = entries_differ
