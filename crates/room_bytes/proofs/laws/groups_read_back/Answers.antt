use Rattle.room_bytes.proofs.Groups.{groups_again, groups_differ}
use Rattle.room_bytes.proofs.laws.groups_read_back.Goals as goal

pub returns-clause-back : goal.returns-clause-back
returns-clause-back c = groups_again

pub returns-clause-differ : goal.returns-clause-differ
returns-clause-differ c = groups_differ
