use Rattle.room_wire.proofs.Law.{ops_again}
use Rattle.room_wire.proofs.laws.ops_read_back.Goals as goal

pub returns : goal.returns
returns c = ops_again
