use Rattle.room_nodes.proofs.Settling.{settled-settled, void_settled}
use Rattle.room_nodes.proofs.laws.settling_twice_is_once.Goals as goal

pub returns-clause-void : goal.returns-clause-void
returns-clause-void c = void_settled

pub returns-clause-settled : goal.returns-clause-settled
returns-clause-settled c = settled-settled
