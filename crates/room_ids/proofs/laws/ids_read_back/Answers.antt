use Rattle.room_ids.proofs.Spelled.{number_again, stamp_again, node_again}
use Rattle.room_ids.proofs.laws.ids_read_back.Goals as goal

pub returns-clause-numbers : goal.returns-clause-numbers
returns-clause-numbers c = number_again

pub returns-clause-stamps : goal.returns-clause-stamps
returns-clause-stamps c = stamp_again

pub returns-clause-nodes : goal.returns-clause-nodes
returns-clause-nodes c = node_again
