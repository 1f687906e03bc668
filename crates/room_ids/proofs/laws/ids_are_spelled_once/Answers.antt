use Rattle.room_ids.proofs.Spelled.{stamp_once, node_once}
use Rattle.room_ids.proofs.laws.ids_are_spelled_once.Goals as goal

pub returns-clause-stamps : goal.returns-clause-stamps
returns-clause-stamps c = stamp_once

pub returns-clause-nodes : goal.returns-clause-nodes
returns-clause-nodes c = node_once
