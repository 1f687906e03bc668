use Rattle.room_bytes.proofs.Groups.{groups_once}
use Rattle.room_bytes.proofs.laws.groups_are_spelled_once.Goals as goal

pub returns : goal.returns
returns c = groups_once
