use Rattle.room_served.proofs.Standing.{served_valid}
use Rattle.room_served.proofs.laws.served_valid.Goals as goal

pub returns : goal.returns
returns c = served_valid
