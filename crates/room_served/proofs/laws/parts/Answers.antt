use Rattle.room_served.proofs.Fronts.{parts}
use Rattle.room_served.proofs.laws.parts.Goals as goal

pub returns : goal.returns
returns c = parts
