use Rattle.room_laws.proofs.Moves.{runs_singly}
use Rattle.room_laws.proofs.runs.runs_singly.Goals as goal

pub returns : goal.returns
returns c = runs_singly
