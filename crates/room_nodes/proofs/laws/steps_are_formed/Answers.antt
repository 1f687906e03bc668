use Rattle.room_nodes.proofs.Steps.{formed-step, formed-fold}
use Rattle.room_nodes.proofs.laws.steps_are_formed.Goals as goal

pub returns-clause-step : goal.returns-clause-step
returns-clause-step c = formed-step

pub returns-clause-fold : goal.returns-clause-fold
returns-clause-fold c = formed-fold
