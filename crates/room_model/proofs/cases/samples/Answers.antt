use Rattle.room_model.proofs.SampleCases.{samples}
use Rattle.room_model.proofs.cases.samples.Goals as goal

pub returns : goal.returns
returns c = samples
