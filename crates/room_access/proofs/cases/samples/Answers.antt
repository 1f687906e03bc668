use Rattle.room_access.proofs.SampleCases.{samples}
use Rattle.room_access.proofs.cases.samples.Goals as goal

pub returns : goal.returns
returns c = samples
