use Rattle.room_script.proofs.SampleCases.{samples}
use Rattle.room_script.proofs.cases.samples.Goals as goal

pub returns : goal.returns
returns c = samples
