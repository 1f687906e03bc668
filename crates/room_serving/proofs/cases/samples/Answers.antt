use Rattle.room_serving.proofs.SampleCases.{cases}
use Rattle.room_serving.proofs.cases.samples.Goals as goal

pub returns : goal.returns
returns c = cases
