use Rattle.room_playing.proofs.SampleCases.{cases}
use Rattle.room_playing.proofs.cases.samples.Goals as goal

pub returns : goal.returns
returns c = cases
