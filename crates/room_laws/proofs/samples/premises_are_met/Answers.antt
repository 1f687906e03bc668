use Rattle.room_laws.proofs.SampleRun.{sample}
use Rattle.room_laws.proofs.samples.premises_are_met.Goals as goal

pub returns : goal.returns
returns c = sample
