use Rattle.room_laws.proofs.SampleAlone.{alone_sample}
use Rattle.room_laws.proofs.samples.alone_is_met.Goals as goal

pub returns : goal.returns
returns c = alone_sample
