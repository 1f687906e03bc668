use Rattle.room_headline.proofs.Recovered as recovered
use Rattle.room_headline.proofs.laws.each_is_found.Goals as goal

pub returns-clause-along : goal.returns-clause-along
returns-clause-along g c = recovered.each_is_found g.D.Stopping.inner_images

pub returns-clause-ended : goal.returns-clause-ended
returns-clause-ended g c = recovered.replay_is_found g.D.Stopping.inner_images

pub returns-clause-broke : goal.returns-clause-broke
returns-clause-broke g c = recovered.broken_is_found g.D.Stopping.inner_images
