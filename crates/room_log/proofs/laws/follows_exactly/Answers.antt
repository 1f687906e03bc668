use Rattle.room_log.proofs.Following.{follows_exactly}
use Rattle.room_log.proofs.laws.follows_exactly.Goals as goal

pub returns : goal.returns
returns c = follows_exactly
