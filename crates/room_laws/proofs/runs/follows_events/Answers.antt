use Rattle.room_laws.proofs.Slots.{follows_events}
use Rattle.room_laws.proofs.runs.follows_events.Goals as goal

pub returns : goal.returns
returns c = follows_events
