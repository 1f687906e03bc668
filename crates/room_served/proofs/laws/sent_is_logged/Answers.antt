use Rattle.room_served.proofs.Standing.{sent_is_logged}
use Rattle.room_served.proofs.laws.sent_is_logged.Goals as goal

pub returns : goal.returns
returns c = sent_is_logged
