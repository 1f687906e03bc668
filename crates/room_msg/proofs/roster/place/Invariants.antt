use Rattle.std.proofs.Common.{◌≡◌, ◌+◌, drop}
use Rattle.room_msg.specs.Users.{place_of}
use Rattle.room_msg.proofs.roster.place.Given as goal

abbrev pub invariant-loop-other : goal.invariant-loop-other
invariant-loop-other l = (l.at ≡ l.other-index) × (l.at + place_of l.actor (drop l.other-index l.users) ≡ place_of l.actor l.users)
