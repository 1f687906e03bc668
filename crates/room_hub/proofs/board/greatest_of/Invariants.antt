use Rattle.std.proofs.Common.{◌≡◌, max, drop}
use Rattle.room_hub.specs.Happening.{opened_in}
use Rattle.room_hub.specs.Memory.{greatest}
use Rattle.room_hub.proofs.board.greatest_of.Given as goal

abbrev pub invariant-loop-event : goal.invariant-loop-event
invariant-loop-event l = max l.top (greatest (opened_in (drop l.event-index l.events))) ≡ greatest (opened_in l.events)
