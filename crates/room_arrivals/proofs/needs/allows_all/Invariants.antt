use Rattle.std.proofs.Common.{◌≡◌, drop}
use Rattle.room_access.specs.View.{level_of}
use Rattle.room_model.specs.Access as access
use Rattle.room_arrivals.proofs.needs.allows_all.Given as goal

abbrev pub invariant-loop-msg : goal.invariant-loop-msg
invariant-loop-msg l =
    access.allows_all (level_of l.level) (drop l.msg-index l.msgs) ≡ access.allows_all (level_of l.level) l.msgs
