use Rattle.std.proofs.Common.{◌≡◌, drop, map}
use Rattle.room_model.specs.Access.{decide_from, decide}
use Rattle.room_access.specs.View.{rule_of}
use Rattle.room_access.proofs.deciding.decide_among.Given as goal

abbrev pub invariant-loop-at : goal.invariant-loop-at
invariant-loop-at l =
    decide_from l.at (map rule_of (drop l.at l.rules)) l.room l.group ≡ decide (map rule_of l.rules) l.room l.group
