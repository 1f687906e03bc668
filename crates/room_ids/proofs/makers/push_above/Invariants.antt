use Rattle.std.proofs.Common.{◌≡◌, ◌++◌, drop}
use Rattle.room_ids.specs.Position.{above}
use Rattle.room_ids.proofs.makers.push_above.Given as goal

abbrev pub invariant-loop-a : goal.invariant-loop-a
invariant-loop-a l = l.made.items ++ above (drop l.a-index l.x) ≡ l.initial.made.items ++ above l.x
