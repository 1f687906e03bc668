use Rattle.std.proofs.Common.{◌≡◌, ◌++◌, drop}
use Rattle.room_ids.specs.Position.{amid}
use Rattle.room_ids.proofs.makers.push_amid.Given as goal

abbrev pub invariant-loop-b : goal.invariant-loop-b
invariant-loop-b l = l.made.items ++ amid l.left (drop l.b-index l.y) ≡ l.initial.made.items ++ amid l.x l.y
