use Rattle.std.proofs.Common.{◌≡◌, ◌++◌, drop}
use Rattle.room_ids.specs.Position.{after}
use Rattle.room_ids.proofs.makers.push_after.Given as goal

abbrev pub invariant-loop-c : goal.invariant-loop-c
invariant-loop-c l = l.made.items ++ after (drop l.c-index l.x) ≡ l.initial.made.items ++ after l.x
