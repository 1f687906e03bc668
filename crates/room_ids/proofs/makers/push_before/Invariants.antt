use Rattle.std.proofs.Common.{◌≡◌, ◌++◌, length}
use Rattle.room_ids.specs.Position.{before}
use Rattle.room_ids.proofs.makers.push_before.Given as goal

abbrev pub invariant-loop-rest : goal.invariant-loop-rest
invariant-loop-rest l = l.made.items ++ before l.rest ≡ l.initial.made.items ++ before l.x

abbrev pub decreases-loop-rest : goal.decreases-loop-rest
decreases-loop-rest l = length l.rest
