use Rattle.std.proofs.Common.{◌≡◌, ◌++◌, length}
use Rattle.room_back.specs.Back.{last_first}
use Rattle.room_back.proofs.batches.join_last_first.Given as goal

abbrev pub invariant-loop-back : goal.invariant-loop-back
invariant-loop-back l = l.all.items ++ last_first l.each.items ≡ last_first l.fn.each.items

abbrev pub decreases-loop-back : goal.decreases-loop-back
decreases-loop-back l = length l.each.items
