use Rattle.std.proofs.Common.{◌≡◌, ◌+◌, drop, length}
use Rattle.room_ids.specs.Position.{above}
use Rattle.room_foot.proofs.lengths.length_above.Given as goal

abbrev pub invariant-loop-a : goal.invariant-loop-a
invariant-loop-a l = (l.count + length (above (drop l.a-index l.x)) ≡ length (above l.x) + 1) × (l.count ≡ l.a-index + 1)
