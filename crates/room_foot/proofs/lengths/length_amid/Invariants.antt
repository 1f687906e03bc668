use Rattle.std.proofs.Common.{◌≡◌, ◌+◌, ◌≤◌, drop, length}
use Rattle.room_ids.specs.Position.{amid}
use Rattle.room_foot.proofs.lengths.length_amid.Given as goal

abbrev pub invariant-loop-b : goal.invariant-loop-b
invariant-loop-b l = (l.count + length (amid l.left (drop l.b-index l.y)) ≡ length (amid l.x l.y)) × (l.count ≡ l.b-index) × (length l.left ≤ 4096)
