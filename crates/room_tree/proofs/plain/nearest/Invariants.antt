use Rattle.std.proofs.Common.{◌≡◌, ◌≤◌, drop, length, option_map}
use Rattle.std.specs.Option.{option_copied}
use Rattle.room_tree.specs.Nearest.{keyed, nearest_of}
use Rattle.room_tree.proofs.plain.nearest.Given as goal

abbrev pub invariant-loop-at : goal.invariant-loop-at
invariant-loop-at l = (l.at ≤ length l.entries) × (option_map keyed (option_copied l.best) ≡ nearest_of l.parent (option_copied l.key) (drop l.at l.entries))

abbrev pub decreases-loop-at : goal.decreases-loop-at
decreases-loop-at l = l.at
