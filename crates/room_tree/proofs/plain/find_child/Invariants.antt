use Rattle.std.proofs.Common.{◌≡◌, drop}
use Rattle.room_tree.specs.Nearest.{found_of}
use Rattle.room_tree.proofs.plain.find_child.Given as goal

abbrev pub invariant-loop-entry : goal.invariant-loop-entry
invariant-loop-entry l = found_of l.parent l.key (drop l.entry-index l.entries) ≡ found_of l.parent l.key l.entries
