use Rattle.std.proofs.Common.{◌≡◌, ◌+◌, drop}
use Rattle.room_tree.specs.Nearest.{place_of}
use Rattle.room_tree.proofs.plain.place.Given as goal

abbrev pub invariant-loop-entry : goal.invariant-loop-entry
invariant-loop-entry l = (l.at ≡ l.entry-index) × (l.at + place_of l.id (drop l.entry-index l.entries) ≡ place_of l.id l.entries)
