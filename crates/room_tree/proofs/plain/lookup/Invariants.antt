use Rattle.std.proofs.Common.{◌≡◌, drop}
use Rattle.std.specs.FinMap.{find}
use Rattle.room_ids.specs.Order.{node_cmp}
use Rattle.room_tree.proofs.plain.lookup.Given as goal

abbrev pub invariant-loop-entry : goal.invariant-loop-entry
invariant-loop-entry l = find node_cmp l.id (drop l.entry-index l.entries) ≡ find node_cmp l.id l.entries
