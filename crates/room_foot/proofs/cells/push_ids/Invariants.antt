use Rattle.std.proofs.Common.{◌≡◌, ◌++◌, drop}
use Rattle.room_foot.specs.Rising.{ids_cells}
use Rattle.room_foot.proofs.cells.push_ids.Given as goal

abbrev pub invariant-loop-id : goal.invariant-loop-id
invariant-loop-id l = l.cells ++ ids_cells (drop l.id-index l.ids) ≡ l.initial.cells ++ ids_cells l.ids
