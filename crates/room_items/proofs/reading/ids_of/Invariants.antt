use Rattle.std.proofs.Common.{◌≡◌, ◌∷◌, ◌++◌, map, drop}
use Rattle.room_ids.specs.declared.ids.NodeId.TheVariants.{Root}
use Rattle.room_items.specs.Items.{row_id}
use Rattle.room_items.proofs.reading.ids_of.Given as goal

abbrev pub invariant-loop-row : goal.invariant-loop-row
invariant-loop-row l = l.ids ++ map row_id (drop l.row-index l.rows) ≡ Root ∷ map row_id l.rows
