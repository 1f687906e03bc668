use Rattle.std.proofs.Common.{◌≡◌}
use Rattle.room_json.specs.View.{members_view}
use Rattle.room_nodes.specs.Cells.{overlaps_some, slots_cells}
use Rattle.room_foot.specs.Spots.{cell_of}
use Rattle.room_foot.proofs.covers.in_slots.Given as goal

abbrev pub invariant-loop-key : goal.invariant-loop-key
invariant-loop-key g l =
    overlaps_some (cell_of l.spot) (slots_cells (g.T.Tree.nodes l.t) l.id (members_view l.key-iterator))
    ≡ overlaps_some (cell_of l.spot) (slots_cells (g.T.Tree.nodes l.t) l.id l.fields)
