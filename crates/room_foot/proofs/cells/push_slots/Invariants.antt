use Rattle.std.proofs.Common.{◌≡◌, ◌++◌}
use Rattle.room_json.specs.View.{members_view}
use Rattle.room_nodes.specs.Cells.{slots_cells}
use Rattle.room_foot.proofs.cells.push_slots.Given as goal

abbrev pub invariant-loop-key : goal.invariant-loop-key
invariant-loop-key g l =
    l.cells ++ slots_cells (g.T.Tree.nodes l.t) l.id (members_view l.key-iterator)
    ≡ l.initial.cells ++ slots_cells (g.T.Tree.nodes l.t) l.id l.fields
