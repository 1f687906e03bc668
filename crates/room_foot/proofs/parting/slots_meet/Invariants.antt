use Rattle.std.proofs.Common.{◌≡◌}
use Rattle.room_json.specs.View.{members_view}
use Rattle.room_nodes.specs.Cells.{effect_cells, meets}
use Rattle.room_foot.specs.Parts.{heads, slots_parts}
use Rattle.room_foot.proofs.parting.slots_meet.Given as goal

abbrev pub invariant-loop-key : goal.invariant-loop-key
invariant-loop-key g l =
    meets (heads (slots_parts (g.T.Tree.nodes l.t) l.id (members_view l.key-iterator))) (effect_cells (g.T.Tree.nodes l.t) l.into)
    ≡ meets (heads (slots_parts (g.T.Tree.nodes l.t) l.id l.fields)) (effect_cells (g.T.Tree.nodes l.t) l.into)
