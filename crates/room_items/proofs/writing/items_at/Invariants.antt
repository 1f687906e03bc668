use Rattle.std.proofs.Common.{◌≡◌, ◌++◌, map, drop}
use Rattle.room_items.specs.Items.{item_out}
use Rattle.room_items.proofs.writing.items_at.Given as goal

abbrev pub invariant-loop-id : goal.invariant-loop-id
invariant-loop-id g l = l.items ++ map (item_out (g.T.Tree.nodes l.t)) (drop l.id-index l.ids) ≡ map (item_out (g.T.Tree.nodes l.t)) l.ids
