-- Two maps that agree on every cell are one.
use Rattle.std.proofs.Common.{◌≡◌, ℕ, Bool, true, false, List, refl, sym}
use Rattle.std.specs.FinMap.{get, same_map}
use Rattle.room_ids.proofs.IdOrder.{node_cmp-total, node_cmp-exact}
use Rattle.room_ids.specs.declared.ids.NodeId.{NodeId}
use Rattle.room_nodes.specs.Cells.{SameSlot, overlaps_some}
use Rattle.room_nodes.specs.Shape.{Nodes}
use Rattle.room_nodes.specs.declared.cells.Cell.{Cell}
use Rattle.room_nodes.specs.declared.cells.Cell.TheVariants.{Node as NodeOf, Slot}
use Rattle.room_steps.proofs.Alike.{Alike}
use Rattle.room_steps.proofs.Commuting.{one_node, ordered_matched}
use Rattle.room_steps.proofs.Covering.{on_node, on_slot}
use Rattle.room_apply.specs.Ways.{IsWithCells, OneMap}

module _ (cs : List Cell) (w v : Nodes) (h : IsWithCells cs w w v) where
  node_by : (q : NodeId) (b : Bool) → overlaps_some (NodeOf q) cs ≡ b → Alike (get w q) (get v q)
  node_by q true e = on_node w v q cs h.cells e
  node_by q false e = h.elsewhere (NodeOf q) e

  slot_by : (q : NodeId) (k : List ℕ) (b : Bool) → overlaps_some (Slot q k) cs ≡ b → SameSlot w v q k
  slot_by q k true e = on_slot w v q k cs h.cells e
  slot_by q k false e = h.elsewhere (Slot q k) e

pub one_map : OneMap
one_map cs w v a b h = sym (same_map node_cmp-total node_cmp-exact w v (λ q.
    one_node w v (ordered_matched w v a b) q (λ k. slot_by cs w v h q k _ refl) (node_by cs w v h q _ refl)))
