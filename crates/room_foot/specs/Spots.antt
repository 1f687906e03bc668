-- Cells that borrow their keys, and where nodes stand.
use Rattle.std.specs.Prelude.{ℕ, if◌then◌else◌, List, ◌∷◌, Option}
use Rattle.std.specs.FinMap.{get}
use Rattle.room_ids.specs.declared.ids.NodeId.{NodeId}
use Rattle.room_nodes.specs.Cells.{replaced_cells, slot_cells}
use Rattle.room_nodes.specs.Primitives.{key_in}
use Rattle.room_nodes.specs.Shape.{Nodes, up}
use Rattle.room_nodes.specs.Steps.{holds_list}
use Rattle.room_nodes.specs.declared.cells.Cell.{Cell}
use Rattle.room_nodes.specs.declared.cells.Cell.TheVariants.{Node as NodeOf, Slot, All}
use Rattle.room_foot.specs.declared.covers.Spot.{Spot}
use Rattle.room_foot.specs.declared.covers.Spot.TheVariants.{Node as NodeSpot, Slot as SlotSpot, All as AllSpot}

abbrev pub cell_of : Spot → Cell
cell_of (NodeSpot x) = NodeOf x
cell_of (SlotSpot x k) = Slot x k.now
cell_of (AllSpot x) = All x

-- the node that a cell is of
abbrev pub owner : Cell → NodeId
owner (NodeOf x) = x
owner (Slot x k) = x
owner (All x) = x

-- where a node stands
abbrev pub place_cell : Nodes → NodeId → Cell
place_cell t x = if holds_list (get t (up t x)) then All (up t x) else Slot (up t x) (key_in (get t x))

-- what a create writes where it puts its node
abbrev pub place_cells : Nodes → NodeId → List ℕ → Option NodeId → List Cell
place_cells t p k r = if holds_list (get t p) then All p ∷ replaced_cells t p r else slot_cells t p k
