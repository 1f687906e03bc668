-- What an operation writes, in parts: single cells, and removals with all that they take.
use Rattle.std.specs.Prelude.{ℕ, if◌then◌else◌, List, [], ◌∷◌, ◌++◌, Option, Some, None}
use Rattle.std.specs.FinMap.{get}
use Rattle.room_json.specs.Value.{Value}
use Rattle.room_ids.specs.declared.ids.NodeId.{NodeId}
use Rattle.room_nodes.specs.Cells.{removal_cells}
use Rattle.room_nodes.specs.Shape.{Nodes, child_at, up}
use Rattle.room_nodes.specs.Steps.{holds_list, is_under, is_void}
use Rattle.room_nodes.specs.declared.cells.Cell.{Cell}
use Rattle.room_nodes.specs.declared.cells.Cell.TheVariants.{Node as NodeOf, Slot, All}
use Rattle.room_nodes.specs.declared.nodes.Body.{Body}
use Rattle.room_nodes.specs.declared.nodes.Body.TheVariants.{SetKey, Create, Update, Delete, DeleteKey}
use Rattle.room_foot.specs.Spots.{place_cell}

pub data Part : Type 0 where
  one : Cell → Part
  removal : NodeId → Part

abbrev pub cells_in : Nodes → Part → List Cell
cells_in t (one c) = c ∷ []
cells_in t (removal y) = removal_cells t y

abbrev pub cells_of : Nodes → List Part → List Cell
cells_of t [] = []
cells_of t (p ∷ ps) = cells_in t p ++ cells_of t ps

-- of a removal the node that goes: what it takes beside lies below that
abbrev pub head_of : Part → Cell
head_of (one c) = c
head_of (removal y) = NodeOf y

abbrev pub heads : List Part → List Cell
heads [] = []
heads (p ∷ ps) = head_of p ∷ heads ps

-- the parts of an operation's effect, as its cells are defined

abbrev pub removal_part : Option NodeId → List Part
removal_part None = []
removal_part (Some y) = removal y ∷ []

abbrev pub slot_parts : Nodes → NodeId → List ℕ → List Part
slot_parts t x k = one (Slot x k) ∷ removal_part (child_at t x k)

abbrev pub slots_parts : Nodes → NodeId → List (List ℕ × Value) → List Part
slots_parts t x [] = []
slots_parts t x (e ∷ es) = slot_parts t x e.0 ++ slots_parts t x es

abbrev pub replaced_parts : Nodes → NodeId → Option NodeId → List Part
replaced_parts t p None = []
replaced_parts t p (Some y) = if is_under p y (get t y) then removal y ∷ [] else []

abbrev pub place_parts : Nodes → NodeId → List ℕ → Option NodeId → List Part
place_parts t p k r = if holds_list (get t p) then one (All p) ∷ replaced_parts t p r else slot_parts t p k

abbrev pub effect_parts : Nodes → Body → List Part
effect_parts t (Create x p k r kind) = one (NodeOf x) ∷ one (All x) ∷ place_parts t p k r
effect_parts t (Update x fs) = slots_parts t x fs
effect_parts t (Delete x) = one (place_cell t x) ∷ removal x ∷ []
effect_parts t (DeleteKey x k) = slot_parts t x k
effect_parts t (SetKey x k) = one (All (up t x)) ∷ one (NodeOf x) ∷ []

abbrev pub write_parts : Nodes → Body → List Part
write_parts t b = if is_void t b then [] else effect_parts t b
