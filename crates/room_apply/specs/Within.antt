-- Changes that keep within some cells of a tree.
use Rattle.std.specs.Prelude.{◌≡◌, ℕ, Bool, true, false, List, [], ◌∷◌, ◌++◌, Option, Some, None, is_some}
use Rattle.std.specs.Ordering.{nat_cmp}
use Rattle.std.specs.Cmp.Lexicographic.{slice_cmp}
use Rattle.std.specs.FinMap.{get, find}
use Rattle.room_ids.specs.declared.ids.NodeId.{NodeId}
use Rattle.room_json.specs.Value.{Value}
use Rattle.room_nodes.specs.Cells.{overlaps_some, reads, writes}
use Rattle.room_nodes.specs.Primitives.{fields_in, key_in}
use Rattle.room_nodes.specs.Shape.{Nodes, up}
use Rattle.room_nodes.specs.Turns.{CanTurn}
use Rattle.room_nodes.specs.declared.cells.Cell.{Cell}
use Rattle.room_nodes.specs.declared.cells.Cell.TheVariants.{Node as NodeOf, Slot}
use Rattle.room_nodes.specs.declared.nodes.Body.{Body}
use Rattle.room_nodes.specs.declared.turns.Turn.{Turn}
use Rattle.room_nodes.specs.declared.turns.Turn.TheVariants.{Put, Cut, Fields, Key}
use Rattle.room_apply.specs.Edits.{turned_all}

abbrev pub FieldsOf : Type 0
FieldsOf = List (List ℕ × Value)

-- the cells of an operation on a tree: what it reads, and what it reads and writes
abbrev pub cells : Nodes → Body → List Cell
cells t b = reads t b ++ writes t b

abbrev pub IsNodeIn : List Cell → NodeId → Type 0
IsNodeIn cs x = overlaps_some (NodeOf x) cs ≡ true

abbrev pub IsSlotIn : List Cell → NodeId → List ℕ → Type 0
IsSlotIn cs x k = overlaps_some (Slot x k) cs ≡ true

-- a node with all its slots, its parent, and its slot there
pub record IsPlaceIn (cs : List Cell) (x p : NodeId) (k : List ℕ) : Type 0 where
  pub node : IsNodeIn cs x
  pub slots : (j : List ℕ) → IsSlotIn cs x j
  pub parent : IsNodeIn cs p
  pub slot : IsSlotIn cs p k

-- a child of a list, with all slots of the list
pub record IsKeyIn (cs : List Cell) (x p : NodeId) : Type 0 where
  pub node : IsNodeIn cs x
  pub parent : IsNodeIn cs p
  pub slots : (j : List ℕ) → IsSlotIn cs p j

abbrev pub is_name : List ℕ → FieldsOf → Bool
is_name k ns = is_some (find (slice_cmp nat_cmp) k ns)

-- an object whose fields become fs from gs: those of some names alone, and the slots at these names
pub record AreFieldsIn (cs : List Cell) (ns : FieldsOf) (x : NodeId) (fs gs : FieldsOf) : Type 0 where
  pub node : IsNodeIn cs x
  pub names : (k : List ℕ) → is_name k ns ≡ true → IsSlotIn cs x k
  pub others : (k : List ℕ) → is_name k ns ≡ false → find (slice_cmp nat_cmp) k fs ≡ find (slice_cmp nat_cmp) k gs

-- what a change touches of a tree lies in the cells; of fields, it changes those of the names alone
abbrev pub IsWithin : List Cell → FieldsOf → Nodes → Turn → Type 0
IsWithin cs ns t (Put x n) = IsPlaceIn cs x n.parent n.key
IsWithin cs ns t (Cut x) = IsPlaceIn cs x (up t x) (key_in (get t x))
IsWithin cs ns t (Fields x fs) = AreFieldsIn cs ns x fs (fields_in (get t x))
IsWithin cs ns t (Key x k) = IsKeyIn cs x (up t x)

-- changes that can be made one after the other, each within the cells
abbrev pub RunsIn : List Cell → FieldsOf → Nodes → List Turn → Type 0
RunsIn cs ns t [] = Unit {0}
RunsIn cs ns t (c ∷ ts) = (CanTurn (turned_all t ts) c × IsWithin cs ns (turned_all t ts) c) × RunsIn cs ns t ts

-- kinds of changes

-- a change that puts a node
abbrev pub IsPut : Turn → Type 0
IsPut (Put x n) = Unit {0}
IsPut (Cut x) = ⊥
IsPut (Fields x fs) = ⊥
IsPut (Key x k) = ⊥

abbrev pub ArePuts : List Turn → Type 0
ArePuts [] = Unit {0}
ArePuts (c ∷ cs) = IsPut c × ArePuts cs

-- a change of no fields
abbrev pub IsMove : Turn → Type 0
IsMove (Put x n) = Unit {0}
IsMove (Cut x) = Unit {0}
IsMove (Fields x fs) = ⊥
IsMove (Key x k) = Unit {0}

abbrev pub AreMoves : List Turn → Type 0
AreMoves [] = Unit {0}
AreMoves (c ∷ cs) = IsMove c × AreMoves cs

-- a change of fields, or none
abbrev pub IsOfFields : Option Turn → Type 0
IsOfFields None = Unit {0}
IsOfFields (Some (Put x n)) = ⊥
IsOfFields (Some (Cut x)) = ⊥
IsOfFields (Some (Fields x fs)) = Unit {0}
IsOfFields (Some (Key x k)) = ⊥

-- what a step does last: it puts a node, or sets a key, or nothing
abbrev pub IsGiving : Option Turn → Type 0
IsGiving None = Unit {0}
IsGiving (Some (Put x n)) = Unit {0}
IsGiving (Some (Cut x)) = ⊥
IsGiving (Some (Fields x fs)) = ⊥
IsGiving (Some (Key x k)) = Unit {0}

-- what takes that back
abbrev pub IsTaking : Option Turn → Type 0
IsTaking None = Unit {0}
IsTaking (Some (Put x n)) = ⊥
IsTaking (Some (Cut x)) = Unit {0}
IsTaking (Some (Fields x fs)) = ⊥
IsTaking (Some (Key x k)) = Unit {0}

-- a node that is put is new
abbrev pub IsFreshIn : Nodes → Option Turn → Type 0
IsFreshIn t None = Unit {0}
IsFreshIn t (Some (Put x n)) = is_some (get t x) ≡ false
IsFreshIn t (Some (Cut x)) = Unit {0}
IsFreshIn t (Some (Fields x fs)) = Unit {0}
IsFreshIn t (Some (Key x k)) = Unit {0}
