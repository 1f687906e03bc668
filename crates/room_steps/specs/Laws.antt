-- Laws of steps and folds: what operations touch, and what takes them back.
use Rattle.std.specs.Prelude.{◌≡◌, false, true, List}
use Rattle.room_nodes.specs.declared.nodes.Body.{Body}
use Rattle.room_nodes.specs.declared.cells.Cell.{Cell}
use Rattle.room_nodes.specs.Cells.{Agrees, AgreesOn, IsApart, cells_all, overlaps_some, writes_all}
use Rattle.room_nodes.specs.Ordered.{IsOrderedTree, AreOrderedBodies}
use Rattle.room_nodes.specs.Reversal.{reverse_all}
use Rattle.room_nodes.specs.Shallow.{IsShallowTree, is_shallow, AreShallow}
use Rattle.room_nodes.specs.Shape.{Nodes, IsFormed}
use Rattle.room_nodes.specs.Sound.{IsSoundTree, IsSoundBody, AreSoundBodies}
use Rattle.room_nodes.specs.Steps.{step, settled_body, settle_all, fold}

-- a step of a sound tree by a sound operation is sound, and so is a fold; settled, the operation is sound too
pub record KeepsSound : Type 0 where
  pub settled : (t : Nodes) (b : Body) → IsFormed t → IsSoundTree t → IsSoundBody b → IsSoundBody (settled_body t b)
  pub step : (t : Nodes) (b : Body) → IsFormed t → IsSoundTree t → IsSoundBody b → IsSoundTree (step t b)
  pub fold : (t : Nodes) (bs : List Body) → IsFormed t → IsSoundTree t → AreSoundBodies bs → IsSoundTree (fold t bs)
  pub ordered : (t : Nodes) → IsSoundTree t → IsOrderedTree t
  pub ordered_bodies : (bs : List Body) → AreSoundBodies bs → AreOrderedBodies bs

-- no step makes values deeper than those of the tree and of the operation
pub record KeepsShallow : Type 0 where
  pub settled : (t : Nodes) (b : Body) → is_shallow b ≡ true → is_shallow (settled_body t b) ≡ true
  pub step : (t : Nodes) (b : Body) → IsShallowTree t → is_shallow b ≡ true → IsShallowTree (step t b)
  pub fold : (t : Nodes) (bs : List Body) → IsShallowTree t → AreShallow bs → IsShallowTree (fold t bs)

-- settled operations do what the operations do, and settle to themselves
pub record SettlesOnce : Type 0 where
  pub fold : (t : Nodes) (bs : List Body) → IsFormed t → fold t (settle_all t bs) ≡ fold t bs
  pub again : (t : Nodes) (bs : List Body) → IsFormed t → settle_all t (settle_all t bs) ≡ settle_all t bs

-- a batch and its reversal lead back; fields stand in byte order, as members do
abbrev pub Reversible : Type 0
Reversible =
    (t : Nodes) (bs : List Body) → IsFormed t → IsOrderedTree t → AreOrderedBodies bs
    → fold (fold t bs) (reverse_all t bs) ≡ t

-- what operations touch: outside the cells that they write the tree stays; trees that agree on their cells agree on
-- them after; and lists that are apart may be done in either order

abbrev pub Outside : Type 0
Outside =
    (t : Nodes) (bs : List Body) (c : Cell) → IsFormed t → overlaps_some c (writes_all t bs) ≡ false
    → AgreesOn t (fold t bs) c

abbrev pub AlikeAfter : Type 0
AlikeAfter =
    (t u : Nodes) (bs : List Body) → IsFormed t → IsFormed u → Agrees t u (cells_all t bs)
    → Agrees (fold t bs) (fold u bs) (cells_all t bs)

abbrev pub EitherOrder : Type 0
EitherOrder =
    (t : Nodes) (bs cs : List Body) → IsFormed t → IsOrderedTree t → AreOrderedBodies bs → AreOrderedBodies cs
    → IsApart t bs cs → fold (fold t bs) cs ≡ fold (fold t cs) bs

pub record Footprints : Type 0 where
  pub outside : Outside
  pub alike : AlikeAfter
  pub either_order : EitherOrder

-- undoing a batch whose cells nothing else touched restores them. The batch was made on s and taken on t, which agree
-- on its cells; then came zs, apart from it; then its reversal, as it was taken on s. The tree is as if neither had
-- been
abbrev pub UndoRestores : Type 0
UndoRestores =
    (s t : Nodes) (bs zs : List Body) → IsFormed s → IsFormed t → IsOrderedTree s → IsOrderedTree t
    → AreOrderedBodies bs → AreOrderedBodies zs → Agrees s t (cells_all s bs) → IsApart t zs bs
    → fold (fold (fold t bs) zs) (reverse_all s bs) ≡ fold t zs

-- what stays where trees agree on the cells of operations: these cells, and what takes the operations back. This puts
-- whole nodes back, so fields stand in order: nodes whose fields differ in their order alone agree on every cell
pub record SameOnCells : Type 0 where
  pub cells : (t u : Nodes) (bs : List Body) → IsFormed t → IsFormed u → Agrees t u (cells_all t bs)
      → cells_all u bs ≡ cells_all t bs
  pub writes : (t u : Nodes) (bs : List Body) → IsFormed t → IsFormed u → Agrees t u (cells_all t bs)
      → writes_all u bs ≡ writes_all t bs
  pub reversal : (t u : Nodes) (bs : List Body) → IsFormed t → IsFormed u → IsOrderedTree t → IsOrderedTree u
      → Agrees t u (cells_all t bs) → reverse_all u bs ≡ reverse_all t bs

-- the cells of operations that are apart from others stay as they were behind these
abbrev pub CellsStay : Type 0
CellsStay = (t : Nodes) (bs cs : List Body) → IsFormed t → IsApart t bs cs → cells_all (fold t bs) cs ≡ cells_all t cs
