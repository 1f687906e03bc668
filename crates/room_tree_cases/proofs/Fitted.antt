-- Edits that were fitted to a tree go back from it.
use Rattle.std.proofs.Common.{◌≡◌, ◌≤◌, ℕ, List, Option, Some, None, refl, arith}
use Rattle.room_ids.specs.declared.ids.NodeId.{NodeId}
use Rattle.room_nodes.specs.Cells.{Agrees}
use Rattle.room_nodes.specs.Shape.{Nodes, IsFormed}
use Rattle.room_nodes.specs.declared.cells.Cell.{Cell}
use Rattle.room_nodes.specs.declared.nodes.Body.{Body}
use Rattle.room_apply.specs.Edits.{puts_in}
use Rattle.room_apply.specs.Ways.{AreEdits, CanGoBack, GoesBack, IsWithCells, Meets, SameObject, Way, backs, before}
use Rattle.room_apply.specs.Ways.{nodes_of, object_of}
use Rattle.room_apply.specs.Within.{cells}
use Rattle.room_apply.proofs.Going.{may_go_back}
use Rattle.room_tree_cases.specs.Pairs.{MayFit}
use Rattle.room_tree_cases.proofs.Agreeing.{agrees_self, agrees_then}

same_object : (t : Nodes) (o : Option NodeId) → SameObject t t o
same_object t None = tt
same_object t (Some x) = refl

-- a tree meets itself
pub meets_self : (cs : List Cell) (t : Nodes) (e : Way) → Meets cs t t e
meets_self cs t e = (agrees_self t cs, same_object t (object_of e))

pub can_back : (cs : List Cell) (u t : Nodes) (d : ℕ) (e w : Way) → IsFormed t → MayFit cs u t e → GoesBack cs t w
    → puts_in (backs w) ≡ puts_in (backs e) → nodes_of w ≡ nodes_of e → nodes_of w ≤ d → CanGoBack t d w
can_back cs u t d e w f m goes puts count le =
    may_go_back cs t t d w goes f (meets_self cs t w) (omega (arith, puts, count, le, m.places))

-- what they lead to is what they led to where they went first
pub leads_back : (cs : List Cell) (u t v : Nodes) (e w : Way) → Agrees (before u e) (before t w) cs
    → IsWithCells cs (before t w) t v → IsWithCells cs (before u e) t v
leads_back cs u t v e w same h = record {
  cells = agrees_then (before u e) (before t w) v cs same h.cells;
  elsewhere = h.elsewhere;
}

-- the edits of a step may be fitted to a tree that has the cells as the step left them

pub fits : (t u v : Nodes) (b : Body) (e : Way) → AreEdits t b u e → Agrees u v (cells t b)
    → MayFit (cells t b) u v e
fits t u v b e x agree = record { goes = x.goes; agrees = agree; places = omega (arith, x.removed, x.nodes) }

pub may_fit : (t u v : Nodes) (b : Body) (e : Way) → AreEdits t b u e → Agrees u v (cells t b)
    → (cs : List Cell) × ((w : Nodes) × MayFit cs w v e)
may_fit t u v b e x agree = (cells t b, (u, fits t u v b e x agree))
