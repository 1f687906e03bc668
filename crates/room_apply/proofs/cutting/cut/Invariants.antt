-- The invariants of `cutting::cut`.
use Rattle.std.proofs.Common.{ℕ, ◌+◌, ◌-◌, ◌*◌}
use Rattle.std.specs.FinMap.{get, len}
use Rattle.room_nodes.specs.Shape.{Nodes}
use Rattle.room_nodes.specs.Steps.{depth_in}
use Rattle.room_apply.specs.Edits.{IsUndo}
use Rattle.room_apply.specs.Within.{ArePuts}
use Rattle.room_nodes.proofs.Cutting.{IsWalk}
use Rattle.room_apply.proofs.cutting.cut.Given as goal

abbrev pub invariant-loop-child : goal.invariant-loop-child
invariant-loop-child g l =
    record {
      puts : ArePuts l.initial.done.items → ArePuts l.done.items;
      walk : IsWalk (g.T.Tree.nodes l.initial.t) (g.T.Tree.nodes l.t) l.x l.at;
      undo : (s : Nodes) (a : ℕ)
          → IsUndo s a (g.T.Tree.nodes l.initial.t) (g.T.Tree.spare l.initial.t) l.initial.done.items
          → IsUndo s a (g.T.Tree.nodes l.t) (g.T.Tree.spare l.t) l.done.items;
    }

abbrev pub decreases-loop-child : goal.decreases-loop-child
decreases-loop-child g l = 62 * len (g.T.Tree.nodes l.t) + (60 - depth_in (get (g.T.Tree.nodes l.t) l.at))
