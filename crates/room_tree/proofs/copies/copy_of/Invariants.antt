use Rattle.std.proofs.Common.{◌+◌, ◌-◌, ◌≤◌, vec_len}
use Rattle.std.specs.FinMap.{len}
use Rattle.room_tree.specs.Copying.{IsCopying, Nothing}
use Rattle.room_tree.proofs.copies.copy_of.Given as goal

abbrev pub invariant-loop-x : goal.invariant-loop-x
invariant-loop-x g l =
    record {
      copying : IsCopying (g.T.Tree.nodes l.t) (g.T.Tree.nodes l.copy) l.todo.items Nothing;
      room : len (g.T.Tree.nodes l.t) ≤ len (g.T.Tree.nodes l.copy) + g.T.Tree.spare l.copy;
    }

abbrev pub decreases-loop-x : goal.decreases-loop-x
decreases-loop-x g l = (len (g.T.Tree.nodes l.t) - len (g.T.Tree.nodes l.copy)) + vec_len l.todo
