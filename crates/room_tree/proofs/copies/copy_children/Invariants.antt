use Rattle.std.proofs.Common.{◌≡◌, ◌+◌, ◌-◌, ◌≤◌, vec_len}
use Rattle.std.specs.Option.{option_copied}
use Rattle.std.specs.FinMap.{len}
use Rattle.room_tree.specs.Copying.{IsInHand}
use Rattle.room_tree.proofs.copies.copy_children.Given as goal

abbrev pub invariant-loop-child : goal.invariant-loop-child
invariant-loop-child g l =
    record {
      hand : IsInHand (g.T.Tree.nodes l.t) (g.T.Tree.nodes l.copy) l.todo.items l.x (option_copied l.key);
      room : len (g.T.Tree.nodes l.t) ≤ len (g.T.Tree.nodes l.copy) + g.T.Tree.spare l.copy;
      size : len (g.T.Tree.nodes l.copy) + vec_len l.initial.todo ≡ len (g.T.Tree.nodes l.initial.copy) + vec_len l.todo;
    }

abbrev pub decreases-loop-child : goal.decreases-loop-child
decreases-loop-child g l = len (g.T.Tree.nodes l.t) - len (g.T.Tree.nodes l.copy)
