-- The invariants of `slots::cut_names`.
use Rattle.std.proofs.Common.{◌≡◌}
use Rattle.room_json.specs.View.{members_view}
use Rattle.room_nodes.specs.Steps.{without_children}
use Rattle.room_apply.specs.Edits.{KeepsUndo}
use Rattle.room_apply.specs.Within.{ArePuts}
use Rattle.room_apply.proofs.slots.cut_names.Given as goal

abbrev pub invariant-loop-name : goal.invariant-loop-name
invariant-loop-name g l =
    record {
      left : without_children (g.T.Tree.nodes l.t) l.parent (members_view l.name-iterator)
          ≡ without_children (g.T.Tree.nodes l.initial.t) l.parent (members_view l.names.entries);
      puts : ArePuts l.initial.done.items → ArePuts l.done.items;
      undo : KeepsUndo (g.T.Tree.nodes l.initial.t) (g.T.Tree.spare l.initial.t) l.initial.done.items
          (g.T.Tree.nodes l.t) (g.T.Tree.spare l.t) l.done.items;
    }
