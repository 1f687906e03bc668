-- The invariants of `turning::undo_all`.
use Rattle.std.proofs.Common.{◌≡◌, vec_len}
use Rattle.room_apply.specs.Edits.{turned_all, CanTurnAll, places_all, HasPlaces}
use Rattle.room_apply.proofs.turning.undo_all.Given as goal

abbrev pub invariant-loop-change : goal.invariant-loop-change
invariant-loop-change g l =
    record {
      can : CanTurnAll (g.T.Tree.nodes l.t) l.done.items;
      place : HasPlaces (g.T.Tree.spare l.t) l.done.items;
      nodes : turned_all (g.T.Tree.nodes l.t) l.done.items
          ≡ turned_all (g.T.Tree.nodes l.initial.t) l.initial.done.items;
      spare : places_all (g.T.Tree.spare l.t) l.done.items
          ≡ places_all (g.T.Tree.spare l.initial.t) l.initial.done.items;
    }

abbrev pub decreases-loop-change : goal.decreases-loop-change
decreases-loop-change g l = vec_len l.done
