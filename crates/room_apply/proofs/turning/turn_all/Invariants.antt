-- The invariants of `turning::turn_all`.
use Rattle.std.proofs.Common.{◌≡◌, ◌≤◌, ◌+◌, ◌++◌, vec_len, vec_capacity}
use Rattle.room_apply.specs.Edits.{turned_all, reverse_all, CanTurnAll, places_all, HasPlaces}
use Rattle.room_apply.proofs.turning.turn_all.Given as goal

abbrev pub invariant-loop-change : goal.invariant-loop-change
invariant-loop-change g l =
    record {
      can : CanTurnAll (g.T.Tree.nodes l.t) l.from.items;
      place : HasPlaces (g.T.Tree.spare l.t) l.from.items;
      nodes : turned_all (g.T.Tree.nodes l.t) l.from.items
          ≡ turned_all (g.T.Tree.nodes l.initial.t) l.initial.from.items;
      spare : places_all (g.T.Tree.spare l.t) l.from.items
          ≡ places_all (g.T.Tree.spare l.initial.t) l.initial.from.items;
      to : l.to.items ++ reverse_all (g.T.Tree.nodes l.t) l.from.items ≡ l.initial.to.items ++ reverse_all
          (g.T.Tree.nodes l.initial.t) l.initial.from.items;
      room : vec_len l.to + vec_len l.from ≤ vec_capacity l.to;
      len : vec_len l.to + vec_len l.from ≡ vec_len l.initial.to + vec_len l.initial.from;
      from_capacity : vec_capacity l.from ≡ vec_capacity l.initial.from;
      to_capacity : vec_capacity l.initial.to ≤ vec_capacity l.to;
    }

abbrev pub decreases-loop-change : goal.decreases-loop-change
decreases-loop-change g l = vec_len l.from
