-- What is left to prove of `edits::go_forth`.
use Rattle.std.proofs.Common.{sym, subst, refl}
use Rattle.room_apply.specs.Edits.{some_turn}
use Rattle.room_apply.specs.Ways.{CanGoForth}
use Rattle.room_apply.proofs.Going.{three_place}
use Rattle.room_apply.proofs.edits.go_forth.Goals as goal

pub turn_all-requires-clause-place : goal.turn_all-requires-clause-place
turn_all-requires-clause-place g c =
    let e = c.e.inside in
    let can = subst (CanGoForth (g.T.Tree.nodes c.args.t.now) (g.T.Tree.spare c.args.t.now))
    (sym c.e.view_is) c.requires in
    (three_place (some_turn e.last) (some_turn e.fields) e.undone.items _ _ _ can.1.1 refl refl).0

pub turn_one-requires-clause-place : goal.turn_one-requires-clause-place
turn_one-requires-clause-place g c =
    let e = c.e.inside in
    let can = subst (CanGoForth (g.T.Tree.nodes c.args.t.now) (g.T.Tree.spare c.args.t.now))
    (sym c.e.view_is) c.requires in
    (three_place (some_turn e.last) (some_turn e.fields) e.undone.items _ _ _ can.1.1 c.turn_all.ensures.spare refl).1.0

pub turn_one-requires-2-clause-place : goal.turn_one-requires-2-clause-place
turn_one-requires-2-clause-place g c =
    let e = c.e.inside in
    let can = subst (CanGoForth (g.T.Tree.nodes c.args.t.now) (g.T.Tree.spare c.args.t.now))
    (sym c.e.view_is) c.requires in
    (three_place (some_turn e.last) (some_turn e.fields) e.undone.items _ _ _ can.1.1 c.turn_all.ensures.spare
    c.turn_one.ensures.spare).1.1
