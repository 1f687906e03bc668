-- What is left to prove of `edits::go_back`.
use Rattle.std.proofs.Common.{ap, ◌∙◌, sym, subst, refl}
use Rattle.room_apply.specs.Edits.{places_all, some_turn}
use Rattle.room_apply.specs.Ways.{Way, CanGoBack, before, backs}
use Rattle.room_apply.proofs.Going.{three_can, three_place, three_nodes, three_spare}
use Rattle.room_apply.proofs.edits.go_back.Goals as goal

pub turn_one-requires-clause-can : goal.turn_one-requires-clause-can
turn_one-requires-clause-can g c =
    let e = c.e.inside in
    let can = subst (CanGoBack (g.T.Tree.nodes c.args.t.now) (g.T.Tree.spare c.args.t.now))
    (sym c.e.view_is) c.requires in
    (three_can e.done.items (some_turn e.fields) (some_turn e.last) _ _ _ can.1.0 refl refl).0

pub turn_one-requires-clause-place : goal.turn_one-requires-clause-place
turn_one-requires-clause-place g c =
    let e = c.e.inside in
    let can = subst (CanGoBack (g.T.Tree.nodes c.args.t.now) (g.T.Tree.spare c.args.t.now))
    (sym c.e.view_is) c.requires in
    (three_place e.done.items (some_turn e.fields) (some_turn e.last) _ _ _ can.1.1 refl refl).0

pub turn_one-requires-2-clause-can : goal.turn_one-requires-2-clause-can
turn_one-requires-2-clause-can g c =
    let e = c.e.inside in
    let can = subst (CanGoBack (g.T.Tree.nodes c.args.t.now) (g.T.Tree.spare c.args.t.now))
    (sym c.e.view_is) c.requires in
    (three_can e.done.items (some_turn e.fields) (some_turn e.last) _ _ _ can.1.0 c.turn_one.ensures.nodes refl).1.0

pub turn_one-requires-2-clause-place : goal.turn_one-requires-2-clause-place
turn_one-requires-2-clause-place g c =
    let e = c.e.inside in
    let can = subst (CanGoBack (g.T.Tree.nodes c.args.t.now) (g.T.Tree.spare c.args.t.now))
    (sym c.e.view_is) c.requires in
    (three_place e.done.items (some_turn e.fields) (some_turn e.last) _ _ _ can.1.1 c.turn_one.ensures.spare refl).1.0

pub turn_all-requires-clause-can : goal.turn_all-requires-clause-can
turn_all-requires-clause-can g c =
    let e = c.e.inside in
    let can = subst (CanGoBack (g.T.Tree.nodes c.args.t.now) (g.T.Tree.spare c.args.t.now))
    (sym c.e.view_is) c.requires in
    (three_can e.done.items (some_turn e.fields)
    (some_turn e.last) _ _ _ can.1.0 c.turn_one.ensures.nodes c.turn_one-2.ensures.nodes).1.1

pub turn_all-requires-clause-place : goal.turn_all-requires-clause-place
turn_all-requires-clause-place g c =
    let e = c.e.inside in
    let can = subst (CanGoBack (g.T.Tree.nodes c.args.t.now) (g.T.Tree.spare c.args.t.now))
    (sym c.e.view_is) c.requires in
    (three_place e.done.items (some_turn e.fields)
    (some_turn e.last) _ _ _ can.1.1 c.turn_one.ensures.spare c.turn_one-2.ensures.spare).1.1

pub returns-clause-nodes : goal.returns-clause-nodes
returns-clause-nodes g c =
    let e = c.e.inside in
    three_nodes e.done.items (some_turn e.fields)
    (some_turn e.last) _ _ _ _ c.turn_one.ensures.nodes c.turn_one-2.ensures.nodes c.turn_all.ensures.nodes
    ∙ ap (before (g.T.Tree.nodes c.args.t.now)) c.e.view_is

pub returns-clause-spare : goal.returns-clause-spare
returns-clause-spare g c =
    let e = c.e.inside in
    three_spare e.done.items (some_turn e.fields)
    (some_turn e.last) _ _ _ _ c.turn_one.ensures.spare c.turn_one-2.ensures.spare c.turn_all.ensures.spare
    ∙ ap (λ (w : Way). places_all (g.T.Tree.spare c.args.t.now) (backs w)) c.e.view_is
