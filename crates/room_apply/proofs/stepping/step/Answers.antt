-- What is left to prove of `stepping::step`.
use Rattle.std.proofs.Common.{sym, ◌∙◌, subst}
use Rattle.room_apply.specs.Ways.{AreEdits}
use Rattle.room_tree.proofs.Placing.{if_ok}
use Rattle.room_apply.proofs.Settled.{edits_go, if_both, live_edits, live_effect, live_settled, live_still, on_ok}
use Rattle.room_apply.proofs.Settled.{void_edits, void_left}
use Rattle.room_apply.proofs.stepping.step.Goals as goal

pub perform-requires-clause-live : goal.perform-requires-clause-live
perform-requires-clause-live g c =
    let t = g.T.Tree.nodes c.args.t.now in
    let e = sym c.in-Some.is ∙ c.in_ok-body.ensures in
    live_still t (g.met.T.Tree.formed c.args.t.now) c.args.op.now.body c.in-Some.body e

pub perform-requires-clause-settled : goal.perform-requires-clause-settled
perform-requires-clause-settled g c =
    let t = g.T.Tree.nodes c.args.t.now in
    let e = sym c.in-Some.is ∙ c.in_ok-body.ensures in
    live_settled t (g.met.T.Tree.formed c.args.t.now) c.args.op.now.body c.in-Some.body e

pub returns-in-Some-clause-ok : goal.returns-in-Some-clause-ok
returns-in-Some-clause-ok g c =
    let t = g.T.Tree.nodes c.args.t.now in
    let e = sym c.in-Some.is ∙ c.in_ok-body.ensures in
    on_ok c.perform.result (λ h. h
    ∙ live_effect t (g.met.T.Tree.formed c.args.t.now) c.args.op.now.body c.in-Some.body e) c.perform.ensures.ok

pub returns-in-Some-clause-edits : goal.returns-in-Some-clause-edits
returns-in-Some-clause-edits g c =
    let t = g.T.Tree.nodes c.args.t.now in
    let e = sym c.in-Some.is ∙ c.in_ok-body.ensures in
    if_ok c.perform.result (λ w h. live_edits t (g.met.T.Tree.formed c.args.t.now) c.args.op.now.body c.in-Some.body
    (g.T.Tree.nodes c.perform.new.t) w e h) c.perform.ensures.edits

pub returns-in-None-clause-ok : goal.returns-in-None-clause-ok
returns-in-None-clause-ok g c = void_left (g.T.Tree.nodes c.args.t.now)
    (g.met.T.Tree.formed c.args.t.now) c.args.op.now.body (sym c.in-None.is ∙ c.in_ok-body.ensures)

pub returns-in-None-clause-edits : goal.returns-in-None-clause-edits
returns-in-None-clause-edits g c =
    let t = g.T.Tree.nodes c.args.t.now in
    subst (AreEdits t c.args.op.now.body t) (sym c.no_edits.ensures)
    (void_edits t (g.met.T.Tree.formed c.args.t.now) c.args.op.now.body (sym c.in-None.is ∙ c.in_ok-body.ensures))

pub returns-in-Some-clause-can : goal.returns-in-Some-clause-can
returns-in-Some-clause-can g c =
    if_both c.perform.result (λ e a le. edits_go (g.T.Tree.nodes c.args.t.now) c.in-Some.body
    (g.T.Tree.nodes c.perform.new.t) (g.T.Tree.spare c.perform.new.t) e a le) c.perform.ensures.edits
    c.perform.ensures.spare
