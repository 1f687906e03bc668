use Rattle.room_store.proofs.Undone.{step_gone, step_can}
use Rattle.room_store.proofs.taking.step_one.Goals as goal

pub returns-clause-gone : goal.returns-clause-gone
returns-clause-gone g c =
    let t = g.T.Tree in
    step_gone (t.nodes c.args.t.now) c.in_ok-next.next.body (t.nodes c.step.new.t) c.args.steps.now.items c.keep.new.steps.items
    c.in_ok-step.field-0 c.keep.ensures.items c.in_ok-step.ensures.edits

pub returns-clause-can : goal.returns-clause-can
returns-clause-can g c can =
    let t = g.T.Tree in
    step_can (t.nodes c.args.t.now) (t.spare c.args.t.now) c.in_ok-next.next.body (t.nodes c.step.new.t) (t.spare c.step.new.t)
    c.args.steps.now.items c.keep.new.steps.items c.in_ok-step.field-0 c.keep.ensures.items c.in_ok-step.ensures.edits
    c.in_ok-step.ensures.spare c.step.ensures.sum can
