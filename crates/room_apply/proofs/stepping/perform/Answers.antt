-- What is left to prove of `stepping::perform`.
use Rattle.std.proofs.Common.{sym, ◌∙◌, subst}
use Rattle.room_apply.specs.Edits.{IsUndo}
use Rattle.room_apply.proofs.UndoMore.{no_changes}
use Rattle.room_apply.proofs.stepping.perform.Goals as goal

pub undo_all-requires-clause-can : goal.undo_all-requires-clause-can
undo_all-requires-clause-can g c =
    let t = g.T.Tree.nodes c.args.t.now in
    let a = g.T.Tree.spare c.args.t.now in
    (c.in-Err.ensures.err t a (subst (IsUndo t a t a) (sym c.new-done.ensures.items) (no_changes t a))).can

pub undo_all-requires-clause-place : goal.undo_all-requires-clause-place
undo_all-requires-clause-place g c =
    let t = g.T.Tree.nodes c.args.t.now in
    let a = g.T.Tree.spare c.args.t.now in
    (c.in-Err.ensures.err t a (subst (IsUndo t a t a) (sym c.new-done.ensures.items) (no_changes t a))).place

pub returns-clause-err : goal.returns-clause-err
returns-clause-err g c =
    let t = g.T.Tree.nodes c.args.t.now in
    let a = g.T.Tree.spare c.args.t.now in
    let h = c.in-Err.ensures.err t a (subst (IsUndo t a t a) (sym c.new-done.ensures.items) (no_changes t a)) in
    (c.undo_all.ensures.nodes ∙ h.back, c.undo_all.ensures.spare ∙ h.places)
