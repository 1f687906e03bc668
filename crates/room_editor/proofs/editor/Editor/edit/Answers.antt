use Rattle.std.proofs.Common.{rules, ◌∙◌, ap}
use Rattle.room_log.specs.Log.{bodies_of}
use Rattle.room_model.specs.Account.{shown}
use Rattle.room_model.specs.Calls.{edit, tree_or_bare}
use Rattle.room_model.specs.Notices.{notices_of_all}
use Rattle.room_props.specs.Edits.{IsFaultOf, edit_of, made_of}
use Rattle.room_notice.specs.Notices.{notices_in}
use Rattle.room_editor.proofs.Edited.{edit_done, size_refused}
use Rattle.room_editor.proofs.editor.Editor.edit.Goals as goal

pub returns-in_err-bytes-clause-fault : goal.returns-in_err-bytes-clause-fault
returns-in_err-bytes-clause-fault g c =
    let fault : IsFaultOf (edit c.args.self.now (edit_of c.args.e.now)) c.in_err-bytes.field-0.0 =
    size_refused c.args.self.now (edit_of c.args.e.now) (made_of c.in_ok-made.made) _ c.in_ok-made.ensures.ok
    c.in_err-bytes.ensures.err in
    search (fault, rules)

pub returns-clause-ok : goal.returns-clause-ok
returns-clause-ok g c =
    edit_done c.args.self.now c.put.new.self (edit_of c.args.e.now) (made_of c.in_ok-made.made) c.in_ok-back.back
    (notices_in c.in_ok-notices.notices) c.in_ok-made.ensures.ok c.in_ok-bytes.ensures.small c.in_ok-back.ensures
    c.in_ok-put.ensures.ok
    (c.in_ok-notices.ensures
    ∙ ap (λ os. notices_of_all (tree_or_bare (shown c.args.self.now)) (bodies_of os)) c.as_slice.ensures)
