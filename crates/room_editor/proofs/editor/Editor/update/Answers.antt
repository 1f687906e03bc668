use Rattle.room_editor.proofs.Updated.{update_ok}
use Rattle.room_editor.proofs.editor.Editor.update.Goals as goal

pub returns-clause-ok : goal.returns-clause-ok
returns-clause-ok g c =
    let e = c.self.inside in
    update_ok e.room e.session e.node e.me e.others.others e.unsent.items e.past e.gathering c.args.self.now e.over
    c.in-Some.over c.update_over.new.over c.args.seq c.args.ops.now c.update_over.result c.self.view_is c.in-Some.is
    c.self.invariant.1 c.update_over.ensures.ok c.update_over.ensures.notices
