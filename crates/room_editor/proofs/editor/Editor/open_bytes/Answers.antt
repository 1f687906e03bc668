use Rattle.std.proofs.Common.{◌∙◌}
use Rattle.room_editor.proofs.Placed.{kept_bytes}
use Rattle.room_editor.proofs.editor.Editor.open_bytes.Goals as goal

pub returns : goal.returns
returns g c =
    let e = c.self.inside in
    c.bytes.ensures
    ∙ kept_bytes e.room e.session e.node e.me e.others.others e.unsent.items e.past e.gathering c.args.self.now e.over
    c.self.view_is c.self.invariant.1
