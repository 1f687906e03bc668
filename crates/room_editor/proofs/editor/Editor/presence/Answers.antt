use Rattle.std.proofs.Common.{rules}
use Rattle.room_model.specs.Calls.{presence}
use Rattle.room_editor.specs.Faults.{IsSayFault}
use Rattle.room_editor.proofs.editor.Editor.presence.Goals as goal

pub returns-in_err-me-clause-fault : goal.returns-in_err-me-clause-fault
returns-in_err-me-clause-fault g c =
    let fault : IsSayFault (presence c.args.self.now c.args.patch.now c.args.in_history) c.in_err-me.field-0.0 =
    c.in_err-me.ensures.err c.args.in_history in
    search (fault, rules)
