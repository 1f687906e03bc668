use Rattle.room_props.specs.Edits.{edit_of}
use Rattle.room_client.specs.Client.{parts_of, stage_of}
use Rattle.room_client.proofs.Seen.{edited, unedited}
use Rattle.room_client.proofs.client.Client.edit.Goals as goal

pub invariant_of-self : goal.invariant_of-self
invariant_of-self g c =
    let s = c.self.inside in
    (edited s.editor (stage_of s.stage) s.sent_to (parts_of s.parts) s.events _ c.self.view_is c.rests.ensures.rests
    _ (edit_of c.args.e.now) c.edit-result.result c.rests-2.ensures.runs c.self.invariant c.edit-result.ensures.ok
    c.edit-result.ensures.err).1

pub returns-clause-ok : goal.returns-clause-ok
returns-clause-ok g c =
    let s = c.self.inside in
    (edited s.editor (stage_of s.stage) s.sent_to (parts_of s.parts) s.events _ c.self.view_is c.rests.ensures.rests
    _ (edit_of c.args.e.now) c.edit-result.result c.rests-2.ensures.runs c.self.invariant c.edit-result.ensures.ok
    c.edit-result.ensures.err).0

pub returns-clause-fault : goal.returns-clause-fault
returns-clause-fault g c =
    let s = c.self.inside in
    unedited s.editor (stage_of s.stage) s.sent_to (parts_of s.parts) s.events _ c.self.view_is
    c.rests.ensures.rests (edit_of c.args.e.now) c.edit-result.result c.edit-result.ensures.fault
