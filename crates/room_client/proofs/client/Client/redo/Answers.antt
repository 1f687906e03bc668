use Rattle.room_model.specs.Calls.{Redo}
use Rattle.room_client.specs.Client.{parts_of, stage_of}
use Rattle.room_client.proofs.Seen.{stayed, went}
use Rattle.room_client.proofs.client.Client.redo.Goals as goal

pub invariant_of-self : goal.invariant_of-self
invariant_of-self g c =
    let s = c.self.inside in
    (went s.editor (stage_of s.stage) s.sent_to (parts_of s.parts) s.events _ c.self.view_is c.rests.ensures.rests _
    Redo c.redo-result.result c.rests-2.ensures.runs c.self.invariant c.redo-result.ensures.ok
    c.redo-result.ensures.err).1

pub returns-clause-ok : goal.returns-clause-ok
returns-clause-ok g c =
    let s = c.self.inside in
    (went s.editor (stage_of s.stage) s.sent_to (parts_of s.parts) s.events _ c.self.view_is c.rests.ensures.rests _
    Redo c.redo-result.result c.rests-2.ensures.runs c.self.invariant c.redo-result.ensures.ok
    c.redo-result.ensures.err).0

pub returns-clause-fault : goal.returns-clause-fault
returns-clause-fault g c =
    let s = c.self.inside in
    stayed s.editor (stage_of s.stage) s.sent_to (parts_of s.parts) s.events _ c.self.view_is c.rests.ensures.rests
    Redo c.redo-result.result c.redo-result.ensures.fault
