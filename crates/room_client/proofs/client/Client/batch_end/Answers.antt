use Rattle.room_client.specs.Client.{parts_of, stage_of}
use Rattle.room_client.proofs.Seen.{ended, unended}
use Rattle.room_client.proofs.client.Client.batch_end.Goals as goal

pub invariant_of-self : goal.invariant_of-self
invariant_of-self g c =
    let s = c.self.inside in
    (ended s.editor (stage_of s.stage) s.sent_to (parts_of s.parts) s.events _ c.self.view_is c.rests.ensures.rests
    _ c.batch_end-result.result c.rests-2.ensures.runs c.self.invariant c.batch_end-result.ensures.ok
    c.batch_end-result.ensures.err).1

pub returns-clause-ok : goal.returns-clause-ok
returns-clause-ok g c =
    let s = c.self.inside in
    (ended s.editor (stage_of s.stage) s.sent_to (parts_of s.parts) s.events _ c.self.view_is c.rests.ensures.rests
    _ c.batch_end-result.result c.rests-2.ensures.runs c.self.invariant c.batch_end-result.ensures.ok
    c.batch_end-result.ensures.err).0

pub returns-clause-fault : goal.returns-clause-fault
returns-clause-fault g c =
    let s = c.self.inside in
    unended s.editor (stage_of s.stage) s.sent_to (parts_of s.parts) s.events _ c.self.view_is c.rests.ensures.rests
    c.batch_end-result.result c.batch_end-result.ensures.fault
