use Rattle.std.proofs.Common.{◌∙◌, ap}
use Rattle.room_client.specs.declared.outcome.Outcome.{Outcome}
use Rattle.room_model.specs.Account.{is_on}
use Rattle.std.proofs.lemmas.Result.{err_from_is_err_and}
use Rattle.room_client.specs.Client.{parts_of, stage_of}
use Rattle.room_client.proofs.Arriving.{loaded, only_replies, stands_loaded, unloaded}
use Rattle.room_client.proofs.client.Client.load.Goals as goal

pub returns-in_err-outcome-clause-fault : goal.returns-in_err-outcome-clause-fault
returns-in_err-outcome-clause-fault g c =
    let s = c.self.inside in
    let p = err_from_is_err_and c.from_residual-in_err-outcome.result c.from_residual-in_err-outcome.ensures.1 in
    unloaded s.editor (stage_of s.stage) s.sent_to (parts_of s.parts) s.events _ c.self.view_is
    c.rests.ensures.rests _ p.0 _ _ _ _ c.in_err-outcome.ensures.fault p.1 p.2

pub returns-clause-ok : goal.returns-clause-ok
returns-clause-ok g c =
    let s = c.self.inside in
    loaded s.editor (stage_of s.stage) s.sent_to (parts_of s.parts) s.events _ c.self.view_is c.rests.ensures.rests
    _ _ _ _
    (record {
      replies = c.put_left.new.frames;
      events = c.nothing-outcome.result.events;
      notices =
          c.in_ok-outcome.field-0;
    })
    _ _ c.last_issued-self-inside.ensures (ap parts_of c.new.ensures) c.rests-2.ensures.runs c.in_ok-outcome.ensures.ok
    (only_replies c.in_ok-put_left.ensures (ap (λ (o : Outcome). o.replies) c.nothing-outcome.ensures))
    (ap (λ (o : Outcome). o.events) c.nothing-outcome.ensures)

pub invariant_of-self-2 : goal.invariant_of-self-2
invariant_of-self-2 g c =
    let s = c.self.inside in
    stands_loaded s.editor (stage_of s.stage) s.sent_to (parts_of s.parts) s.events _ c.self.view_is
    c.rests.ensures.rests _ _ _ _ _ _
    c.last_issued-self-inside.ensures (ap (λ x. is_on x.stage) c.self.view_is ∙ c.requires.on) c.self.invariant
    c.rests-2.ensures.runs
    c.in_ok-outcome.ensures.ok
