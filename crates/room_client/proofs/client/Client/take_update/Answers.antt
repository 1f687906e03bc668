use Rattle.std.proofs.Common.{ap, sym, arith}
use Rattle.room_client.specs.declared.outcome.Outcome.{Outcome}
use Rattle.std.proofs.lemmas.Result.{err_from_is_err_and}
use Rattle.room_client.specs.Client.{parts_of, stage_of}
use Rattle.room_client.proofs.Arriving.{none_kept, stands_updated, unupdated, updated}
use Rattle.room_client.proofs.client.Client.take_update.Goals as goal

pub returns-in_err-outcome-clause-fault : goal.returns-in_err-outcome-clause-fault
returns-in_err-outcome-clause-fault g c =
    let s = c.self.inside in
    let p = err_from_is_err_and c.from_residual.result c.from_residual.ensures.1 in
    unupdated s.editor (stage_of s.stage) s.sent_to (parts_of s.parts) s.events _ c.self.view_is
    c.rests.ensures.rests _ p.0 _ _ _ (sym c.if-not-is_synced.ensures)
    (none_kept s.parts (omega (arith, c.len.ensures, c.if-len-gt0.false))) c.in_err-outcome.ensures.fault p.1 p.2

pub invariant_of-self-2 : goal.invariant_of-self-2
invariant_of-self-2 g c =
    let s = c.self.inside in
    stands_updated s.editor (stage_of s.stage) s.sent_to (parts_of s.parts) s.events _ c.self.view_is
    c.rests.ensures.rests c.rests.ensures.runs c.self.invariant (sym c.if-not-is_synced.ensures)
    _ _ _ _ c.in_ok-outcome.ensures.ok

pub returns-clause-ok : goal.returns-clause-ok
returns-clause-ok g c =
    let s = c.self.inside in
    updated s.editor (stage_of s.stage) s.sent_to (parts_of s.parts) s.events _ c.self.view_is c.rests.ensures.rests
    c.rests.ensures.runs c.self.invariant (sym c.if-not-is_synced.ensures)
    _ _ _ (record {
      replies = c.nothing-outcome.result.replies;
      events = c.nothing-outcome.result.events;
      notices =
          c.in_ok-outcome.field-0;
    })
    (none_kept s.parts (omega (arith, c.len.ensures, c.if-len-gt0.false))) c.in_ok-outcome.ensures.ok
    (ap (λ (o : Outcome). o.replies) c.nothing-outcome.ensures) (ap (λ (o : Outcome). o.events)
    c.nothing-outcome.ensures)
