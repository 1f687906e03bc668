use Rattle.std.proofs.Common.{◌∙◌, ap, sym}
use Rattle.room_msg.specs.Written.{client_text}
use Rattle.room_model.specs.Account.{frame_of_full}
use Rattle.room_client.specs.declared.outcome.Outcome.{Outcome}
use Rattle.room_client.specs.Client.{parts_of, stage_of}
use Rattle.room_client.proofs.Arriving.{told, two_replies}
use Rattle.room_client.proofs.client.Client.take_session.Goals as goal

pub returns-clause-ok : goal.returns-clause-ok
returns-clause-ok g c =
    let s = c.self.inside in
    told s.editor (stage_of s.stage) s.sent_to (parts_of s.parts) s.events _ c.self.view_is _ _ _ _
    (sym c.if-not-is_dialled.ensures) c.rests.ensures.runs c.in_ok-welcome.ensures.good c.in_ok-welcome.ensures.ok
    (two_replies (ap (λ (o : Outcome). o.replies) c.nothing-outcome.ensures) c.in_ok-push.ensures.ok
    c.in_ok-push-2.ensures.ok
    (c.in_ok-of_full.ensures ∙ ap (λ m. client_text (frame_of_full m)) c.me.ensures) c.in_ok-of_fetch.ensures)
    (ap (λ (o : Outcome). o.events) c.nothing-outcome.ensures) (ap (λ (o : Outcome). o.notices)
    c.nothing-outcome.ensures)
