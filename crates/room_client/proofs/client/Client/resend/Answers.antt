use Rattle.std.proofs.Common.{◌≡◌, ◌∙◌, ◌++◌, true, ap, sym, map}
use Rattle.room_msg.specs.Written.{client_text}
use Rattle.room_model.specs.Account.{actor, frame_of, is_synced, issued}
use Rattle.room_model.specs.Calls.{resend_frames, resent}
use Rattle.room_client.specs.Client.{client_of, parts_of, stage_of}
use Rattle.room_client.proofs.Lasting.{resend_texts, resent_is}
use Rattle.room_client.proofs.client.Client.resend.Goals as goal

on : (g : _) (c : goal.After-self-1 g) → is_synced (stage_of c.self.inside.stage) ≡ true
on g c = sym c.if-not-is_synced.ensures

pub returns-clause-frames : goal.returns-clause-frames
returns-clause-frames g c =
    let s = c.self.inside in
    c.in_ok-put_batches.ensures
    ∙ ap (λ fs. fs ++ map client_text (map (frame_of (actor s.editor)) (issued s.editor))) c.new-frames.ensures
    ∙ resend_texts s.editor (stage_of s.stage) s.sent_to (parts_of s.parts) s.events (on g c)
    ∙ ap (λ x. map client_text (resend_frames x)) c.self.view_is

pub returns-clause-ok : goal.returns-clause-ok
returns-clause-ok g c =
    let s = c.self.inside in
    ap (λ n. client_of s.editor (stage_of s.stage) n (parts_of s.parts) s.events) c.last_issued-self-inside.ensures
    ∙ resent_is s.editor (stage_of s.stage) s.sent_to (parts_of s.parts) s.events c.rests.ensures.runs (on g c)
    ∙ ap resent c.self.view_is
