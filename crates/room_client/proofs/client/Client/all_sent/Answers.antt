use Rattle.std.proofs.Common.{◌∙◌, ap}
use Rattle.room_model.specs.Account.{Account, is_on}
use Rattle.room_model.specs.Calls.{flushed}
use Rattle.room_client.specs.Client.{client_of, parts_of, stage_of}
use Rattle.room_client.proofs.Lasting.{flushed_is}
use Rattle.room_client.proofs.client.Client.all_sent.Goals as goal

pub returns : goal.returns
returns g c =
    let s = c.self.inside in
    (λ i. client_of (c.spoke.ensures i) (stage_of s.stage) (c.sent_then-self-inside.ensures i) (parts_of s.parts)
    (c.new.ensures i))
    ∙ flushed_is s.editor (stage_of s.stage) s.sent_to (parts_of s.parts) s.events c.rests.ensures.runs
    (ap (λ (x : Account). is_on x.stage) c.self.view_is ∙ c.requires)
    ∙ ap flushed c.self.view_is
