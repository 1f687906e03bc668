use Rattle.std.proofs.Common.{◌∙◌, ap}
use Rattle.room_model.specs.Account.{unacknowledged}
use Rattle.room_client.specs.Client.{parts_of, stage_of}
use Rattle.room_client.proofs.Lasting.{unacknowledged_is}
use Rattle.room_client.proofs.client.Client.unacknowledged.Goals as goal

pub returns : goal.returns
returns g c =
    let s = c.self.inside in
    c.unacknowledged.ensures ∙ unacknowledged_is s.editor (stage_of s.stage) s.sent_to
    (parts_of s.parts) s.events ∙ ap unacknowledged c.self.view_is
