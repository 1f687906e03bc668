use Rattle.std.proofs.Common.{◌∙◌, ap}
use Rattle.room_model.specs.Account.{Account}
use Rattle.room_model.specs.Calls.{lost}
use Rattle.room_client.specs.Client.{client_of, parts_of, stage_of}
use Rattle.room_client.proofs.Lasting.{lost_is}
use Rattle.room_client.proofs.client.Client.hang_up.Goals as goal

pub returns : goal.returns
returns g c =
    let s = c.self.inside in
    (λ i. client_of (c.forget_all.ensures i) (stage_of c.args.stage) 0 (parts_of (c.new.ensures i)) (c.new-2.ensures i))
    ∙ lost_is s.editor (stage_of s.stage) s.sent_to (parts_of s.parts) s.events (stage_of c.args.stage)
    c.rests.ensures.runs
    ∙ ap (λ (x : Account). record (lost x) { stage = stage_of c.args.stage }) c.self.view_is
