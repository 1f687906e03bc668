use Rattle.std.proofs.lemmas.Result.{on_ok_weaker}
use Rattle.room_world.proofs.Sends.{sent_down}
use Rattle.room_world.proofs.sending.send_down.Goals as goal

pub returns : goal.returns
returns g c os o r =
    on_ok_weaker c.deliver.result (λ e. sent_down os _ _ _ _ c.in_ok-mails.ensures e o r) c.deliver.ensures
