use Rattle.std.proofs.Common.{◌∙◌}
use Rattle.std.proofs.lemmas.Result.{on_ok_weaker}
use Rattle.room_world.proofs.Sends.{sent_up}
use Rattle.room_world.proofs.sending.send_up.Goals as goal

pub returns-then-attached : goal.returns-then-attached
returns-then-attached g c w frames is at t r =
    on_ok_weaker c.send.result (λ e. sent_up w _ frames _ _ _ is (at ∙ c.if-attached.true) t r e) c.send.ensures
