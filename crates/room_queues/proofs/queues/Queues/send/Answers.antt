use Rattle.std.proofs.Common.{rules}
use Rattle.std.proofs.lemmas.Result.{on_ok_weaker}
use Rattle.room_queues.proofs.Maps.{views}
use Rattle.room_queues.proofs.queues.Queues.send.Goals as goal

pub returns : goal.returns
returns g c = on_ok_weaker c.send.result (λ e. search (rules, views, e)) c.send.ensures
