use Rattle.std.proofs.Common.{sym}
use Rattle.room_world.specs.Seen.{Peopled}
use Rattle.room_world.proofs.Sends.{present_sent}
use Rattle.room_world.proofs.world.World.send_present.Goals as goal

pub returns-in-Some-clause-sends : goal.returns-in-Some-clause-sends
returns-in-Some-clause-sends g c frames t r =
    let i = c.self.inside in
    let q : Peopled = record { hosting = i.host; clients = i.slots; conns = i.queues; opened = i.opened } in
    present_sent c.args.self.now q c.send_up.new.queues c.args.present c.in-Some.k c.is_attached-attached.result
    frames c.send_up.result (sym c.self.view_is) c.in-Some.is c.is_attached-attached.ensures
    (λ w is at. c.send_up.ensures w frames is at t r)
