use Rattle.std.proofs.Common.{sym}
use Rattle.room_queues.specs.Seen.{outbound_in}
use Rattle.room_world.specs.Seen.{Peopled}
use Rattle.room_world.proofs.Receiving.{heard_by}
use Rattle.room_world.proofs.world.World.take.Goals as goal

pub returns-in_ok-send_up-in-Heard-clause-does : goal.returns-in_ok-send_up-in-Heard-clause-does
returns-in_ok-send_up-in-Heard-clause-does g c mail fs fuse read =
    let i = c.self.inside in
    let q : Peopled = record { hosting = i.host; clients = i.slots; conns = i.queues; opened = i.opened } in
    heard_by c.args.self.now q c.take.new.self c.args.number c.args.c c.args.k (outbound_in c.args.mail.now)
    c.in_ok-lines.field-0 c.in-Heard.lines c.in-Heard.replies c.send_up.new.queues c.is_attached-attached.result fs fuse
    (sym c.self.view_is) (c.in_ok-lines.ensures mail) c.in-Heard.is c.is_attached-attached.ensures
    c.in_ok-send_up-in-Heard.ensures read
