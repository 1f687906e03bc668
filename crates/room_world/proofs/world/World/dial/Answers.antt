use Rattle.std.proofs.Common.{subst, sym}
use Rattle.room_model.specs.Lines as lines
use Rattle.room_world.specs.Did.{Does}
use Rattle.room_world.specs.Seen.{Peopled}
use Rattle.room_world.proofs.Dials.{dialled_by, with_clients, with_queues}
use Rattle.room_world.proofs.world.World.dial.Goals as goal

pub returns-clause-does : goal.returns-clause-does
returns-clause-does g c read =
    let i = c.self.inside in
    let q : Peopled = record { hosting = i.host; clients = i.slots; conns = i.queues; opened = i.opened } in
    subst
    (Does c.args.self.now (with_queues (with_clients q c.dial.new.self) c.send_up.new.queues) c.args.number
    (lines.OfClient c.args.c lines.Dial)) (sym c.new.ensures)
    (dialled_by c.args.self.now c.cut_on.new.self c.open.new.self q c.args.number c.args.c c.in_ok-k.k
    c.present-present.result c.dial.new.self c.in_ok-hello.hello c.in_ok-only.field-0 c.is_attached-attached.result
    c.send_up.new.queues c.present-present.ensures c.cut_on.ensures.cuts c.cut_on.ensures.clients
    c.cut_on.ensures.opened c.in_ok-k.ensures.opens c.in_ok-k.ensures.clients c.in_ok-k.ensures.number
    (sym c.self.view_is) c.in_ok-hello.ensures.text c.in_ok-hello.ensures.ok c.is_attached-attached.ensures
    c.in_ok-only.ensures c.in_ok-send_up.ensures read)
