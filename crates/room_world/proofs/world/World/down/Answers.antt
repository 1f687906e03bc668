use Rattle.std.proofs.Common.{subst, sym}
use Rattle.room_world.specs.Seen.{Peopled}
use Rattle.room_world.proofs.Dials.{with_queues}
use Rattle.room_world.proofs.Receiving.{Received, link_heard, nothing_came}
use Rattle.room_world.proofs.world.World.down.Goals as goal

pub returns-in_default-clause-does : goal.returns-in_default-clause-does
returns-in_default-clause-does g c told stops fs fuse read =
    let i = c.self.inside in
    let q : Peopled = record { hosting = i.host; clients = i.slots; conns = i.queues; opened = i.opened } in
    subst (Received c.args.self.now c.args.number c.args.k (with_queues q c.take.new.self) fs fuse) (sym c.new.ensures)
    (nothing_came c.args.self.now q c.args.number c.args.k c.take.result c.take.new.self fs fuse (sym c.self.view_is)
    c.in_default.is c.take.ensures.first c.take.ensures.rest)

pub returns-in_default-owner-clause-does : goal.returns-in_default-owner-clause-does
returns-in_default-owner-clause-does g c told stops fs fuse read =
    let i = c.self.inside in
    let q : Peopled = record { hosting = i.host; clients = i.slots; conns = i.queues; opened = i.opened } in
    link_heard c.args.self.now q c.args.number c.args.k c.take.result c.in-Some.mail c.owner-owner.result
    c.in_ok-link_line.field-0 c.take.new.self c.only.result fs fuse (sym c.self.view_is) c.in-Some.is
    c.take.ensures.first c.take.ensures.rest c.owner-owner.ensures c.in_default-owner.is
    (c.in_ok-link_line.ensures (c.in-Some.ensures.mail told stops)) c.only.ensures
