use Rattle.std.proofs.Common.{[], sym}
use Rattle.room_world.specs.Seen.{Peopled}
use Rattle.room_world.proofs.Moments.{running_line}
use Rattle.room_world.proofs.Serves.{no_lines, does_compact}
use Rattle.room_world.proofs.world.World.compact.Goals as goal

pub returns-in_err-stopped-clause-images : goal.returns-in_err-stopped-clause-images
returns-in_err-stopped-clause-images g c told can =
    let d = g.D.Disk in
    let i = c.self.inside in
    let q : Peopled = record { hosting = i.host; clients = i.slots; conns = i.queues; opened = i.opened } in
    running_line d.seen d.moment d.images c.args.self.now q [] c.args.disk.now c.compact.new.disk (sym c.self.view_is)
    (λ f. g.met.D.Disk.seen_is_image c.args.disk.now f told) (c.requires.kept told) c.compact.ensures.idle
    (c.compact.ensures.images told)

pub returns-clause-does : goal.returns-clause-does
returns-clause-does g c told can =
    let d = g.D.Disk in
    let i = c.self.inside in
    let q : Peopled = record { hosting = i.host; clients = i.slots; conns = i.queues; opened = i.opened } in
    no_lines c.new.result c.new.ensures
    (does_compact d.seen g.D.Stopping.armed g.D.Stopping.way c.args.self.now q c.args.disk.now c.compact.new.disk
    c.compact.new.self c.empty_if.new.queues c.args.number c.in_ok-stopped.stopped (sym c.self.view_is)
    c.compact.ensures.limits c.empty_if.ensures (c.in_ok-stopped.ensures.compacts told can (c.requires.rests told can)))

pub returns-clause-images : goal.returns-clause-images
returns-clause-images g c told can =
    let d = g.D.Disk in
    let i = c.self.inside in
    let q : Peopled = record { hosting = i.host; clients = i.slots; conns = i.queues; opened = i.opened } in
    running_line d.seen d.moment d.images c.args.self.now q [] c.args.disk.now c.compact.new.disk (sym c.self.view_is)
    (λ f. g.met.D.Disk.seen_is_image c.args.disk.now f told) (c.requires.kept told) c.compact.ensures.idle
    (c.compact.ensures.images told)
