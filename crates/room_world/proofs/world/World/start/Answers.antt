use Rattle.std.proofs.Common.{[], sym}
use Rattle.room_host.specs.Seen.{room_files}
use Rattle.room_world.specs.Seen.{Peopled}
use Rattle.room_world.proofs.Moments.{starting_line}
use Rattle.room_world.proofs.Serves.{does_start}
use Rattle.room_world.proofs.world.World.start.Goals as goal

pub returns-in_err-started-clause-images : goal.returns-in_err-started-clause-images
returns-in_err-started-clause-images g c told can =
    let d = g.D.Disk in
    let i = c.self.inside in
    let q : Peopled = record { hosting = i.host; clients = i.slots; conns = i.queues; opened = i.opened } in
    starting_line d.seen d.moment d.images c.args.self.now q [] c.args.disk.now c.start.new.disk (sym c.self.view_is)
    (λ f. g.met.D.Disk.seen_is_image c.args.disk.now f told) (c.requires.kept told) c.start.ensures.idle
    (c.start.ensures.images told)

pub returns-in_err-lines_of_start-clause-images : goal.returns-in_err-lines_of_start-clause-images
returns-in_err-lines_of_start-clause-images g c told can =
    let d = g.D.Disk in
    let i = c.self.inside in
    let q : Peopled = record { hosting = i.host; clients = i.slots; conns = i.queues; opened = i.opened } in
    starting_line d.seen d.moment d.images c.args.self.now q [] c.args.disk.now c.start.new.disk (sym c.self.view_is)
    (λ f. g.met.D.Disk.seen_is_image c.args.disk.now f told) (c.requires.kept told) c.start.ensures.idle
    (c.start.ensures.images told)

pub returns-clause-does : goal.returns-clause-does
returns-clause-does g c told can =
    let d = g.D.Disk in
    let i = c.self.inside in
    let q : Peopled = record { hosting = i.host; clients = i.slots; conns = i.queues; opened = i.opened } in
    let new = c.start.new.disk in
    does_start d.seen g.D.Stopping.armed g.D.Stopping.way c.args.self.now q c.args.disk.now new c.start.new.self
    c.empty_after.new.queues c.args.number c.in_ok-lines_of_start.field-0 c.in_ok-started.started (sym c.self.view_is)
    c.start.ensures.limits c.empty_after.ensures (c.in_ok-lines_of_start.ensures (room_files (d.seen new)))
    (c.in_ok-started.ensures.starts told can (c.requires.rests told can))

pub returns-clause-images : goal.returns-clause-images
returns-clause-images g c told can =
    let d = g.D.Disk in
    let i = c.self.inside in
    let q : Peopled = record { hosting = i.host; clients = i.slots; conns = i.queues; opened = i.opened } in
    starting_line d.seen d.moment d.images c.args.self.now q [] c.args.disk.now c.start.new.disk (sym c.self.view_is)
    (λ f. g.met.D.Disk.seen_is_image c.args.disk.now f told) (c.requires.kept told) c.start.ensures.idle
    (c.start.ensures.images told)
