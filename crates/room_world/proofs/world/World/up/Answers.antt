use Rattle.std.proofs.Common.{sym}
use Rattle.room_model.specs.Lines as lines
use Rattle.room_msg.specs.Frame.{client_frame_in}
use Rattle.room_world.specs.Seen.{Peopled, world_on}
use Rattle.room_world.specs.Trying.{tries}
use Rattle.room_world.proofs.Frames.{up_stopped, up_nothing, up_reads, up_hears, up_tries}
use Rattle.room_world.proofs.Moments.{staying_line}
use Rattle.room_world.proofs.Serves.{no_lines}
use Rattle.room_world.proofs.world.World.up.Goals as goal

pub returns-then-not-is_running-clause-does : goal.returns-then-not-is_running-clause-does
returns-then-not-is_running-clause-does g c told can =
    let d = g.D.Disk in
    let i = c.self.inside in
    let q : Peopled = record { hosting = i.host; clients = i.slots; conns = i.queues; opened = i.opened } in
    no_lines c.new.result c.new.ensures
    (up_stopped d.seen g.D.Stopping.armed g.D.Stopping.way c.args.self.now q c.args.disk.now c.args.number c.args.k
    (sym c.self.view_is) c.if-not-is_running.ensures)

pub returns-then-not-is_running-clause-images : goal.returns-then-not-is_running-clause-images
returns-then-not-is_running-clause-images g c told can =
    let d = g.D.Disk in
    staying_line d.seen d.moment d.images c.args.self.now
    (tries (world_on d.seen g.D.Stopping.armed g.D.Stopping.way c.args.self.now c.args.disk.now) c.args.number
    (lines.OfConnection c.args.k lines.Up)) c.args.disk.now (λ f. g.met.D.Disk.seen_is_image c.args.disk.now f told)
    (c.requires.kept told)

pub returns-in_default-clause-does : goal.returns-in_default-clause-does
returns-in_default-clause-does g c told can =
    let d = g.D.Disk in
    let i = c.self.inside in
    let q : Peopled = record { hosting = i.host; clients = i.slots; conns = i.queues; opened = i.opened } in
    no_lines c.new-in_default.result c.new-in_default.ensures
    (up_nothing d.seen g.D.Stopping.armed g.D.Stopping.way c.args.self.now q c.args.disk.now c.receive.new.self
    c.args.number c.args.k (sym c.self.view_is) c.in_default.ensures.first c.receive.ensures.rest)

pub returns-in_default-clause-images : goal.returns-in_default-clause-images
returns-in_default-clause-images g c told can =
    let d = g.D.Disk in
    staying_line d.seen d.moment d.images c.args.self.now
    (tries (world_on d.seen g.D.Stopping.armed g.D.Stopping.way c.args.self.now c.args.disk.now) c.args.number
    (lines.OfConnection c.args.k lines.Up)) c.args.disk.now (λ f. g.met.D.Disk.seen_is_image c.args.disk.now f told)
    (c.requires.kept told)

pub hear-requires-clause-read : goal.hear-requires-clause-read
hear-requires-clause-read g c told can h runs =
    let d = g.D.Disk in
    let i = c.self.inside in
    let q : Peopled = record { hosting = i.host; clients = i.slots; conns = i.queues; opened = i.opened } in
    up_reads d.seen g.D.Stopping.armed g.D.Stopping.way c.args.self.now q c.args.disk.now c.args.k h
    (client_frame_in c.in-Some.text) (sym c.self.view_is) runs c.in-Some.ensures.first (c.requires.read told can)

pub returns-in_err-hear-clause-images : goal.returns-in_err-hear-clause-images
returns-in_err-hear-clause-images g c told can =
    let d = g.D.Disk in
    let i = c.self.inside in
    let q : Peopled = record { hosting = i.host; clients = i.slots; conns = i.queues; opened = i.opened } in
    up_tries d.seen g.D.Stopping.armed g.D.Stopping.way d.moment d.images c.args.self.now q c.args.disk.now
    c.hear.new.disk c.args.number c.args.k (client_frame_in c.in-Some.text) (sym c.self.view_is)
    c.if-not-is_running.ensures c.in-Some.ensures.first (c.hear.ensures.images told)

pub returns-clause-does : goal.returns-clause-does
returns-clause-does g c told can =
    let d = g.D.Disk in
    let i = c.self.inside in
    let q : Peopled = record { hosting = i.host; clients = i.slots; conns = i.queues; opened = i.opened } in
    no_lines c.new-2.result c.new-2.ensures
    (up_hears d.seen g.D.Stopping.armed g.D.Stopping.way c.args.self.now q c.hear.new.self c.args.disk.now
    c.hear.new.disk c.receive.new.self c.args.number c.args.k (client_frame_in c.in-Some.text) (sym c.self.view_is)
    c.if-not-is_running.ensures c.in-Some.ensures.first c.receive.ensures.rest (c.in_ok-hear.ensures.hears told can))

pub returns-clause-images : goal.returns-clause-images
returns-clause-images g c told can =
    let d = g.D.Disk in
    let i = c.self.inside in
    let q : Peopled = record { hosting = i.host; clients = i.slots; conns = i.queues; opened = i.opened } in
    up_tries d.seen g.D.Stopping.armed g.D.Stopping.way d.moment d.images c.args.self.now q c.args.disk.now
    c.hear.new.disk c.args.number c.args.k (client_frame_in c.in-Some.text) (sym c.self.view_is)
    c.if-not-is_running.ensures c.in-Some.ensures.first (c.hear.ensures.images told)
