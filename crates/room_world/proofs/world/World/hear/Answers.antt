use Rattle.std.proofs.Common.{sym}
use Rattle.room_msg.specs.Frame.{client_frame_in}
use Rattle.room_host.specs.Seen.{host_in, room_files, fuse_of}
use Rattle.room_world.specs.Seen.{Peopled}
use Rattle.room_world.proofs.Frames.{are_sent}
use Rattle.room_world.proofs.world.World.hear.Goals as goal

pub send_down-requires : goal.send_down-requires
send_down-requires g c told can =
    let d = g.D.Disk in
    let i = c.self.inside in
    let q : Peopled = record { hosting = i.host; clients = i.slots; conns = i.queues; opened = i.opened } in
    let fuse = fuse_of g.D.Stopping.armed g.D.Stopping.way in
    are_sent c.args.self.now q c.args.k (client_frame_in c.args.text.now) (fuse c.args.disk.now) (fuse c.hear.new.disk)
    (host_in c.hear.new.self.server (room_files (d.seen c.hear.new.disk))) c.in_ok-outs.field-0 c.in-Sends.outs
    (sym c.self.view_is) c.requires.runs c.in-Sends.is
    (c.in_ok-outs.ensures.heard told can (c.requires.rests told can)) (c.requires.read told can)
