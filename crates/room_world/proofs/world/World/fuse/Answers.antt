use Rattle.std.proofs.Common.{[]}
use Rattle.room_world.proofs.Moments.{stays_within}
use Rattle.room_world.proofs.Serves.{no_lines}
use Rattle.room_world.proofs.Staying.{arms_kept, does_fuse, same_seen}
use Rattle.room_world.proofs.world.World.fuse.Goals as goal

pub returns-clause-does : goal.returns-clause-does
returns-clause-does g c told can =
    let d = g.D.Disk in
    let e = c.arm.ensures in
    no_lines c.new.result c.new.ensures
    (does_fuse d.seen g.D.Stopping.armed g.D.Stopping.way c.args.self.now c.args.disk.now c.arm.new.self c.args.number
    c.args.calls c.args.how c.requires.calls e.armed e.way
    (same_seen d.seen d.moment d.images d.stopped d.leaves c.args.disk.now c.arm.new.self e.stays))

pub returns-clause-kept : goal.returns-clause-kept
returns-clause-kept g c told =
    let d = g.D.Disk in
    arms_kept d.seen d.moment d.images d.stopped d.leaves c.args.disk.now c.arm.new.self c.arm.ensures.stays
    c.args.self.now.hosting.server (c.requires.kept told)

pub returns-clause-images : goal.returns-clause-images
returns-clause-images g c told can =
    let d = g.D.Disk in
    stays_within d.seen d.moment d.images c.args.self.now.hosting.server [] c.args.disk.now c.arm.new.self
    (λ f. g.met.D.Disk.seen_is_image c.args.disk.now f told) (c.requires.kept told) c.arm.ensures.stays.files
