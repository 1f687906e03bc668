use Rattle.std.proofs.Common.{ap}
use Rattle.room_model.specs.Lines as model
use Rattle.room_host.specs.Seen.{room_files}
use Rattle.room_moves.specs.Fuses.{fuse_on}
use Rattle.room_script.specs.Told.{line_of}
use Rattle.room_world.specs.Seen.{world_on}
use Rattle.room_world.specs.Trying.{tries}
use Rattle.room_world.proofs.Moments.{staying_line}
use Rattle.room_world.proofs.Staying.{keeps_on}
use Rattle.room_world.proofs.world.World.step.Goals as goal

pub up-requires-clause-read : goal.up-requires-clause-read
up-requires-clause-read g c told can =
    c.requires.read told can (model.OfConnection c.in-Up.k model.Up) (ap line_of c.in-Up.is)

pub drain-requires-clause-read : goal.drain-requires-clause-read
drain-requires-clause-read g c told can =
    c.requires.read told can (model.Drain c.in-Drain.n) (ap line_of c.in-Drain.is)

pub returns-in_err-apart-in_default-clause-images : goal.returns-in_err-apart-in_default-clause-images
returns-in_err-apart-in_default-clause-images g c told can l is =
    let d = g.D.Disk in
    let s = g.D.Stopping in
    let w = world_on d.seen s.armed s.way c.args.self.now c.args.disk.now in
    staying_line d.seen d.moment d.images c.args.self.now (tries w c.args.number l) c.args.disk.now
    (λ f. g.met.D.Disk.seen_is_image c.args.disk.now f told) (c.requires.kept told)

pub returns-in_ok-apart-in_default-clause-images : goal.returns-in_ok-apart-in_default-clause-images
returns-in_ok-apart-in_default-clause-images g c told can l is =
    let d = g.D.Disk in
    let s = g.D.Stopping in
    let w = world_on d.seen s.armed s.way c.args.self.now c.args.disk.now in
    staying_line d.seen d.moment d.images c.args.self.now (tries w c.args.number l) c.args.disk.now
    (λ f. g.met.D.Disk.seen_is_image c.args.disk.now f told) (c.requires.kept told)

pub returns-in_ok-apart-in_default-clause-does : goal.returns-in_ok-apart-in_default-clause-does
returns-in_ok-apart-in_default-clause-does g c told can l is =
    let d = g.D.Disk in
    let s = g.D.Stopping in
    let at = c.args.disk.now in
    c.in_ok-apart-in_default.ensures.does told can l is (room_files (d.seen at)) (fuse_on (s.armed at) (s.way at))

pub returns-in_ok-apart-in_default-clause-kept : goal.returns-in_ok-apart-in_default-clause-kept
returns-in_ok-apart-in_default-clause-kept g c told =
    let d = g.D.Disk in
    let at = c.args.disk.now in
    keeps_on (d.seen at) (d.images at (d.moment at)) c.args.self.now.hosting.server c.apart.new.self.hosting.server
    c.apart.ensures.files (c.requires.kept told)
