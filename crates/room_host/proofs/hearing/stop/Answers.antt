use Rattle.std.proofs.Common.{ap, ℕ}
use Rattle.room_replay.specs.Files.{StandsFor}
use Rattle.room_model.specs.World.{Stopped}
use Rattle.room_host.proofs.Moments.{within}
use Rattle.room_host.proofs.Lying.{holds, no_fuse, seen_state}
use Rattle.room_host.proofs.hearing.stop.Goals as goal

pub returns-in-Ok-clause-kept : goal.returns-in-Ok-clause-kept
returns-in-Ok-clause-kept g c told =
    let d = g.D.Disk in
    let e = c.in-Ok.ensures in
    let s = c.args.server.now.store.state in
    let k = (c.requires.kept told).holds in
    let old = c.args.disk.now in
    let w = g.D.Stopping.ends old in
    let image : (f : ℕ) → d.images old (d.moment old) f (d.leaves old w f) =
    λ f. g.met.D.Disk.left_is_image old w f told
    in (
      s,
      holds d.seen d.moment d.images d.leaves old c.rest.new.disk w s (e.left told) (e.first told) (e.second told)
          (k.stands (d.leaves old w) image) (k.written (d.leaves old w) image),
    )

pub returns-in-Ok-clause-rests : goal.returns-in-Ok-clause-rests
returns-in-Ok-clause-rests g c told can =
    record { going = c.in-Ok.ensures.going; clean = c.in-Ok.ensures.clean told can }

pub returns-in-Ok-clause-stops : goal.returns-in-Ok-clause-stops
returns-in-Ok-clause-stops g c told =
    let d = g.D.Disk in
    let e = c.in-Ok.ensures in
    let old = c.args.disk.now in
    let w = g.D.Stopping.ends old in (
      ap Stopped
          (seen_state d.seen d.moment d.images d.leaves old c.rest.new.disk w c.args.server.now.store.state
          (e.left told)
          ((c.requires.kept told).holds.stands (d.leaves old w) (λ f. g.met.D.Disk.left_is_image old w f told))),
      no_fuse g.D.Stopping.armed g.D.Stopping.way c.rest.new.disk e.unarmed,
    )

pub returns-in-Ok-clause-images : goal.returns-in-Ok-clause-images
returns-in-Ok-clause-images g c told =
    let d = g.D.Disk in
    within d.moment d.images (StandsFor 0 c.args.server.now.store.state) c.args.disk.now c.rest.new.disk
    (c.requires.kept told).holds.stands (c.rest.ensures.within told)

pub returns-in-Err-clause-images : goal.returns-in-Err-clause-images
returns-in-Err-clause-images g c told =
    let d = g.D.Disk in
    within d.moment d.images (StandsFor 0 c.args.server.now.store.state) c.args.disk.now c.rest.new.disk
    (c.requires.kept told).holds.stands (c.rest.ensures.within told)
