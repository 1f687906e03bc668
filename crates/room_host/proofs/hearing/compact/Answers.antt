use Rattle.std.proofs.Common.{ap, ℕ}
use Rattle.room_server.specs.declared.fault.ServerFault.{ServerFault}
use Rattle.room_replay.specs.Files.{StandsFor}
use Rattle.room_store.specs.Consistent.{AreWritten}
use Rattle.room_model.specs.World.{Running}
use Rattle.room_host.proofs.Moments.{at_end, then_within}
use Rattle.room_host.proofs.Firing.{made}
use Rattle.room_host.proofs.Lying.{holds}
use Rattle.room_host.proofs.Compacting.{fires_with, still_going, compact_moments, compact_written, compact_runs}
use Rattle.room_host.proofs.hearing.compact.Goals as goal

pub returns-in_err-end-in-Err-clause-images : goal.returns-in_err-end-in-Err-clause-images
returns-in_err-end-in-Err-clause-images g c told =
    let d = g.D.Disk in
    let h = c.args.server.now in
    let k = c.requires.kept told in
    then_within d.moment d.images (StandsFor 0 h.store.state) c.args.disk.now c.compact.new.disk c.end.new.disk
    (compact_moments d.seen d.moment d.images h c.compact.new.self c.args.disk.now c.compact.new.disk c.compact.result k
    (c.compact.ensures.compacts told k.whole))
    (c.end.ensures.within told)

pub returns-in_ok-end-in-Err-clause-images : goal.returns-in_ok-end-in-Err-clause-images
returns-in_ok-end-in-Err-clause-images g c told =
    let d = g.D.Disk in
    let h = c.args.server.now in
    let k = c.requires.kept told in
    then_within d.moment d.images (StandsFor 0 h.store.state) c.args.disk.now c.compact.new.disk c.end.new.disk
    (compact_moments d.seen d.moment d.images h c.compact.new.self c.args.disk.now c.compact.new.disk c.compact.result k
    (c.compact.ensures.compacts told k.whole))
    (c.end.ensures.within told)

pub returns-in-Ok-clause-images : goal.returns-in-Ok-clause-images
returns-in-Ok-clause-images g c told =
    let d = g.D.Disk in
    let k = c.requires.kept told in
    compact_moments d.seen d.moment d.images c.args.server.now c.compact.new.self c.args.disk.now c.compact.new.disk
    c.compact.result k (c.compact.ensures.compacts told k.whole)

pub returns-in-Ok-clause-kept : goal.returns-in-Ok-clause-kept
returns-in-Ok-clause-kept g c told =
    let d = g.D.Disk in
    let e = c.in-Ok.ensures in
    let k = c.requires.kept told in
    compact_runs d.seen d.moment d.images c.args.server.now c.compact.new.self c.args.disk.now c.compact.new.disk
    c.in-Ok.field-0 k (λ f. g.met.D.Disk.seen_is_image c.args.disk.now f told) e.broken e.base (e.settled told) e.server
    (e.compacts told k.whole)

pub returns-in-Ok-clause-compacts : goal.returns-in-Ok-clause-compacts
returns-in-Ok-clause-compacts g c told can rests =
    let d = g.D.Disk in
    let e = c.in-Ok.ensures in (
      made d.stopped g.D.Stopping.armed d.moment g.D.Stopping.way c.args.disk.now c.compact.new.disk 6 rests.going
          (still_going ServerFault d.stopped c.args.disk.now c.compact.new.disk c.in-Ok.field-0 e.stop_fails
          rests.going)
          (g.met.D.Stopping.counts c.args.disk.now c.compact.new.disk e.came)
          (e.compacts told (c.requires.kept told).whole).counted,
      ap Running e.server,
    )

pub returns-in_ok-end-in-Err-clause-kept : goal.returns-in_ok-end-in-Err-clause-kept
returns-in_ok-end-in-Err-clause-kept g c told =
    let d = g.D.Disk in
    let h = c.args.server.now in
    let k = c.requires.kept told in
    let e = c.in_ok-end-in-Err.ensures in
    let mid = c.compact.new.disk in
    let w = g.D.Stopping.way mid in
    let image : (f : ℕ) → d.images mid (d.moment mid) f (d.leaves mid w f) =
    λ f. g.met.D.Disk.left_is_image mid w f told
    in
    let is = c.compact.ensures.compacts told k.whole in
    let old = c.args.disk.now in
    let here : (f : ℕ) → d.images old (d.moment old) f (d.seen old f) = λ f. g.met.D.Disk.seen_is_image old f told in (
      h.store.state,
      holds d.seen d.moment d.images d.leaves mid c.end.new.disk w h.store.state (e.left told) (e.first told)
          (e.second told)
          (at_end d.moment d.images (StandsFor 0 h.store.state) c.args.disk.now mid
          (compact_moments d.seen d.moment d.images h c.compact.new.self c.args.disk.now mid c.compact.result k is)
          (d.leaves mid w) image)
          (at_end d.moment d.images (AreWritten 0) c.args.disk.now mid
          (compact_written d.seen d.moment d.images h c.compact.new.self c.args.disk.now mid c.compact.result k here is)
          (d.leaves mid w) image),
    )

pub returns-in_ok-end-in-Err-clause-rests : goal.returns-in_ok-end-in-Err-clause-rests
returns-in_ok-end-in-Err-clause-rests g c told can rests =
    record { going = c.in_ok-end-in-Err.ensures.going; clean = c.in_ok-end-in-Err.ensures.clean told can }

pub returns-in_ok-end-in-Err-clause-compacts : goal.returns-in_ok-end-in-Err-clause-compacts
returns-in_ok-end-in-Err-clause-compacts g c told can rests =
    let d = g.D.Disk in
    let h = c.args.server.now in
    let k = c.requires.kept told in
    let e = c.in_ok-end-in-Err.ensures in
    let mid = c.compact.new.disk in
    let w = g.D.Stopping.way mid in
    fires_with d.seen d.moment d.images d.stopped d.leaves g.D.Stopping.armed g.D.Stopping.way c.args.disk.now mid
    c.end.new.disk 6 h.store.state rests.going
    (g.met.D.Stopping.counts c.args.disk.now mid c.compact.ensures.came) e.stopped (c.compact.ensures.bound told)
    (at_end d.moment d.images (StandsFor 0 h.store.state) c.args.disk.now mid
    (compact_moments d.seen d.moment d.images h c.compact.new.self c.args.disk.now mid c.compact.result k
    (c.compact.ensures.compacts told k.whole))
    (d.leaves mid w) (λ f. g.met.D.Disk.left_is_image mid w f told))
    (e.left told) e.unarmed
