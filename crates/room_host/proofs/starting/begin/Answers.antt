use Rattle.std.proofs.Common.{ap, rules, subst, sym, ℕ}
use Rattle.room_store.specs.declared.fault.StoreFault.{StoreFault}
use Rattle.room_replay.specs.Files.{StandsFor}
use Rattle.room_store.specs.Consistent.{AreWritten}
use Rattle.room_arrivals.specs.Serving.{limits_of}
use Rattle.room_model.specs.World.{Running}
use Rattle.room_host.specs.Faults.{IsWhole}
use Rattle.room_host.specs.Seen.{room_files, state_in_files}
use Rattle.room_host.proofs.Moments.{at_end, within, then_within}
use Rattle.room_host.proofs.Firing.{made}
use Rattle.room_host.proofs.Lying.{holds}
use Rattle.room_host.proofs.Compacting.{fires_with, still_going}
use Rattle.room_host.proofs.Recovering.{lying_whole}
use Rattle.room_host.proofs.Recovering.{is_written, start_moments, start_written, start_runs, begun_state}
use Rattle.room_host.proofs.starting.begin.Goals as goal

pub returns-in-Ok-clause-kept : goal.returns-in-Ok-clause-kept
returns-in-Ok-clause-kept g c told =
    let d = g.D.Disk in
    let e = c.in-Ok.ensures in
    let old = c.args.disk.now in
    let k = c.requires.kept told in
    let here : (f : ℕ) → d.images old (d.moment old) f (d.seen old f) = λ f. g.met.D.Disk.seen_is_image old f told in
    start_runs d.seen d.moment d.images old here k c.in-Ok.server c.recover.new.disk e.whole e.base (e.settled told)
    (e.held told) (e.still told (is_written d.seen d.moment d.images old here k))

pub returns-in-Ok-clause-rests : goal.returns-in-Ok-clause-rests
returns-in-Ok-clause-rests g c told can rests =
    let e = c.in-Ok.ensures in
    record {
      going = still_going StoreFault g.D.Disk.stopped c.args.disk.now c.recover.new.disk c.in-Ok.server e.stop_fails
          rests.going;
      clean = e.clean told can rests.going rests.clean;
    }

pub returns-in-Ok-clause-starts : goal.returns-in-Ok-clause-starts
returns-in-Ok-clause-starts g c told can rests =
    let d = g.D.Disk in
    let e = c.in-Ok.ensures in
    let old = c.args.disk.now in
    let new = c.recover.new.disk in
    let k = c.requires.kept told in
    let here : (f : ℕ) → d.images old (d.moment old) f (d.seen old f) = λ f. g.met.D.Disk.seen_is_image old f told in (
      made d.stopped g.D.Stopping.armed d.moment g.D.Stopping.way old new 2 rests.going
          (still_going StoreFault d.stopped old new c.in-Ok.server e.stop_fails rests.going)
          (g.met.D.Stopping.counts old new e.came) (e.counted told (is_written d.seen d.moment d.images old here k)),
      ap Running (begun_state c.in-Ok.server (limits_of c.args.limits) (d.seen old) (e.state told) e.server),
    )

pub returns-in-Ok-clause-images : goal.returns-in-Ok-clause-images
returns-in-Ok-clause-images g c told =
    let d = g.D.Disk in
    let old = c.args.disk.now in
    let k = c.requires.kept told in
    let here : (f : ℕ) → d.images old (d.moment old) f (d.seen old f) = λ f. g.met.D.Disk.seen_is_image old f told in
    start_moments d.seen d.moment d.images old here k c.recover.new.disk
    (c.recover.ensures.still told (is_written d.seen d.moment d.images old here k))

pub returns-in_err-end-in-Err-clause-images : goal.returns-in_err-end-in-Err-clause-images
returns-in_err-end-in-Err-clause-images g c told =
    let d = g.D.Disk in
    let old = c.args.disk.now in
    let k = c.requires.kept told in
    let here : (f : ℕ) → d.images old (d.moment old) f (d.seen old f) = λ f. g.met.D.Disk.seen_is_image old f told in
    then_within d.moment d.images (StandsFor 0 (state_in_files (room_files (d.seen old)))) old c.recover.new.disk
    c.end.new.disk
    (start_moments d.seen d.moment d.images old here k c.recover.new.disk
    (c.recover.ensures.still told (is_written d.seen d.moment d.images old here k)))
    (c.end.ensures.within told)

pub returns-in_ok-end-in-Err-clause-images : goal.returns-in_ok-end-in-Err-clause-images
returns-in_ok-end-in-Err-clause-images g c told =
    let d = g.D.Disk in
    let old = c.args.disk.now in
    let k = c.requires.kept told in
    let here : (f : ℕ) → d.images old (d.moment old) f (d.seen old f) = λ f. g.met.D.Disk.seen_is_image old f told in
    then_within d.moment d.images (StandsFor 0 (state_in_files (room_files (d.seen old)))) old c.recover.new.disk
    c.end.new.disk
    (start_moments d.seen d.moment d.images old here k c.recover.new.disk
    (c.recover.ensures.still told (is_written d.seen d.moment d.images old here k)))
    (c.end.ensures.within told)

pub returns-in_ok-end-in-Err-clause-kept : goal.returns-in_ok-end-in-Err-clause-kept
returns-in_ok-end-in-Err-clause-kept g c told =
    let d = g.D.Disk in
    let old = c.args.disk.now in
    let mid = c.recover.new.disk in
    let k = c.requires.kept told in
    let e = c.in_ok-end-in-Err.ensures in
    let w = g.D.Stopping.way mid in
    let here : (f : ℕ) → d.images old (d.moment old) f (d.seen old f) = λ f. g.met.D.Disk.seen_is_image old f told in
    let image : (f : ℕ) → d.images mid (d.moment mid) f (d.leaves mid w f) =
    λ f. g.met.D.Disk.left_is_image mid w f told
    in
    let run = c.recover.ensures.still told (is_written d.seen d.moment d.images old here k) in (
      k.0,
      holds d.seen d.moment d.images d.leaves mid c.end.new.disk w k.0 (e.left told) (e.first told) (e.second told)
          (at_end d.moment d.images (StandsFor 0 k.0) old mid
          (within d.moment d.images (StandsFor 0 k.0) old mid (k.1).stands run) (d.leaves mid w) image)
          (at_end d.moment d.images (AreWritten 0) old mid
          (start_written d.seen d.moment d.images old here k mid run) (d.leaves mid w) image),
    )

pub returns-in_ok-end-in-Err-clause-rests : goal.returns-in_ok-end-in-Err-clause-rests
returns-in_ok-end-in-Err-clause-rests g c told can rests =
    record { going = c.in_ok-end-in-Err.ensures.going; clean = c.in_ok-end-in-Err.ensures.clean told can }

pub returns-in_ok-end-in-Err-clause-starts : goal.returns-in_ok-end-in-Err-clause-starts
returns-in_ok-end-in-Err-clause-starts g c told can rests =
    let d = g.D.Disk in
    let old = c.args.disk.now in
    let mid = c.recover.new.disk in
    let k = c.requires.kept told in
    let e = c.in_ok-end-in-Err.ensures in
    let w = g.D.Stopping.way mid in
    let here : (f : ℕ) → d.images old (d.moment old) f (d.seen old f) = λ f. g.met.D.Disk.seen_is_image old f told in
    let s = state_in_files (room_files (d.seen old)) in
    let still = is_written d.seen d.moment d.images old here k in
    fires_with d.seen d.moment d.images d.stopped d.leaves g.D.Stopping.armed g.D.Stopping.way old mid c.end.new.disk 2
    s
    rests.going (g.met.D.Stopping.counts old mid c.recover.ensures.came) e.stopped (c.recover.ensures.two told still)
    (at_end d.moment d.images (StandsFor 0 s) old mid
    (start_moments d.seen d.moment d.images old here k mid (c.recover.ensures.still told still))
    (d.leaves mid w) (λ f. g.met.D.Disk.left_is_image mid w f told))
    (e.left told) e.unarmed

pub returns-in_err-end-in-Err-clause-went : goal.returns-in_err-end-in-Err-clause-went
returns-in_err-end-in-Err-clause-went g c =
    let law = g.met.D.Stopping in
    law.went_then c.args.disk.now c.recover.new.disk c.end.new.disk
    (law.went_by c.args.disk.now c.recover.new.disk c.recover.ensures.came) c.end.ensures.went

pub returns-in_ok-end-in-Err-clause-went : goal.returns-in_ok-end-in-Err-clause-went
returns-in_ok-end-in-Err-clause-went g c =
    let law = g.met.D.Stopping in
    law.went_then c.args.disk.now c.recover.new.disk c.end.new.disk
    (law.went_by c.args.disk.now c.recover.new.disk c.recover.ensures.came) c.end.ensures.went

pub returns-in_err-end-in-Err-clause-whole : goal.returns-in_err-end-in-Err-clause-whole
returns-in_err-end-in-Err-clause-whole g c told =
    let d = g.D.Disk in
    let old = c.args.disk.now in
    let here : (f : ℕ) → d.images old (d.moment old) f (d.seen old f) = λ f. g.met.D.Disk.seen_is_image old f told in
    let k = c.requires.kept told in
    let recovers : IsWhole c.of_store.result = subst IsWhole (sym c.of_store.ensures)
    (lying_whole d.seen d.moment d.images old here k c.in-Err.fault (c.in-Err.ensures.fault told))
    in
    let fault : IsWhole c.in_err-end-in-Err.field-0.0 = c.in_err-end-in-Err.ensures.whole recovers in
    search (fault, rules)
