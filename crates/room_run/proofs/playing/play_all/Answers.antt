use Rattle.std.proofs.Common.{◌+◌, drop, length, ap, subst, arith, rules}
use Rattle.std.proofs.Math.Nat.{le_trans}
use Rattle.room_script.specs.Forms.{AreScheduled, lines_of}
use Rattle.room_world.specs.Lines.{AreRunnable}
use Rattle.room_world.specs.Seen.{world_on}
use Rattle.room_run.specs.Running.{Halted}
use Rattle.room_run.proofs.Played.{begins, stands_at}
use Rattle.room_run.proofs.Stepping.{left_at, ran_next, halts_next, reads_next, none_left}
use Rattle.room_run.proofs.playing.play_all.Goals as goal

pub loop-number-init : goal.loop-number-init
loop-number-init g c =
    let d = g.D.Disk in
    let s = g.D.Stopping in
    let k = g.K.Sink in
    let at = c.args.disk.now in
    let r = c.requires in
    record {
      runnable = r.runnable;
      scheduled = r.scheduled;
      room = omega arith;
      kept = r.kept;
      rests = r.rests;
      read = r.read;
      ran = λ told can. begins (s.inner_images at) (world_on d.seen s.armed s.way c.args.world.now at)
          (lines_of c.args.lines.now) (k.written c.args.sink.now) (s.inner_moment at)
          (stands_at (d.seen at) (d.images at (d.moment at)) (s.inner_images at) (s.inner_moment at)
          c.args.world.now.hosting.server (λ f. g.met.D.Disk.seen_is_image at f told)
          (λ f x. g.met.D.Stopping.inner_is_image at f x told) (r.kept told));
      went = g.met.D.Stopping.went_same at;
      faults = omega arith;
      inner_faults = omega arith;
      sink_faults = omega arith;
    }

pub loop-number-preserved : goal.loop-number-preserved
loop-number-preserved g c =
    let d = g.D.Disk in
    let s = g.D.Stopping in
    let k = g.K.Sink in
    let l = c.loop-number in
    let i = l.invariant in
    let lines = c.args.lines.now in
    let e = c.loop-number-item.result in
    let left = drop l.number-index lines in
    let rest = drop (l.number-index + 1) lines in
    let split = left_at lines l.number-index e c.loop-number-test.true c.loop-number-item.is in
    let w = world_on d.seen s.armed s.way c.args.world.now c.args.disk.now in
    let v = world_on d.seen s.armed s.way l.world l.disk in
    let u = world_on d.seen s.armed s.way c.play.new.world c.play.new.disk in
    let done = c.in_ok-play.ensures in
    record {
      runnable = (subst AreRunnable split i.runnable).1;
      scheduled = (subst AreScheduled split i.scheduled).1;
      room = omega (arith, i.room, done.opened, ap length split);
      kept = λ told. done.kept told tt;
      rests = λ told can. done.rests told can tt;
      read = λ told can. reads_next e left rest split i.scheduled (s.inner_images l.disk)
          (s.inner_images c.play.new.disk) (k.written l.sink) (k.written c.play.new.sink) (s.inner_moment l.disk)
          (s.inner_moment c.play.new.disk) v u _ (i.read told can) (done.plays told can);
      ran = λ told can. ran_next e left rest split i.scheduled (s.inner_images l.disk)
          (s.inner_images c.play.new.disk) w (lines_of lines) (k.written c.args.sink.now) (k.written l.sink)
          (k.written c.play.new.sink) (s.inner_moment c.args.disk.now) (s.inner_moment l.disk)
          (s.inner_moment c.play.new.disk) v u _ (i.ran told can) (done.plays told can);
      went = g.met.D.Stopping.went_then c.args.disk.now l.disk c.play.new.disk i.went done.went;
      faults = le_trans i.faults done.causes.later;
      inner_faults = le_trans i.inner_faults done.causes.inner_later;
      sink_faults = le_trans i.sink_faults done.causes.sink_later;
    }

pub returns-in_err-play-clause-runs : goal.returns-in_err-play-clause-runs
returns-in_err-play-clause-runs g c told can =
    let d = g.D.Disk in
    let s = g.D.Stopping in
    let k = g.K.Sink in
    let l = c.loop-number in
    let i = l.invariant in
    let lines = c.args.lines.now in
    let e = c.loop-number-item.result in
    let left = drop l.number-index lines in
    let rest = drop (l.number-index + 1) lines in
    let split = left_at lines l.number-index e c.loop-number-test.true c.loop-number-item.is in
    let w = world_on d.seen s.armed s.way c.args.world.now c.args.disk.now in
    let v = world_on d.seen s.armed s.way l.world l.disk in
    let u = world_on d.seen s.armed s.way c.play.new.world c.play.new.disk in
    let halted : Halted c.in_err-play.field-0.0 (s.inner_images c.play.new.disk) w (lines_of lines)
    (k.written c.args.sink.now) (k.written c.play.new.sink) (s.inner_moment c.args.disk.now)
    (s.inner_moment c.play.new.disk) =
    halts_next e left rest split i.scheduled (Unit {0}) (s.inner_images l.disk) (s.inner_images c.play.new.disk) w
    (lines_of lines) (k.written c.args.sink.now) (k.written l.sink) (k.written c.play.new.sink)
    (s.inner_moment c.args.disk.now) (s.inner_moment l.disk) (s.inner_moment c.play.new.disk) v u _ (i.ran told can)
    (c.in_err-play.ensures.plays told can) in
    search (halted, rules)

pub returns-clause-runs : goal.returns-clause-runs
returns-clause-runs g c told can =
    let d = g.D.Disk in
    let s = g.D.Stopping in
    let k = g.K.Sink in
    let l = c.loop-number in
    none_left (s.inner_images l.disk) (world_on d.seen s.armed s.way c.args.world.now c.args.disk.now)
    (lines_of c.args.lines.now) (k.written c.args.sink.now) (k.written l.sink) (s.inner_moment c.args.disk.now)
    (s.inner_moment l.disk) (world_on d.seen s.armed s.way l.world l.disk) c.args.lines.now l.number-index
    c.loop-number-test.false (l.invariant.ran told can)

pub returns-in_err-play-clause-went : goal.returns-in_err-play-clause-went
returns-in_err-play-clause-went g c =
    g.met.D.Stopping.went_then c.args.disk.now c.loop-number.disk c.play.new.disk c.loop-number.invariant.went
    c.play.ensures.went
