use Rattle.std.proofs.Common.{◌≡◌, ◌≤◌, ◌+◌, true, length, drop}
use Rattle.room_host.specs.Rests.{IsKept, Rests}
use Rattle.room_moves.specs.Reading.{AllRead}
use Rattle.room_script.specs.Forms.{AreScheduled, lines_of}
use Rattle.room_world.specs.Lines.{AreRunnable}
use Rattle.room_world.specs.Seen.{world_on}
use Rattle.room_run.specs.Running.{Ran}
use Rattle.room_run.proofs.playing.play_all.Given as goal

abbrev pub invariant-loop-number : goal.invariant-loop-number
invariant-loop-number g l =
    let d = g.D.Disk in
    let s = g.D.Stopping in
    let k = g.K.Sink in
    let first = world_on d.seen s.armed s.way l.initial.world l.initial.disk in
    let now = world_on d.seen s.armed s.way l.world l.disk in
    let left = drop l.number-index l.lines in
    record {
      runnable : AreRunnable left;
      scheduled : AreScheduled left;
      room : l.world.opened + length left ≤ l.initial.world.opened + length l.lines;
      kept : d.tells ≡ true → IsKept (d.seen l.disk) (d.images l.disk (d.moment l.disk)) l.world.hosting.server;
      rests : d.tells ≡ true → d.stops ≡ true → Rests d.seen d.stopped d.leaves l.disk;
      read : d.tells ≡ true → d.stops ≡ true → AllRead now (lines_of left);
      ran : d.tells ≡ true → d.stops ≡ true → Ran (s.inner_images l.disk) first (lines_of l.lines)
          (k.written l.initial.sink) (k.written l.sink) (s.inner_moment l.initial.disk) (s.inner_moment l.disk) now
          (lines_of left);
      went : s.went l.initial.disk l.disk;
      faults : d.faults l.initial.disk ≤ d.faults l.disk;
      inner_faults : d.inner_faults l.initial.disk ≤ d.inner_faults l.disk;
      sink_faults : k.faults l.initial.sink ≤ k.faults l.sink;
    }
