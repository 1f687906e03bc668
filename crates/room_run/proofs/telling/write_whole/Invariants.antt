use Rattle.std.proofs.Common.{◌≤◌, ◌-◌, length, take}
use Rattle.std.specs.Io.KnownBytes.{Appends}
use Rattle.room_run.proofs.telling.write_whole.Given as goal

abbrev pub invariant-loop-at : goal.invariant-loop-at
invariant-loop-at g l =
    let s = g.K.Sink in record {
      told : Appends (s.written l.initial.sink) (s.written l.sink) (take l.at l.piece);
      faults : s.faults l.initial.sink ≤ s.faults l.sink;
      within : l.at ≤ length l.piece;
    }

abbrev pub decreases-loop-at : goal.decreases-loop-at
decreases-loop-at g l = length l.piece - l.at
