use Rattle.std.proofs.Common.{◌-◌, length}
use Rattle.room_journal.proofs.SoFar.{IsSoFar}
use Rattle.room_journal.proofs.records.read_records.Given as goal

abbrev pub invariant-loop-size : goal.invariant-loop-size
invariant-loop-size l = IsSoFar l.bytes l.start l.at l.bodies

abbrev pub decreases-loop-size : goal.decreases-loop-size
decreases-loop-size l = length l.bytes - l.at
