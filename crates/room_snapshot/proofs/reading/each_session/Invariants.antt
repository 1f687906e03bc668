use Rattle.std.proofs.Common.{◌≡◌, ◌-◌, map}
use Rattle.room_bytes.specs.Reading.{each_at}
use Rattle.room_bytes.proofs.Loops.{with_front}
use Rattle.room_snapshot.specs.Bounds.{kept}
use Rattle.room_snapshot.specs.Reading.{session_at}
use Rattle.room_snapshot.proofs.reading.each_session.Given as goal

abbrev pub invariant-loop : goal.invariant-loop
invariant-loop l = with_front (map kept l.sessions) (each_at (session_at l.f) (l.count - l.counter) l.rest)
    ≡ each_at (session_at l.f) l.count l.bytes
