use Rattle.std.proofs.Common.{◌≡◌, ◌-◌, map}
use Rattle.room_bytes.specs.Reading.{each_at}
use Rattle.room_bytes.proofs.Loops.{with_front}
use Rattle.room_snapshot.specs.Bounds.{rowed}
use Rattle.room_snapshot.specs.Reading.{row_at}
use Rattle.room_snapshot.proofs.reading.each_row.Given as goal

abbrev pub invariant-loop : goal.invariant-loop
invariant-loop l = with_front (map rowed l.rows) (each_at row_at (l.count - l.counter) l.rest)
    ≡ each_at row_at l.count l.bytes
