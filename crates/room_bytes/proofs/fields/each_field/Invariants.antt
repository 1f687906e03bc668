use Rattle.std.proofs.Common.{◌≡◌, ◌-◌, map}
use Rattle.room_bytes.specs.Reading.{field_at, each_at, paired}
use Rattle.room_bytes.proofs.Loops.{with_front}
use Rattle.room_bytes.proofs.fields.each_field.Given as goal

abbrev pub invariant-loop : goal.invariant-loop
invariant-loop l = with_front (map paired l.fields.items) (each_at field_at (l.count - l.counter) l.rest) ≡ each_at field_at l.count l.bytes
