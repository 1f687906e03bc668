use Rattle.std.proofs.Common.{◌≡◌, ◌-◌}
use Rattle.room_bytes.specs.Reading.{body_at, each_at}
use Rattle.room_bytes.proofs.Loops.{with_front}
use Rattle.room_bytes.proofs.fields.each_body.Given as goal

abbrev pub invariant-loop : goal.invariant-loop
invariant-loop l = with_front l.bodies (each_at body_at (l.count - l.counter) l.rest) ≡ each_at body_at l.count l.bytes
