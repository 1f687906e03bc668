use Rattle.std.proofs.Common.{◌≡◌, ◌-◌, length, map}
use Rattle.room_bytes.specs.Bounds.{logged, HaveBytes}
use Rattle.room_bytes.specs.Reading.{entry_at, each_at}
use Rattle.room_bytes.specs.declared.entries.Format.TheVariants.{Two}
use Rattle.room_bytes.proofs.Loops.{with_front}
use Rattle.room_bytes.proofs.reading.each_entry.Given as goal

abbrev pub invariant-loop : goal.invariant-loop
invariant-loop l = record {
  read : with_front (map logged l.entries) (each_at (entry_at Two) (l.count - l.counter) l.rest) ≡ each_at (entry_at Two) l.count l.bytes;
  bounds : HaveBytes (map logged l.entries);
  number : length l.entries ≡ l.counter;
}
