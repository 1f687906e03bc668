use Rattle.std.proofs.Common.{◌≡◌, ◌++◌, drop, map}
use Rattle.std.specs.List.{flat_map}
use Rattle.room_bytes.specs.Bounds.{AreCountedEntries, logged}
use Rattle.room_bytes.specs.Spelling.{entry_bytes}
use Rattle.room_bytes.specs.declared.entries.Format.TheVariants.{Two}
use Rattle.room_bytes.proofs.writing.put_each_entry.Given as goal

abbrev pub invariant-loop-entry : goal.invariant-loop-entry
invariant-loop-entry l = record {
  bytes : l.out.items ++ flat_map (entry_bytes Two) (map logged (drop l.entry-index l.entries)) ≡ l.initial.out.items ++ flat_map (entry_bytes Two) (map logged l.entries);
  counted : AreCountedEntries (map logged (drop l.entry-index l.entries)) → AreCountedEntries (map logged l.entries);
}
