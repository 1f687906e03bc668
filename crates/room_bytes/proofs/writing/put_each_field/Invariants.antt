use Rattle.std.proofs.Common.{◌≡◌, ◌++◌}
use Rattle.std.specs.List.{flat_map}
use Rattle.room_json.specs.View.{members_view}
use Rattle.room_bytes.specs.Bounds.{AreCountedFields}
use Rattle.room_bytes.specs.Spelling.{field_bytes}
use Rattle.room_bytes.proofs.writing.put_each_field.Given as goal

abbrev pub invariant-loop-name : goal.invariant-loop-name
invariant-loop-name l = record {
  bytes : l.out.items ++ flat_map field_bytes (members_view l.name-iterator) ≡ l.initial.out.items ++ flat_map field_bytes (members_view l.fields.entries);
  counted : AreCountedFields (members_view l.name-iterator) → AreCountedFields (members_view l.fields.entries);
}
