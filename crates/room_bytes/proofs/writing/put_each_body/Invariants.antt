use Rattle.std.proofs.Common.{◌≡◌, ◌++◌, drop}
use Rattle.std.specs.List.{flat_map}
use Rattle.room_bytes.specs.Bounds.{AreCountedBodies}
use Rattle.room_bytes.specs.Spelling.{body_bytes}
use Rattle.room_bytes.proofs.writing.put_each_body.Given as goal

abbrev pub invariant-loop-body : goal.invariant-loop-body
invariant-loop-body l = record {
  bytes : l.out.items ++ flat_map body_bytes (drop l.body-index l.bodies) ≡ l.initial.out.items ++ flat_map body_bytes l.bodies;
  counted : AreCountedBodies (drop l.body-index l.bodies) → AreCountedBodies l.bodies;
}
