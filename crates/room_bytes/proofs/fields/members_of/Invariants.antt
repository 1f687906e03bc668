use Rattle.std.proofs.Common.{◌≡◌, [], map}
use Rattle.std.specs.Vec.Iter.{into_iter_items}
use Rattle.room_json.specs.Value.{merged}
use Rattle.room_bytes.specs.Reading.{paired}
use Rattle.room_bytes.proofs.fields.members_of.Given as goal

abbrev pub invariant-loop-name : goal.invariant-loop-name
invariant-loop-name l = merged l.members (map paired (into_iter_items l.name-iterator)) ≡ merged [] (map paired l.fn.fields.items)
