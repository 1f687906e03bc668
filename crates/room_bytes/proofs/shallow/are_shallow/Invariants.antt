use Rattle.std.proofs.Common.{◌≡◌}
use Rattle.room_json.specs.View.{members_view}
use Rattle.room_nodes.specs.Shallow.{are_shallow}
use Rattle.room_bytes.proofs.shallow.are_shallow.Given as goal

abbrev pub invariant-loop-name : goal.invariant-loop-name
invariant-loop-name l = are_shallow (members_view l._name-iterator) ≡ are_shallow (members_view l.fields.entries)
