use Rattle.std.proofs.Common.{◌≡◌}
use Rattle.room_json.specs.Value.{merged}
use Rattle.room_json.specs.View.{members_view}
use Rattle.room_json.proofs.merging.with_entries.Given as goal

abbrev pub invariant-loop-name : goal.invariant-loop-name
invariant-loop-name l = merged l.members (members_view l.name-iterator) ≡ merged l.fn.members (members_view l.patch.entries)
