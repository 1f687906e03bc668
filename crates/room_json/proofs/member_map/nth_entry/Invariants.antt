use Rattle.std.proofs.Common.{◌≡◌, slice_get}
use Rattle.room_json.specs.View.{members_view}
use Rattle.room_json.proofs.member_map.nth_entry.Given as goal

abbrev pub invariant-loop-name : goal.invariant-loop-name
invariant-loop-name l = slice_get (members_view l.name-iterator) l.left ≡ slice_get (members_view l.entries.entries) l.at
