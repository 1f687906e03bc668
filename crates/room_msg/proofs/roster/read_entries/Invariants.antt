use Rattle.std.proofs.Common.{◌≡◌, []}
use Rattle.room_json.specs.View.{members_view}
use Rattle.room_msg.proofs.Swaps.{users_into}
use Rattle.room_msg.proofs.roster.read_entries.Given as goal

abbrev pub invariant-loop-name : goal.invariant-loop-name
invariant-loop-name l = users_into (members_view l.name-iterator) l.found ≡ users_into (members_view l.map.entries) []
