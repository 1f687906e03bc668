use Rattle.std.proofs.Common.{◌≡◌, nat_cmp}
use Rattle.std.specs.BTreeMap.{is_at}
use Rattle.std.specs.Cmp.Lexicographic.{slice_cmp}
use Rattle.std.specs.Map.{lookup}
use Rattle.room_json.specs.View.{members_view}
use Rattle.room_json.proofs.member_map.find_by.Given as goal

abbrev pub invariant-loop-key : goal.invariant-loop-key
invariant-loop-key l = lookup (is_at (slice_cmp nat_cmp l.name)) (members_view l.key-iterator) ≡ lookup (is_at (slice_cmp nat_cmp l.name)) (members_view l.entries.entries)
