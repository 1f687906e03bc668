use Rattle.std.proofs.Common.{◌≡◌}
use Rattle.std.specs.Vec.Iter.{into_iter_items}
use Rattle.room_json.specs.Value.{merged}
use Rattle.room_json.specs.View.{members_view}
use Rattle.room_items.proofs.showing.with_members.Given as goal

abbrev pub invariant-loop-name : goal.invariant-loop-name
invariant-loop-name l = merged l.members (members_view (into_iter_items l.name-iterator)) ≡ merged l.fn.members (members_view l.fn.shown)
