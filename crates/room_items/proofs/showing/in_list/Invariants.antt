use Rattle.std.proofs.Common.{◌≡◌, ◌++◌, map}
use Rattle.std.specs.Vec.Iter.{into_iter_items}
use Rattle.room_json.specs.View.{members_view}
use Rattle.room_items.specs.View.{second}
use Rattle.room_items.proofs.showing.in_list.Given as goal

abbrev pub invariant-loop-key : goal.invariant-loop-key
invariant-loop-key l = l.items ++ map second (members_view (into_iter_items l._key-iterator)) ≡ map second (members_view l.fn.shown)
