use Rattle.std.proofs.Common.{◌≡◌, [], ◌++◌, option_map}
use Rattle.std.specs.Vec.Iter.{into_iter_items}
use Rattle.serde_json.specs.View.{items_view, members_view as object_view}
use Rattle.room_json.specs.Reading.{items_in, members_into}
use Rattle.room_json.proofs.parse.+from.Given as goal

abbrev pub invariant-items_from-loop-value : goal.invariant-items_from-loop-value
invariant-items_from-loop-value l = option_map (λ vs. l.items ++ vs) (items_in (items_view (into_iter_items l.value-iterator))) ≡ items_in (items_view l.fn.values.items)

abbrev pub invariant-members_from-loop-name : goal.invariant-members_from-loop-name
invariant-members_from-loop-name l = members_into (object_view l.name-iterator) l.members ≡ members_into (object_view l.fn.map.entries) []
