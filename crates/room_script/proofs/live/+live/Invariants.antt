use Rattle.std.proofs.Common.{◌≡◌, ◌≤◌, ◌++◌, List, map, drop}
use Rattle.room_json.specs.Value.{values_of, fields_of}
use Rattle.room_json.specs.View.{json_of, members_view}
use Rattle.room_json.specs.Weights.{weight, values_weight, fields_weight}
use Rattle.room_script.specs.Live.{init_of}
use Rattle.room_script.specs.Living.{live_entries}
use Rattle.room_script.proofs.Lively.{Entry}
use Rattle.room_script.proofs.live.+live.Given as goal

abbrev pub decreases-live : goal.decreases-live
decreases-live l = weight (json_of l.value.now)

abbrev pub decreases-live_by_name : goal.decreases-live_by_name
decreases-live_by_name l = weight (json_of l.inner.now)

abbrev pub decreases-live_parts : goal.decreases-live_parts
decreases-live_parts l = fields_weight (fields_of (members_view l.entries.now.entries))

abbrev pub decreases-live_items : goal.decreases-live_items
decreases-live_items l = values_weight (values_of (map json_of l.items.now))

abbrev pub invariant-live_parts-loop-name : goal.invariant-live_parts-loop-name
invariant-live_parts-loop-name l =
    (done : List Entry) × (l.entries.entries ≡ done ++ l.name-iterator) × (l.parts ≡ live_entries done) × (fields_weight (fields_of (members_view l.name-iterator)) ≤ fields_weight (fields_of (members_view l.entries.entries)))

abbrev pub invariant-live_items-loop-item : goal.invariant-live_items-loop-item
invariant-live_items-loop-item l =
    let rest = drop l.item-index l.items in
    (l.inits ++ map (λ j. init_of (json_of j)) rest ≡ map (λ j. init_of (json_of j)) l.items) × (values_weight (values_of (map json_of rest)) ≤ values_weight (values_of (map json_of l.items)))
