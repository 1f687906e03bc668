use Rattle.std.proofs.Common.{◌≡◌, ◌≤◌, map, drop}
use Rattle.std.specs.Slice.Iter.{iter_rest}
use Rattle.room_json.specs.Value.{values_of, fields_of}
use Rattle.room_json.specs.View.{json_of, members_view}
use Rattle.room_json.specs.Weights.{weight, values_weight, fields_weight}
use Rattle.room_nodes.specs.Equal.{same_values, same_fields}
use Rattle.room_overlay.proofs.equality.+same.Given as goal

abbrev pub decreases-same_value : goal.decreases-same_value
decreases-same_value l = weight (json_of l.v.now)

abbrev pub decreases-same_values : goal.decreases-same_values
decreases-same_values l = values_weight (values_of (map json_of l.vs.now))

abbrev pub decreases-same_fields : goal.decreases-same_fields
decreases-same_fields l = fields_weight (fields_of (members_view l.fs.now.entries))

abbrev pub invariant-same_values-loop-v : goal.invariant-same_values-loop-v
invariant-same_values-loop-v l =
    let rest = values_of (map json_of (drop l.v-index l.vs)) in
    (same_values rest (values_of (map json_of (iter_rest l.others))) ≡ same_values (values_of (map json_of l.vs)) (values_of (map json_of l.ws)))
    × (values_weight rest ≤ values_weight (values_of (map json_of l.vs)))

abbrev pub invariant-same_fields-loop-name : goal.invariant-same_fields-loop-name
invariant-same_fields-loop-name l =
    let rest = fields_of (members_view l.name-iterator) in
    (same_fields rest (fields_of (members_view l.others)) ≡ same_fields (fields_of (members_view l.fs.entries)) (fields_of (members_view l.gs.entries)))
    × (fields_weight rest ≤ fields_weight (fields_of (members_view l.fs.entries)))
