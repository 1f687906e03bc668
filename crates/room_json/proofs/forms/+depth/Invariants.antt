use Rattle.std.proofs.Common.{◌≡◌, ℕ, map, drop, min, max, ◌-◌, ◌^◌}
use Rattle.room_json.specs.View.{json_of, members_view}
use Rattle.room_json.specs.Value.{values_of, fields_of, values_depth, fields_depth}
use Rattle.room_json.proofs.forms.+depth.Given as goal

-- as far as the type counts
abbrev pub counted : ℕ → ℕ
counted n = min n (2 ^ 64 - 1)

abbrev pub invariant-list_depth-loop-item : goal.invariant-list_depth-loop-item
invariant-list_depth-loop-item l = max l.most (counted (values_depth (values_of (map json_of (drop l.item-index l.v))))) ≡ counted (values_depth (values_of (map json_of l.v)))

abbrev pub invariant-object_depth-loop-name : goal.invariant-object_depth-loop-name
invariant-object_depth-loop-name l = max l.most (counted (fields_depth (fields_of (members_view l._name-iterator)))) ≡ counted (fields_depth (fields_of (members_view l.v.entries)))
