use Rattle.std.proofs.Common.{◌≡◌, ℕ, drop, min, max, ◌-◌, ◌^◌}
use Rattle.serde_json.specs.Data.{items_depth, members_depth}
use Rattle.serde_json.specs.View.{items_view, members_view as object_view}
use Rattle.room_json.proofs.parse.+value_depth.Given as goal

abbrev pub counted : ℕ → ℕ
counted n = min n (2 ^ 64 - 1)

abbrev pub invariant-array_depth-loop-value : goal.invariant-array_depth-loop-value
invariant-array_depth-loop-value l = max l.most (counted (items_depth (items_view (drop l.value-index l.values)))) ≡ counted (items_depth (items_view l.values))

abbrev pub invariant-object_depth-loop-name : goal.invariant-object_depth-loop-name
invariant-object_depth-loop-name l = max l.most (counted (members_depth (object_view l._name-iterator))) ≡ counted (members_depth (object_view l.map.entries))
