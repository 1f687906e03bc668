use Rattle.std.proofs.Common.{◌≡◌, ◌++◌, map, drop, option_map}
use Rattle.room_json.specs.View.{json_of}
use Rattle.room_items.specs.Items.{rows_in}
use Rattle.room_items.proofs.reading.read_rows.Given as goal

abbrev pub invariant-loop-v : goal.invariant-loop-v
invariant-loop-v l = option_map (λ rs. l.rows ++ rs) (rows_in (map json_of (drop l.v-index l.items))) ≡ rows_in (map json_of l.items)
