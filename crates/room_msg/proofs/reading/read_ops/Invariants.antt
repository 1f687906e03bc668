use Rattle.std.proofs.Common.{◌≡◌, ◌++◌, map, drop, Ok}
use Rattle.room_json.specs.Fields.{and_then, each_in}
use Rattle.room_json.specs.View.{json_of}
use Rattle.room_msg.specs.Msg.{op_at}
use Rattle.room_msg.proofs.reading.read_ops.Given as goal

abbrev pub invariant-loop-value : goal.invariant-loop-value
invariant-loop-value l =
    and_then (each_in op_at (map json_of (drop l.value-index l.values))) (λ xs. Ok (l.ops ++ xs)) ≡ each_in op_at (map json_of l.values)
