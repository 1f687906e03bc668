use Rattle.std.proofs.Common.{◌≡◌, ◌++◌, map, drop, Ok}
use Rattle.room_json.specs.Fields.{and_then, each_in}
use Rattle.room_json.specs.View.{json_of}
use Rattle.room_msg.specs.Msg.{client_in}
use Rattle.room_msg.proofs.reading.read_msgs.Given as goal

abbrev pub invariant-loop-value : goal.invariant-loop-value
invariant-loop-value l =
    and_then (each_in client_in (map json_of (drop l.value-index l.values))) (λ xs. Ok (l.msgs ++ xs)) ≡ each_in client_in (map json_of l.values)
