use Rattle.std.proofs.Common.{◌≡◌, map, take, drop, Ok}
use Rattle.room_json.specs.Fields.{each_in}
use Rattle.room_msg.specs.Msg.{client_in}
use Rattle.room_msg.specs.Written.{client_out}
use Rattle.room_msg.proofs.sending.write_msgs.Given as goal

abbrev pub invariant-loop-msg : goal.invariant-loop-msg
invariant-loop-msg l =
    (l.items ≡ map client_out (take l.msg-index l.msgs))
    × (each_in client_in (map client_out (drop l.msg-index l.msgs)) ≡ Ok (drop l.msg-index l.msgs) → each_in client_in (map client_out l.msgs) ≡ Ok l.msgs)
