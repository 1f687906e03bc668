use Rattle.std.proofs.Common.{◌≡◌, drop}
use Rattle.room_model.specs.Server.{has_hello}
use Rattle.room_arrivals.proofs.session.has_hello.Given as goal

abbrev pub invariant-loop-msg : goal.invariant-loop-msg
invariant-loop-msg l = has_hello (drop l.msg-index l.msgs) ≡ has_hello l.msgs
