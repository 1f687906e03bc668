use Rattle.std.proofs.Common.{◌≡◌, ◌++◌, drop}
use Rattle.room_model.specs.Server.{all_ops_in}
use Rattle.room_arrivals.proofs.session.all_ops.Given as goal

abbrev pub invariant-loop-msg : goal.invariant-loop-msg
invariant-loop-msg l = l.all ++ all_ops_in (drop l.msg-index l.msgs) ≡ all_ops_in l.msgs
