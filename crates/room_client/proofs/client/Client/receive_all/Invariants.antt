use Rattle.std.proofs.Common.{drop}
use Rattle.room_client.proofs.Receipts.{IsSoFar}
use Rattle.room_client.proofs.client.Client.receive_all.Given as goal

abbrev pub invariant-loop-msg : goal.invariant-loop-msg
invariant-loop-msg g l = IsSoFar l.initial.self l.msgs l.so_far l.self (drop l.msg-index l.msgs)
