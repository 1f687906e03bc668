use Rattle.std.proofs.Common.{◌≡◌, ◌++◌, drop}
use Rattle.room_model.specs.Account.{actor, beyond, issued}
use Rattle.room_client.proofs.Sending.{texts}
use Rattle.room_client.proofs.flushing.put_left.Given as goal

abbrev pub invariant-loop-at : goal.invariant-loop-at
invariant-loop-at g l =
    l.frames ++ texts (actor l.editor) (beyond l.c (drop l.at (issued l.editor)))
    ≡ l.initial.frames ++ texts (actor l.editor) (beyond l.c (issued l.editor))
