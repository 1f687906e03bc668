use Rattle.std.proofs.Common.{◌≡◌, ◌++◌, drop}
use Rattle.room_model.specs.Account.{actor, issued}
use Rattle.room_client.proofs.Sending.{texts}
use Rattle.room_client.proofs.flushing.put_batches.Given as goal

abbrev pub invariant-loop-at : goal.invariant-loop-at
invariant-loop-at g l =
    l.frames ++ texts (actor l.editor) (drop l.at (issued l.editor))
    ≡ l.initial.frames ++ texts (actor l.editor) (drop l.from (issued l.editor))
