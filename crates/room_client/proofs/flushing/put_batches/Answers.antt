use Rattle.std.proofs.Common.{◌<◌, length, arith}
use Rattle.room_model.specs.Account.{actor, issued}
use Rattle.room_client.proofs.Sending.{one_more}
use Rattle.room_client.proofs.flushing.put_batches.Goals as goal

pub loop-at-preserved : goal.loop-at-preserved
loop-at-preserved g c =
    let e = c.args.editor.now in
    let within : c.loop-at.at < length (issued e) = omega (arith, c.loop-at-test.true, c.issued-at-end.ensures) in
    one_more (actor e) (issued e) c.loop-at.at _ _ _ _ _ within c.batch.ensures c.in_ok-of_ops.ensures
    c.in_ok-push.ensures.ok c.loop-at.invariant
