use Rattle.std.proofs.Common.{◌<◌, length, arith}
use Rattle.room_model.specs.Account.{actor, issued}
use Rattle.room_client.proofs.Sending.{left_step}
use Rattle.room_client.proofs.flushing.put_left.Goals as goal

pub loop-at-preserved : goal.loop-at-preserved
loop-at-preserved g c =
    let e = c.args.editor.now in
    let within : c.loop-at.at < length (issued e) = omega (arith, c.loop-at-test.true, c.issued-at-end.ensures) in
    left_step (actor e) c.args.c (issued e) c.loop-at.at _ _ _ _ _ within c.batch_last.ensures c.batch.ensures
    c.in_ok-put_rest.ensures c.loop-at.invariant
