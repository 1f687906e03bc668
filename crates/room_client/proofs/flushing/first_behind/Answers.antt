use Rattle.std.proofs.Common.{◌∙◌, ◌<◌, length, sym, arith}
use Rattle.room_model.specs.Account.{issued}
use Rattle.room_client.proofs.Sending.{behind_here, behind_more}
use Rattle.room_client.proofs.flushing.first_behind.Goals as goal

pub loop-at-preserved : goal.loop-at-preserved
loop-at-preserved g c =
    let i = c.loop-at.at in
    let bs = issued c.args.editor.now in
    let within : i < length bs = omega (arith, c.loop-at-test.true, c.issued.ensures) in (
      sym (behind_more 0 c.args.c bs i c.batch_last.result within c.batch_last.ensures (omega
          (arith, c.if-batch_last-c.true)))
          ∙ c.loop-at.invariant.0,
      omega (arith, within),
    )

pub returns-else-batch_last-c-clause-value : goal.returns-else-batch_last-c-clause-value
returns-else-batch_last-c-clause-value g c =
    let i = c.loop-at.at in
    let bs = issued c.args.editor.now in
    let within : i < length bs = omega (arith, c.loop-at-test.true, c.issued.ensures) in
    sym (behind_here 0 c.args.c bs i c.batch_last.result within c.batch_last.ensures (omega
    (arith, c.if-batch_last-c.false)))
    ∙ c.loop-at.invariant.0
