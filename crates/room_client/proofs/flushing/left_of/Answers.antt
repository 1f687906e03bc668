use Rattle.std.proofs.Common.{◌∙◌, arith}
use Rattle.room_client.proofs.Sending.{none_left, some_left}
use Rattle.room_client.proofs.flushing.left_of.Goals as goal

pub returns-then-clock-c : goal.returns-then-clock-c
returns-then-clock-c c = λ a first bs e.
    none_left a c.args.c first c.clock-clock.result bs c.args.ops.now c.first-item.result e
    (omega (arith, c.in-len1-up.len_at_least)) c.first-item.is c.clock-clock.ensures.value
    (omega (arith, c.if-clock-c.true))

pub returns-else-clock-c : goal.returns-else-clock-c
returns-else-clock-c c = λ a first bs e.
    c.skip.ensures
    ∙ some_left a c.args.c first c.clock-clock.result bs c.args.ops.now c.first-item.result e
    (omega (arith, c.in-len1-up.len_at_least)) c.first-item.is c.clock-clock.ensures.value
    (omega (arith, c.if-clock-c.false))
