use Rattle.std.proofs.Common.{◌∙◌}
use Rattle.room_overlay.proofs.Keeping.{last_clock_is}
use Rattle.room_overlay.proofs.own.last_clock.Goals as goal

pub returns-in-Some-clause-some : goal.returns-in-Some-clause-some
returns-in-Some-clause-some c = λ a told run long.
    c.clock.ensures.value
    ∙ last_clock_is a told c.args.ops.now c.in-Some.op.now run long c.in-Some.ensures.value
