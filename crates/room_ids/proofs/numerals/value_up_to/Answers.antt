use Rattle.std.proofs.Common.{refl, arith}
use Rattle.room_ids.proofs.Spelled.{over_step}
use Rattle.room_ids.proofs.numerals.value_up_to.Goals as goal

pub returns-then-value-most-clause-value : goal.returns-then-value-most-clause-value
returns-then-value-most-clause-value c =
    rw (over_step c.loop-c.value c.args.most c.args.t.now c.loop-c.c-index c.loop-c-test.true c.loop-c.invariant.0 c.loop-c.invariant.1 (omega arith)) refl
