use Rattle.std.proofs.Common.{refl, arith}
use Rattle.room_ids.proofs.Spelled.{over_step}
use Rattle.room_script.proofs.numbers.value_up_to.Goals as goal

pub returns-then-next-from-clause-value : goal.returns-then-next-from-clause-value
returns-then-next-from-clause-value c =
    rw (over_step c.loop-byte.value c.args.most c.args.word.now c.loop-byte.byte-index c.loop-byte-test.true c.loop-byte.invariant.0 c.loop-byte.invariant.1 (omega arith)) refl
