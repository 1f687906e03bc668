use Rattle.std.proofs.Common.{rules}
use Rattle.room_journal.proofs.Onward.{so_far}
use Rattle.room_journal.proofs.records.read_records.Goals as goal

pub loop-size-preserved : goal.loop-size-preserved
loop-size-preserved c =
    so_far c.args.bytes.now c.args.start c.loop-size.at c.in-Some.size c.loop-size.bodies _ c.loop-size.invariant.left c.loop-size.invariant.sizes c.in-Some.ensures.some (search rules)
