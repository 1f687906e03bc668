use Rattle.std.proofs.Common.{subst}
use Rattle.room_journal.proofs.Onward.{moved, if_some, to_the_end}
use Rattle.room_journal.specs.Found.{IsRecordIn}
use Rattle.room_journal.proofs.records.record_at.Goals as goal

pub returns-clause-some : goal.returns-clause-some
returns-clause-some c = if_some _ _ _ (λ n is. moved _ _ n c.requires (subst (λ l. IsRecordIn l n) (to_the_end c.args.bytes.now c.args.at) is)) c.record_in.ensures.some
