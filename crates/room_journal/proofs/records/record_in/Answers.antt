use Rattle.room_journal.proofs.Onward.{whole, nonzero, to_the_end_of}
use Rattle.room_journal.proofs.records.record_in.Goals as goal

pub returns-clause-some : goal.returns-clause-some
returns-clause-some c = whole _ _ c.in-len5-up.len_at_least c.from_be_bytes-size.ensures (nonzero _ c.if-gate-eq0.false) (to_the_end_of _ _ _ c.if-size-after.false)
