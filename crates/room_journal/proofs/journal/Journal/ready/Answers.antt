use Rattle.std.proofs.Common.{rules}
use Rattle.room_journal.proofs.Written.{made_record}
use Rattle.room_journal.proofs.journal.Journal.ready.Goals as goal

pub returns : goal.returns
returns c = record { ready = made_record _ _ (search rules) (search rules) }
