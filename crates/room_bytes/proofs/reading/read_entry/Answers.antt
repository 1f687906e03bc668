use Rattle.room_bytes.specs.Bounds.{logged}
use Rattle.room_bytes.proofs.Once.{entries_once}
use Rattle.room_bytes.proofs.reading.read_entry.Goals as goal

pub returns-in-Ok-clause-found : goal.returns-in-Ok-clause-found
returns-in-Ok-clause-found c =
    (c.in-Ok.ensures.bounds, (entries_once c.args.f c.args.b.now (logged c.in-Ok.entry) c.in-Ok.ensures.value).0)
