use Rattle.std.proofs.Common.{map, arith}
use Rattle.room_bytes.specs.Bounds.{logged}
use Rattle.room_bytes.proofs.Groups.{groups_once}
use Rattle.room_bytes.proofs.reading.read_group.Goals as goal

pub returns-in-Ok-clause-found : goal.returns-in-Ok-clause-found
returns-in-Ok-clause-found c =
    (c.in-Ok.ensures.bounds, (groups_once c.args.b.now (map logged c.in-Ok.entries) (λ i. omega (arith, c.type_inv.b i)) c.in-Ok.ensures.value).0)
