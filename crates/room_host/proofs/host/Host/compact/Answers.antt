use Rattle.std.proofs.Common.{Bool, subst}
use Rattle.room_host.specs.Rests.{IsKept}
use Rattle.room_host.specs.Outcomes.{server_unless}
use Rattle.room_host.proofs.host.Host.compact.Goals as goal

pub returns-in-Ok-true-clause-kept : goal.returns-in-Ok-true-clause-kept
returns-in-Ok-true-clause-kept g c told =
    let d = g.D.Disk in
    let new = c.compact.new.disk in
    subst
    (λ (b : Bool). IsKept (d.seen new) (d.images new (d.moment new)) (server_unless b c.compact.new.server))
    c.in-Ok-true.field-0-test (c.in-Ok-true.ensures.kept told)
