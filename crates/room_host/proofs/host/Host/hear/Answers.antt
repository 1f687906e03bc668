use Rattle.std.proofs.Common.{subst}
use Rattle.room_host.specs.Rests.{IsKept}
use Rattle.room_host.specs.Outcomes.{server_after}
use Rattle.room_host.specs.declared.outcomes.Heard.{Heard}
use Rattle.room_host.proofs.host.Host.hear.Goals as goal

pub returns-in-Ok-Stopped-clause-kept : goal.returns-in-Ok-Stopped-clause-kept
returns-in-Ok-Stopped-clause-kept g c told =
    let d = g.D.Disk in
    let new = c.hear.new.disk in
    subst
    (λ (r : Heard). IsKept (d.seen new) (d.images new (d.moment new)) (server_after r c.hear.new.server))
    c.in-Ok-Stopped.field-0-is (c.in-Ok-Stopped.ensures.kept told)
