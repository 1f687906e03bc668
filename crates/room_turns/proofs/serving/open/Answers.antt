use Rattle.std.proofs.Common.{◌+◌, sym, subst}
use Rattle.room_host.specs.Seen.{room_files}
use Rattle.room_replay.specs.Files.{Stands, StandsFor}
use Rattle.room_server.specs.Hosted.{Hosted}
use Rattle.room_store.specs.Consistent.{Since}
use Rattle.room_turns.specs.Turning.{IsServing}
use Rattle.room_turns.proofs.serving.open.Goals as goal

pub returns-in-Ok-clause-serving : goal.returns-in-Ok-clause-serving
returns-in-Ok-clause-serving g c told =
    let d = g.D.Disk in
    let e = c.in-Ok.ensures in
    subst
    (λ (h : Hosted). IsServing (d.seen c.recover.new.disk) (d.images c.recover.new.disk (d.moment c.recover.new.disk)) h)
    (sym c.with_access.ensures)
    (record { whole = e.whole; base = e.base; settled = e.settled told; holds = e.held told })

pub returns-in-Ok-clause-state : goal.returns-in-Ok-clause-state
returns-in-Ok-clause-state g c told =
    let d = g.D.Disk in
    subst (λ (h : Hosted). Stands h.store.state (room_files (d.seen c.args.disk.now))) (sym c.with_access.ensures)
    (c.in-Ok.ensures.state told)

pub returns-in-Ok-clause-since : goal.returns-in-Ok-clause-since
returns-in-Ok-clause-since g c told =
    let d = g.D.Disk in
    subst
    (λ (h : Hosted). Since (d.moment c.args.disk.now + 2) (d.moment c.recover.new.disk) (d.images c.recover.new.disk)
    (StandsFor 0 h.store.state)) (sym c.with_access.ensures) (c.in-Ok.ensures.since told)
