use Rattle.std.proofs.Common.{◌≡◌, subst}
use Rattle.std.specs.Prelude.{None}
use Rattle.room_store.specs.Calls.{Compacts}
use Rattle.room_server.specs.Hosted.{Hosted, broken_by}
use Rattle.room_server.proofs.Breaking.{unbroken}
use Rattle.room_server.proofs.Carrying.{compacts_ok, compacts_err}
use Rattle.room_server.proofs.server.Server.compact.Goals as goal
use Rattle.room_server.proofs.server.Server.compact.Goals.{in-Ok, in-Err}

pub returns-clause-compacts : goal.returns-clause-compacts
returns-clause-compacts g c told =
    let d = g.D.Disk in
    let i = c.self.inside in
    let r = c.compact.result in
    let z = c.match-compact.result in
    let q = c.compact.new.self.place in
    let old = c.args.disk.now in
    let new = c.compact.new.disk in
    let p = i.store.place in
    let s = i.store.state in
    subst
    (λ (h : Hosted). broken_by h ≡ None → Compacts d.seen d.moment d.images h.store.place q h.store.state old new z)
    c.self.view_is
    (λ whole.
    let at = c.compact.ensures.compacts told (unbroken i.spent i.store.broken whole) in
    elim c.match-compact.branch [
      | in-Ok w ↦ compacts_ok d.seen d.moment d.images p q s s old new r z _ _ w.in-Ok.is w.result-is at
      | in-Err w ↦ compacts_err d.seen d.moment d.images p q s s old new r z _ _ w.in-Err.is w.result-is at
    ])
