use Rattle.std.proofs.Common.{ℕ, subst}
use Rattle.room_store.specs.Consistent.{AreWritten}
use Rattle.room_store.specs.Stored.{held}
use Rattle.room_store.specs.declared.fault.StoreFault.{StoreFault}
use Rattle.room_server.proofs.Breaking.{unbroken}
use Rattle.room_host.proofs.Written.{settled_written}
use Rattle.room_host.proofs.Compacting.{still_going}
use Rattle.room_host.proofs.starting.open.Goals as goal

pub returns-in-Ok-clause-kept : goal.returns-in-Ok-clause-kept
returns-in-Ok-clause-kept g c told =
    let d = g.D.Disk in
    let e = c.in-Ok.ensures in
    let h = c.in-Ok.server in
    let new = c.recover.new.disk in
    record {
      whole = e.whole;
      base = e.base;
      settled = e.settled told;
      holds = record {
        stands = e.held told;
        written = λ image each.
            subst (λ (b : ℕ). AreWritten b image) e.base
            (settled_written h.store.place (held h.store) (d.seen new) (d.images new (d.moment new))
            (e.settled told (unbroken h.spent h.store.broken e.whole)) image each);
      };
    }

pub returns-in-Ok-clause-rests : goal.returns-in-Ok-clause-rests
returns-in-Ok-clause-rests g c told can rests =
    let e = c.in-Ok.ensures in
    record {
      going = still_going StoreFault g.D.Disk.stopped c.args.disk.now c.recover.new.disk c.in-Ok.server e.stop_fails
          rests.going;
      clean = e.clean told can rests.going rests.clean;
    }
