use Rattle.std.proofs.Common.{◌≡◌, ◌⊎◌, inl, sym, subst, rules, arith, []}
use Rattle.std.proofs.Math.Nat.{le_trans}
use Rattle.std.specs.Prelude.{Err, Result, option_map}
use Rattle.room_access.specs.View.{access_of}
use Rattle.room_host.specs.Seen.{room_files}
use Rattle.room_log.specs.Log.{State}
use Rattle.room_model.specs.Server.{Server}
use Rattle.room_replay.specs.Files.{Stands}
use Rattle.room_serving.specs.Serving as serving
use Rattle.room_turns.specs.Faults.{IsOfFiles}
use Rattle.room_turns.specs.Parts.{gathering}
use Rattle.room_turns.specs.Serves.{Served, Opened, ServesRoom}
use Rattle.room_turns.specs.declared.ended.Ended.{Ended}
use Rattle.room_turns.specs.declared.fault.ServeFault.{ServeFault}
use Rattle.room_turns.specs.declared.fault.ServeFault.TheVariants.{Disk}
use Rattle.room_turns.proofs.Causes.{rose_from, handed_on, no_hub, all_errs}
use Rattle.room_turns.proofs.Happening.{on_ok}
use Rattle.room_turns.proofs.Opening.{one_state, unopened, opened_then, serves_room}
use Rattle.room_turns.proofs.serving.serve.Goals as goal

pub returns-in_err-server-clause-served : goal.returns-in_err-server-clause-served
returns-in_err-server-clause-served g c told tells s stands =
    let d = g.D.Disk in
    let h = g.H.Hub in
    let fault = c.in_err-server.field-0.0 in
    let failed : c.from_residual.result ≡ Err fault = search rules in
    subst
    (λ (r : Result Ended ServeFault). ServesRoom s c.args.room.now (option_map access_of c.args.access) c.args.turns
    (h.happened c.args.hub.now) (h.happened c.args.hub.now) (d.seen c.args.disk.now) (d.seen c.open.new.disk)
    (d.images c.open.new.disk) (d.moment c.args.disk.now) (d.moment c.open.new.disk) r) (sym failed)
    (inl (unopened d.seen d.moment d.images s (h.happened c.args.hub.now) c.args.disk.now c.open.new.disk fault
    (c.in_err-server.ensures.fault told) (c.open.ensures.moments told s stands)))

pub returns-in_err-server-clause-causes : goal.returns-in_err-server-clause-causes
returns-in_err-server-clause-causes g c =
    let fault = c.in_err-server.field-0.0 in
    let failed : c.from_residual.result ≡ Err fault = search rules in
    let cause = c.open.ensures.cause in
    record {
      later = cause.later;
      inner_later = cause.inner_later;
      hub_later = omega arith;
      disk = λ e. cause.failed (handed_on c.from_residual.result c.open.result fault Disk failed c.in_err-server.was e);
      inner_disk = λ going e.
          cause.inner_failed going
          (handed_on c.from_residual.result c.open.result fault Disk failed c.in_err-server.was e);
      hub = λ e. absurd (no_hub c.from_residual.result fault failed c.in_err-server.ensures.of_opening e);
    }

pub returns-clause-served : goal.returns-clause-served
returns-clause-served g c told tells s stands =
    let d = g.D.Disk in
    let h = g.H.Hub in
    let server = c.in_ok-server.server in
    let made = c.in_ok-server.ensures in
    let t = server.store.state in
    let access = option_map access_of c.args.access in
    let same : t ≡ s = one_state t s (room_files (d.seen c.args.disk.now)) (made.state told) stands in
    let ran : Served t (serving.opening t c.args.room.now access c.args.turns) (h.happened c.args.hub.now)
    (h.happened c.run.new.hub) (d.seen c.run.new.disk) (d.images c.run.new.disk) (d.moment c.open.new.disk)
    (d.moment c.open.new.disk) (d.moment c.run.new.disk) c.run.result =
    subst
    (λ (v : Server). Served t (gathering v c.args.turns serving.GoesOn [] [] 0) (h.happened c.args.hub.now)
    (h.happened c.run.new.hub) (d.seen c.run.new.disk) (d.images c.run.new.disk) (d.moment c.open.new.disk)
    (d.moment c.open.new.disk) (d.moment c.run.new.disk) c.run.result) made.server (c.run.ensures.served told tells) in
    serves_room s c.args.room.now access c.args.turns (h.happened c.args.hub.now) (h.happened c.run.new.hub)
    (d.seen c.args.disk.now) (d.seen c.run.new.disk) (d.images c.run.new.disk) (d.moment c.args.disk.now)
    (d.moment c.run.new.disk) c.run.result
    (subst
    (λ (x : State). Opened x c.args.room.now access c.args.turns (h.happened c.args.hub.now)
    (h.happened c.run.new.hub) (d.seen c.args.disk.now) (d.seen c.run.new.disk) (d.images c.run.new.disk)
    (d.moment c.args.disk.now) (d.moment c.run.new.disk) c.run.result) same
    (opened_then d.seen d.moment d.images t c.args.room.now access c.args.turns (h.happened c.args.hub.now)
    (h.happened c.run.new.hub) c.args.disk.now c.open.new.disk c.run.new.disk c.run.result
    (c.open.ensures.bound told) (λ still. made.two told still) (c.open.ensures.moments told t (made.state told))
    (made.since told) (c.run.ensures.keeps told tells) ran))

pub returns-clause-stood : goal.returns-clause-stood
returns-clause-stood g c told =
    on_ok c.run.result _ (c.in_ok-server.server.store.state, c.in_ok-server.ensures.state told)

pub returns-clause-files : goal.returns-clause-files
returns-clause-files g c told =
    let d = g.D.Disk in
    all_errs c.run.result
    (λ (e : ServeFault). ((s : State) × Stands s (room_files (d.seen c.args.disk.now)))
    ⊎ (IsOfFiles (room_files (d.seen c.args.disk.now)) e × (c.run.new.hub ≡ c.args.hub.now)))
    (λ e. inl (c.in_ok-server.server.store.state, c.in_ok-server.ensures.state told))

pub returns-clause-came : goal.returns-clause-came
returns-clause-came g c =
    g.met.D.Disk.came_then c.args.disk.now c.open.new.disk c.run.new.disk c.open.ensures.came c.run.ensures.came

pub returns-clause-causes : goal.returns-clause-causes
returns-clause-causes g c =
    let d = g.D.Disk in
    let first = c.open.ensures.cause in
    let then = c.run.ensures.causes in
    record {
      later = le_trans first.later then.later;
      inner_later = le_trans first.inner_later then.inner_later;
      hub_later = then.hub_later;
      disk = λ e.
          rose_from (d.faults c.args.disk.now) (d.faults c.open.new.disk) (d.faults c.run.new.disk) first.later
          (then.disk e);
      inner_disk = λ going e.
          rose_from (d.inner_faults c.args.disk.now) (d.inner_faults c.open.new.disk) (d.inner_faults c.run.new.disk)
          first.inner_later (then.inner_disk going e);
      hub = then.hub;
    }
