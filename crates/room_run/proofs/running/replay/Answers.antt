use Rattle.std.proofs.Common.{◌≡◌, ◌⊎◌, inl, inr, [], sym, subst}
use Rattle.std.specs.Io.KnownBytes.{Appends}
use Rattle.room_disk.proofs.Moments.{keeps_same}
use Rattle.room_host.proofs.Lying.{same_files}
use Rattle.room_host.specs.Faults.{IsFault}
use Rattle.room_host.specs.Seen.{room_files}
use Rattle.room_host.specs.declared.fault.HostFault.TheVariants as host
use Rattle.room_log.specs.Log.{State}
use Rattle.room_model.specs.World.{World}
use Rattle.room_moves.specs.Reading.{AllRead}
use Rattle.room_replay.specs.Files.{Files, Stands}
use Rattle.room_reread.proofs.Everywhere.{reads_everywhere}
use Rattle.room_script.specs.Forms.{lines_of}
use Rattle.room_valid.proofs.Files.{standing_valid}
use Rattle.room_world.specs.Seen.{world_on}
use Rattle.room_run.specs.Halting.{IsOfFiles, IsOfOpening, IsWhole}
use Rattle.room_run.specs.Running.{Runs}
use Rattle.room_run.proofs.Appending.{appends_none}
use Rattle.room_run.proofs.Halts.{of_files, of_opening, stand_whole}
use Rattle.room_run.proofs.Opening.{on_err, on_ok, opens_inner, replays_on, stands_seen}
use Rattle.room_run.proofs.Schedules.{runnables}
use Rattle.room_run.proofs.running.replay.Goals as goal

pub returns-in-Err-clause-replays : goal.returns-in-Err-clause-replays
returns-in-Err-clause-replays g c told can state stands =
    let d = g.D.Disk in
    let s = g.D.Stopping in
    let old = c.args.disk.now in
    let mid = c.new.new.disk in
    let bare = g.met.D.Stopping.plain_is_bare old c.requires.plain in
    let seen = stands_seen state (d.seen old) (s.inner_seen old) bare.reads stands in
    inl (
      record {
        opens = opens_inner (d.moment old) (d.moment mid) (d.images old) (d.images mid) state (s.inner_moment old)
            (s.inner_moment mid) (s.inner_images old) (s.inner_images mid) (s.inner_images mid)
            (g.met.D.Stopping.mirrors old mid told c.new.ensures.went) bare.images_left
            (c.new.ensures.images told state seen) (keeps_same (s.inner_moment mid) (s.inner_images mid));
        told = appends_none (g.K.Sink.written c.args.sink.now);
      },
      subst IsOfOpening (sym c.halt_of.ensures) (of_opening c.in-Err.fault),
    )

pub returns-in-Err-clause-files : goal.returns-in-Err-clause-files
returns-in-Err-clause-files g c told =
    let old = c.args.disk.now in
    let bare = g.met.D.Stopping.plain_is_bare old c.requires.plain in
    let seen = g.D.Disk.seen old in
    let inner = g.D.Stopping.inner_seen old in
    let f = c.in-Err.fault in
    let fault : (f ≡ host.Disk) ⊎ IsFault (room_files inner) f =
    subst (λ (fs : Files). (f ≡ host.Disk) ⊎ IsFault fs f) (same_files seen inner bare.reads)
    (c.in-Err.ensures.fault told) in
    inr (
      subst (IsOfFiles (room_files inner)) (sym c.halt_of.ensures) (of_files (room_files inner) f fault),
      appends_none (g.K.Sink.written c.args.sink.now),
    )

pub returns-in-Err-clause-whole : goal.returns-in-Err-clause-whole
returns-in-Err-clause-whole g c told state stands =
    let old = c.args.disk.now in
    let bare = g.met.D.Stopping.plain_is_bare old c.requires.plain in
    let seen = g.D.Disk.seen old in
    let inner = g.D.Stopping.inner_seen old in
    let f = c.in-Err.fault in
    let fault : (f ≡ host.Disk) ⊎ IsFault (room_files inner) f =
    subst (λ (fs : Files). (f ≡ host.Disk) ⊎ IsFault fs f) (same_files seen inner bare.reads)
    (c.in-Err.ensures.fault told) in
    subst IsWhole (sym c.halt_of.ensures) (stand_whole state (room_files inner) f stands fault)

pub play_all-requires-clause-runnable : goal.play_all-requires-clause-runnable
play_all-requires-clause-runnable g c =
    runnables c.args.lines.now c.requires.scheduled c.requires.lines.spelled

pub play_all-requires-clause-read : goal.play_all-requires-clause-read
play_all-requires-clause-read g c told can =
    let ls = lines_of c.args.lines.now in
    let found = c.in-Ok.ensures.state told in
    let valid = standing_valid 0 found.0 (g.D.Disk.seen c.args.disk.now) found.1 in
    subst (λ (w : World). AllRead w ls) (sym (c.in-Ok.ensures.world told found.0 found.1))
    (reads_everywhere found.0 ls valid c.requires.lines)

pub returns-clause-replays : goal.returns-clause-replays
returns-clause-replays g c told can state stands =
    let d = g.D.Disk in
    let s = g.D.Stopping in
    let k = g.K.Sink in
    let old = c.args.disk.now in
    let mid = c.new.new.disk in
    let new = c.play_all.new.disk in
    let ls = lines_of c.args.lines.now in
    let bare = g.met.D.Stopping.plain_is_bare old c.requires.plain in
    let seen = stands_seen state (d.seen old) (s.inner_seen old) bare.reads stands in
    let on = g.met.D.Stopping.mirrors mid new told c.play_all.ensures.went in
    let opened = opens_inner (d.moment old) (d.moment mid) (d.images old) (d.images mid) state (s.inner_moment old)
    (s.inner_moment mid) (s.inner_images old) (s.inner_images mid) (s.inner_images new)
    (g.met.D.Stopping.mirrors old mid told c.new.ensures.went) bare.images_left (c.new.ensures.images told state seen)
    on.inner_keeps in
    let v = world_on d.seen s.armed s.way c.play_all.new.world new in
    let runs = subst (λ (w : World). Runs c.play_all.result (s.inner_images new) w ls (k.written c.args.sink.now)
    (k.written c.play_all.new.sink) (s.inner_moment mid) (s.inner_moment new) v)
    (c.in-Ok.ensures.world told state seen) (c.play_all.ensures.runs told can) in
    replays_on c.play_all.result (s.inner_images new) state ls (k.written c.args.sink.now)
    (k.written c.play_all.new.sink) (s.inner_moment old) (s.inner_moment mid) (s.inner_moment new) v opened runs

pub returns-clause-stood : goal.returns-clause-stood
returns-clause-stood g c told =
    let old = c.args.disk.now in
    let bare = g.met.D.Stopping.plain_is_bare old c.requires.plain in
    let inner = g.D.Stopping.inner_seen old in
    let found = c.in-Ok.ensures.state told in
    on_ok c.play_all.result ((x : State) × Stands x (room_files inner))
    (found.0, stands_seen found.0 inner (g.D.Disk.seen old) (λ f. sym (bare.reads f)) found.1)

pub returns-clause-files : goal.returns-clause-files
returns-clause-files g c told =
    let old = c.args.disk.now in
    let bare = g.met.D.Stopping.plain_is_bare old c.requires.plain in
    let inner = g.D.Stopping.inner_seen old in
    let found = c.in-Ok.ensures.state told in
    on_err c.play_all.result ((x : State) × Stands x (room_files inner))
    (λ e. IsOfFiles (room_files inner) e
    × Appends (g.K.Sink.written c.args.sink.now) (g.K.Sink.written c.play_all.new.sink) [])
    (found.0, stands_seen found.0 inner (g.D.Disk.seen old) (λ f. sym (bare.reads f)) found.1)
