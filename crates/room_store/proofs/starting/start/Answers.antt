use Rattle.std.proofs.Common.{◌≡◌, ◌+◌, ◌≤◌, ◌∙◌, ap, sym, subst}
use Rattle.room_snapshot.specs.Bounds.{state_of}
use Rattle.room_replay.specs.Files.{StandsFor, files}
use Rattle.room_disk.specs.Model.{Within}
use Rattle.room_store.proofs.Finding.{ok_is, all_ok, still_old, old_then, stands_same, still_same, still_elsewhere, elsewhere_then, since_of, goes_on}
use Rattle.room_store.proofs.starting.start.Goals as goal

pub returns-in-Ok-clause-any_moment : goal.returns-in-Ok-clause-any_moment
returns-in-Ok-clause-any_moment g c told s is =
    let seen = g.D.Disk.seen c.args.disk.now in
    let later = g.D.Disk.seen c.recover.new.disk in
    old_then _ _ _ _ _ _ (StandsFor c.args.base s) (c.recover.ensures.within told)
    (c.resume.ensures.any_moment told s (stands_same c.args.base s seen later (c.recover.ensures.same told) is))

pub returns-in-Ok-clause-since : goal.returns-in-Ok-clause-since
returns-in-Ok-clause-since g c told =
    let later = g.D.Disk.seen c.recover.new.disk in
    since_of c.resume.result (λ s. state_of s.state.count s.state.sessions (g.T.Tree.nodes s.state.tree)) c.args.base _ _ _ _ _
    (files c.args.base (later c.args.base) (later (c.args.base + 1))) (c.resume.ensures.state told) (c.resume.ensures.any_moment told)
    (ok_is c.recover.result _ _ (c.recover.ensures.counted told) c.in-Ok.is)

pub returns-in-Ok-clause-clean : goal.returns-in-Ok-clause-clean
returns-in-Ok-clause-clean g c told stops still clean =
    c.resume.ensures.clean told stops (goes_on c.recover.result _ _ c.in-Ok.is c.recover.ensures.stop_fails)
    (ok_is c.recover.result _ _ (c.recover.ensures.clean told stops still clean) c.in-Ok.is)

pub returns-in-Err-clause-any_moment : goal.returns-in-Err-clause-any_moment
returns-in-Err-clause-any_moment g c told s is = still_old _ _ _ _ (StandsFor c.args.base s) (c.recover.ensures.within told)

pub returns-in-Ok-clause-two : goal.returns-in-Ok-clause-two
returns-in-Ok-clause-two g c told still =
    let d = g.D.Disk in
    let old = c.args.disk.now in
    let mid = c.recover.new.disk in
    let same : c.resume.new.disk ≡ mid = c.resume.ensures.still told (still_same c.args.base (d.seen old) (d.seen mid) (c.recover.ensures.same told) still) in
    subst (λ e. d.moment e ≤ d.moment old + 2) (sym same) (c.recover.ensures.most told)

pub returns-in-Ok-clause-counted : goal.returns-in-Ok-clause-counted
returns-in-Ok-clause-counted g c told still =
    let d = g.D.Disk in
    let old = c.args.disk.now in
    let mid = c.recover.new.disk in
    let same : c.resume.new.disk ≡ mid = c.resume.ensures.still told (still_same c.args.base (d.seen old) (d.seen mid) (c.recover.ensures.same told) still) in
    all_ok c.resume.result _ (ap d.moment same ∙ ok_is c.recover.result _ _ (c.recover.ensures.counted told) c.in-Ok.is)

pub returns-in-Ok-clause-still : goal.returns-in-Ok-clause-still
returns-in-Ok-clause-still g c told still =
    let d = g.D.Disk in
    let old = c.args.disk.now in
    let mid = c.recover.new.disk in
    let same : c.resume.new.disk ≡ mid = c.resume.ensures.still told (still_same c.args.base (d.seen old) (d.seen mid) (c.recover.ensures.same told) still) in
    subst (λ e. Within d.moment d.images old e (d.images old (d.moment old))) (sym same) (c.recover.ensures.within told)

pub returns-in-Ok-clause-elsewhere : goal.returns-in-Ok-clause-elsewhere
returns-in-Ok-clause-elsewhere g c told = elsewhere_then c.args.base _ _ _ _ _ _ (c.recover.ensures.within told) (c.resume.ensures.elsewhere told)

pub returns-in-Err-clause-elsewhere : goal.returns-in-Err-clause-elsewhere
returns-in-Err-clause-elsewhere g c told = still_elsewhere c.args.base _ _ _ _ (c.recover.ensures.within told)
