use Rattle.room_server.proofs.Breaking.{store_whole}
use Rattle.room_server.proofs.Carrying.{commits_ok, commits_err, stops_ok, stops_err}
use Rattle.room_server.proofs.Putting.{puts, stops}
use Rattle.room_server.proofs.Standing.{holds_state}
use Rattle.room_server.proofs.turning.finish.Goals as goal

pub returns-in-Ok-clause-puts : goal.returns-in-Ok-clause-puts
returns-in-Ok-clause-puts g c told whole =
    let d = g.D.Disk in
    let s = c.args.store.now in
    let q = c.commit.new.self.place in
    let e = c.in-Ok.ensures in
    puts d.seen d.moment d.images s.place q c.args.disk.now c.commit.new.disk _ s.before s.state
    c.args.draft.group c.requires.group e.none
    (λ t is. commits_ok d.seen d.moment d.images s.place q t s.state c.args.disk.now c.commit.new.disk _ _
    (e.commits told whole t is))

pub returns-in-Ok-clause-stop : goal.returns-in-Ok-clause-stop
returns-in-Ok-clause-stop g c told can still whole =
    let d = g.D.Disk in
    let s = c.args.store.now in
    let e = c.in-Ok.ensures in
    stops d.seen d.moment d.stopped d.leaves s.place.base c.args.disk.now c.commit.new.disk _ s.before s.state
    c.args.draft.group c.requires.group e.none
    (λ t is. stops_ok d.seen d.moment d.stopped d.leaves s.place.base t s.state c.args.disk.now c.commit.new.disk _ _
    (e.stop told can still whole t is))

pub returns-in-Ok-clause-held : goal.returns-in-Ok-clause-held
returns-in-Ok-clause-held g c told image each =
    let s = c.commit.new.self in
    let e = c.in-Ok.ensures in
    holds_state s _ _ (e.settled told) (store_whole c.args.store.now.broken s.broken _ e.broken) e.closed image each

pub returns-in-Err-clause-puts : goal.returns-in-Err-clause-puts
returns-in-Err-clause-puts g c told whole =
    let d = g.D.Disk in
    let s = c.args.store.now in
    let q = c.commit.new.self.place in
    let e = c.in-Err.ensures in
    puts d.seen d.moment d.images s.place q c.args.disk.now c.commit.new.disk _ s.before s.state
    c.args.draft.group c.requires.group e.none
    (λ t is. commits_err d.seen d.moment d.images s.place q t s.state c.args.disk.now c.commit.new.disk _ _
    (e.commits told whole t is))

pub returns-in-Err-clause-stop : goal.returns-in-Err-clause-stop
returns-in-Err-clause-stop g c told can still whole =
    let d = g.D.Disk in
    let s = c.args.store.now in
    let e = c.in-Err.ensures in
    stops d.seen d.moment d.stopped d.leaves s.place.base c.args.disk.now c.commit.new.disk _ s.before s.state
    c.args.draft.group c.requires.group e.none
    (λ t is. stops_err d.seen d.moment d.stopped d.leaves s.place.base t s.state c.args.disk.now c.commit.new.disk _ _
    (e.stop told can still whole t is))
