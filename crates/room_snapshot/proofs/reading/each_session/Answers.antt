use Rattle.std.proofs.Common.{◌≡◌, ◌++◌, ◌∷◌, [], map}
use Rattle.std.proofs.lemmas.Result.{err_from_is_err_and}
use Rattle.std.proofs.lemmas.List.{map_push}
use Rattle.room_bytes.specs.Reading.{each_at}
use Rattle.room_bytes.proofs.Loops.{goes_on, ends, is_done}
use Rattle.room_snapshot.specs.Bounds.{kept}
use Rattle.room_snapshot.specs.Reading.{session_at}
use Rattle.room_snapshot.proofs.reading.each_session.Goals as goal

pub returns-in_err-session : goal.returns-in_err-session
returns-in_err-session c =
    let p = err_from_is_err_and c.from_residual.result c.from_residual.ensures.1 in
    rw (p.1, p.2) (ends (session_at c.args.f) c.in_err-session.field-0.0
    (map kept c.loop.sessions) c.args.count c.loop.counter c.loop.rest.now
    (each_at (session_at c.args.f) c.args.count c.args.bytes.now) c.loop-test.true c.in_err-session.ensures
    c.loop.invariant)

pub loop-preserved : goal.loop-preserved
loop-preserved c =
    let n = c.in_ok-session.session in
    let e : map kept c.push.new.self ≡ map kept c.loop.sessions ++ kept n ∷ [] =
    rw c.in_ok-push.ensures.ok (map_push _ c.loop.sessions n) in
    rw e (goes_on (session_at c.args.f) (map kept c.loop.sessions) c.args.count c.loop.counter c.loop.rest.now
    (kept n) c.in_ok-session.after.now
    (each_at (session_at c.args.f) c.args.count c.args.bytes.now) c.loop-test.true c.in_ok-session.ensures
    c.loop.invariant)

pub returns : goal.returns
returns c = is_done (session_at c.args.f) (map kept c.loop.sessions) c.args.count c.loop.counter c.loop.rest.now
    (each_at (session_at c.args.f) c.args.count c.args.bytes.now) c.loop-test.false c.loop.invariant
