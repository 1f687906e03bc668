use Rattle.std.proofs.Common.{◌≡◌, ◌++◌, ◌∷◌, [], map}
use Rattle.std.proofs.lemmas.Result.{err_from_is_err_and}
use Rattle.std.proofs.lemmas.List.{map_push}
use Rattle.room_bytes.specs.Reading.{each_at}
use Rattle.room_bytes.proofs.Loops.{goes_on, ends, is_done}
use Rattle.room_snapshot.specs.Bounds.{rowed}
use Rattle.room_snapshot.specs.Reading.{row_at}
use Rattle.room_snapshot.proofs.reading.each_row.Goals as goal

pub returns-in_err-row : goal.returns-in_err-row
returns-in_err-row c =
    let p = err_from_is_err_and c.from_residual.result c.from_residual.ensures.1 in
    rw (p.1, p.2) (ends row_at c.in_err-row.field-0.0
    (map rowed c.loop.rows) c.args.count c.loop.counter c.loop.rest.now
    (each_at row_at c.args.count c.args.bytes.now) c.loop-test.true c.in_err-row.ensures c.loop.invariant)

pub loop-preserved : goal.loop-preserved
loop-preserved c =
    let n = c.in_ok-row.row in
    let e : map rowed c.push.new.self ≡ map rowed c.loop.rows ++ rowed n ∷ [] =
    rw c.in_ok-push.ensures.ok (map_push _ c.loop.rows n) in
    rw e (goes_on row_at (map rowed c.loop.rows) c.args.count c.loop.counter c.loop.rest.now
    (rowed n) c.in_ok-row.after.now
    (each_at row_at c.args.count c.args.bytes.now) c.loop-test.true c.in_ok-row.ensures c.loop.invariant)

pub returns : goal.returns
returns c = is_done row_at (map rowed c.loop.rows) c.args.count c.loop.counter c.loop.rest.now
    (each_at row_at c.args.count c.args.bytes.now) c.loop-test.false c.loop.invariant
