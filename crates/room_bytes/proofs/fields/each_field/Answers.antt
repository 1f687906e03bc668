use Rattle.std.proofs.Common.{◌≡◌, ◌++◌, ◌∷◌, [], map}
use Rattle.std.proofs.lemmas.Result.{err_from_is_err_and}
use Rattle.std.proofs.lemmas.List.{map_push}
use Rattle.room_bytes.specs.Reading.{field_at, each_at, paired}
use Rattle.room_bytes.proofs.Loops.{goes_on, ends, is_done}
use Rattle.room_bytes.proofs.fields.each_field.Goals as goal

pub returns-in_err-field : goal.returns-in_err-field
returns-in_err-field c =
    let p = err_from_is_err_and c.from_residual.result c.from_residual.ensures.1 in
    rw (p.1, p.2) (ends field_at c.in_err-field.field-0.0 (map paired c.loop.fields.items) c.args.count c.loop.counter c.loop.rest.now (each_at field_at c.args.count c.args.bytes.now) c.loop-test.true c.in_err-field.ensures c.loop.invariant)

pub loop-preserved : goal.loop-preserved
loop-preserved c =
    let n = c.in_ok-field.field in
    let e : map paired c.push.new.self.items ≡ map paired c.loop.fields.items ++ paired n ∷ [] = rw c.in_ok-push.ensures.items (map_push _ c.loop.fields.items n) in
    rw e (goes_on field_at (map paired c.loop.fields.items) c.args.count c.loop.counter c.loop.rest.now (paired n) c.in_ok-field.after.now (each_at field_at c.args.count c.args.bytes.now) c.loop-test.true c.in_ok-field.ensures c.loop.invariant)

pub returns : goal.returns
returns c = is_done field_at (map paired c.loop.fields.items) c.args.count c.loop.counter c.loop.rest.now (each_at field_at c.args.count c.args.bytes.now) c.loop-test.false c.loop.invariant
