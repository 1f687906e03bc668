use Rattle.std.proofs.Common.{◌≡◌, ◌++◌, ◌∷◌, [], map, length-append, subst, sym, arith}
use Rattle.std.proofs.lemmas.Result.{err_from_is_err_and}
use Rattle.std.proofs.lemmas.List.{map_push}
use Rattle.room_bytes.specs.declared.entries.Format.TheVariants.{Two}
use Rattle.room_bytes.specs.Bounds.{logged, HaveBytes}
use Rattle.room_bytes.specs.Reading.{entry_at, each_at}
use Rattle.room_bytes.proofs.Groups.{have_more}
use Rattle.room_bytes.proofs.Loops.{goes_on, ends, is_done}
use Rattle.room_bytes.proofs.reading.each_entry.Goals as goal

pub returns-in_err-entry-clause-value : goal.returns-in_err-entry-clause-value
returns-in_err-entry-clause-value c =
    let p = err_from_is_err_and c.from_residual.result c.from_residual.ensures.1 in
    rw (p.1, p.2) (ends (entry_at Two) c.in_err-entry.field-0.0 (map logged c.loop.entries) c.args.count c.loop.counter c.loop.rest.now (each_at (entry_at Two) c.args.count c.args.bytes.now) c.loop-test.true c.in_err-entry.ensures.value c.loop.invariant.read)

pub loop-preserved : goal.loop-preserved
loop-preserved c =
    let n = c.in_ok-entry.entry in
    let e : map logged c.push.new.self ≡ map logged c.loop.entries ++ logged n ∷ [] = rw c.in_ok-push.ensures.ok (map_push _ c.loop.entries n) in
    record {
      read = rw e (goes_on (entry_at Two) (map logged c.loop.entries) c.args.count c.loop.counter c.loop.rest.now (logged n) c.in_ok-entry.after.now (each_at (entry_at Two) c.args.count c.args.bytes.now) c.loop-test.true c.in_ok-entry.ensures.value c.loop.invariant.read);
      bounds = subst HaveBytes (sym e) (have_more (map logged c.loop.entries) (logged n) c.loop.invariant.bounds c.in_ok-entry.ensures.bounds);
      number = rw (c.in_ok-push.ensures.ok, length-append c.loop.entries (n ∷ [])) (omega arith);
    }

pub returns-clause-value : goal.returns-clause-value
returns-clause-value c = is_done (entry_at Two) (map logged c.loop.entries) c.args.count c.loop.counter c.loop.rest.now (each_at (entry_at Two) c.args.count c.args.bytes.now) c.loop-test.false c.loop.invariant.read
