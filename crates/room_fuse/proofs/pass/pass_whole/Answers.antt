use Rattle.std.proofs.Common.{◌≡◌, ◌<◌, length, slice_index_or, rules, arith}
use Rattle.room_fuse.proofs.Rests.{rest_below, rest_torn, rest_no_longer, shorter_at}
use Rattle.room_fuse.proofs.Passing.{passed_same, passed_then, durable_then}
use Rattle.room_fuse.proofs.pass.pass_whole.Goals as goal

pub loop-held-init : goal.loop-held-init
loop-held-init g c = let d = g.D.Disk in record {
  passed = λ told. passed_same d.seen d.moment d.images c.args.disk.now c.args.held.now.items (c.requires told);
  no_more = omega arith;
  below = λ is. is;
  still_torn = λ is. is;
  durable = λ told f none some. absurd (some none);
  came = g.met.D.Disk.came_same c.args.disk.now;
  later = omega arith;
  inner_later = omega arith;
}

pub loop-held-smaller : goal.loop-held-smaller
loop-held-smaller g c =
    let there : c.index.result.now ≡ slice_index_or c.loop-held.held.items 0 c.index.result.now = search rules in
    let some : 0 < length c.loop-held.held.items = search rules in
    shorter_at c.loop-held.held.items c.pass_all.new.held.items c.index.result.now some there c.pass_all.ensures.rest c.in_ok-pass_all.ensures.none

pub loop-held-preserved : goal.loop-held-preserved
loop-held-preserved g c = let d = g.D.Disk in let so = c.loop-held.invariant in let next = c.pass_all.ensures in record {
  passed = λ told. passed_then d.seen d.moment d.images c.args.disk.now c.loop-held.disk c.pass_all.new.disk c.args.held.now.items c.loop-held.held.items c.pass_all.new.held.items (so.passed told) (next.passed told);
  no_more = omega (arith, so.no_more, rest_no_longer c.index.result.now.file c.loop-held.held.items c.pass_all.new.held.items next.rest);
  below = λ is. rest_below c.index.result.now.file c.loop-held.held.items c.pass_all.new.held.items next.rest (so.below is);
  still_torn = λ is. rest_torn c.index.result.now.file c.loop-held.held.items c.pass_all.new.held.items next.rest (so.still_torn is);
  durable = λ told f none some. durable_then d.seen d.moment d.images c.index.result.now.file f c.loop-held.disk c.pass_all.new.disk c.loop-held.held.items c.pass_all.new.held.items next.rest (next.spares told)
      (c.in_ok-pass_all.ensures.durable told) (λ before. so.durable told f before some) none;
  came = g.met.D.Disk.came_then _ _ _ so.came next.came;
  later = omega (arith, so.later, next.cause.later);
  inner_later = omega (arith, so.inner_later, next.cause.inner_later);
}

pub returns-in_err-pass_all-clause-below : goal.returns-in_err-pass_all-clause-below
returns-in_err-pass_all-clause-below g c is = rest_below c.index.result.now.file c.loop-held.held.items c.pass_all.new.held.items c.pass_all.ensures.rest (c.loop-held.invariant.below is)

pub returns-in_err-pass_all-clause-torn : goal.returns-in_err-pass_all-clause-torn
returns-in_err-pass_all-clause-torn g c is = rest_torn c.index.result.now.file c.loop-held.held.items c.pass_all.new.held.items c.pass_all.ensures.rest (c.loop-held.invariant.still_torn is)

pub returns-in_err-pass_all-clause-no_more : goal.returns-in_err-pass_all-clause-no_more
returns-in_err-pass_all-clause-no_more g c = omega (arith, c.loop-held.invariant.no_more, rest_no_longer c.index.result.now.file c.loop-held.held.items c.pass_all.new.held.items c.pass_all.ensures.rest)
