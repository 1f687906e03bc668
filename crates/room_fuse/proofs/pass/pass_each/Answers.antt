use Rattle.std.proofs.Common.{arith}
use Rattle.room_fuse.proofs.Firsts.{rest_same}
use Rattle.room_fuse.proofs.Rests.{rest_then}
use Rattle.room_fuse.proofs.Passing.{passed_same, passed_then, spares_same, spares_then}
use Rattle.room_fuse.proofs.pass.pass_each.Goals as goal

pub loop-init : goal.loop-init
loop-init g c = let d = g.D.Disk in record {
  passed = λ told. passed_same d.seen d.moment d.images c.args.disk.now c.args.held.now.items (c.requires told);
  spares = λ told. spares_same d.seen d.moment d.images c.args.file c.args.disk.now;
  rest = rest_same c.args.file c.args.held.now.items;
  came = g.met.D.Disk.came_same c.args.disk.now;
  later = omega arith;
  inner_later = omega arith;
}

pub returns-in_err-pass_next-clause-rest : goal.returns-in_err-pass_next-clause-rest
returns-in_err-pass_next-clause-rest g c = rest_then c.args.file _ _ _ c.loop.invariant.rest c.pass_next.ensures.rest

pub loop-preserved : goal.loop-preserved
loop-preserved g c = let d = g.D.Disk in let so = c.loop.invariant in let next = c.pass_next.ensures in record {
  passed = λ told. passed_then d.seen d.moment d.images c.args.disk.now c.loop.disk c.pass_next.new.disk c.args.held.now.items c.loop.held.items c.pass_next.new.held.items (so.passed told) (next.passed told);
  spares = λ told. spares_then d.seen d.moment d.images c.args.file c.args.disk.now c.loop.disk c.pass_next.new.disk (so.spares told) (next.spares told);
  rest = rest_then c.args.file _ _ _ so.rest next.rest;
  came = g.met.D.Disk.came_then _ _ _ so.came next.came;
  later = omega (arith, so.later, next.cause.later);
  inner_later = omega (arith, so.inner_later, next.cause.inner_later);
}

pub returns-clause-rest : goal.returns-clause-rest
returns-clause-rest g c = rest_then c.args.file _ _ _ c.loop.invariant.rest c.pass_next.ensures.rest
