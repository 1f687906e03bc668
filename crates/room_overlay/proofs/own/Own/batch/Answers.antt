use Rattle.std.proofs.Common.{arith}
use Rattle.room_overlay.proofs.Batches.{end_fits, end_low, index_seen, part_seen, sizes_fit, start_low}
use Rattle.room_overlay.proofs.own.Own.batch.Goals as goal

pub before-start-requires : goal.before-start-requires
before-start-requires c =
    omega (
      arith,
      index_seen _ _ _ _ _ _ c.self.invariant.0 _ c.self.view_is c.args.i c.requires,
      c.as_slice.ensures.len,
      c.self.inside.lasts.ok.0,
    )

pub overflow_sub-start : goal.overflow_sub-start
overflow_sub-start c =
    start_low _ _ _ _ _ _ c.self.invariant.0 _ c.self.view_is c.args.i _
    (rw c.as_slice.ensures.value at c.before-start.ensures)

pub index-requires : goal.index-requires
index-requires c =
    omega (
      arith,
      index_seen _ _ _ _ _ _ c.self.invariant.0 _ c.self.view_is c.args.i c.requires,
      c.self.inside.lasts.ok.0,
    )

pub overflow_sub-index : goal.overflow_sub-index
overflow_sub-index c =
    end_low _ _ _ _ _ _ c.self.invariant.0 _ c.self.view_is c.args.i _ _ c.requires c.index.ensures
    (rw c.as_slice.ensures.value at c.before-start.ensures)

pub between-requires-clause-order : goal.between-requires-clause-order
between-requires-clause-order c =
    sizes_fit _ _ _ _ _ _ c.self.invariant.0 _ c.self.view_is c.args.i _ _ c.requires c.index.ensures
    (rw c.as_slice.ensures.value at c.before-start.ensures)

pub between-requires-clause-within : goal.between-requires-clause-within
between-requires-clause-within c =
    rw c.as_slice-2.ensures
    (end_fits _ _ _ _ _ _ c.self.invariant.0 _ c.self.view_is c.args.i _ _ c.requires c.index.ensures
    (rw c.as_slice.ensures.value at c.before-start.ensures))

pub returns : goal.returns
returns c =
    part_seen _ _ _ _ _ _ c.self.invariant.0 _ c.self.view_is c.args.i _ _ c.requires c.index.ensures
    (rw c.as_slice.ensures.value at c.before-start.ensures) _ (rw c.as_slice-2.ensures at c.between.ensures)
