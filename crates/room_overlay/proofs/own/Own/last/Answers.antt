use Rattle.std.proofs.Common.{arith}
use Rattle.room_overlay.proofs.Batches.{runs_seen}
use Rattle.room_overlay.proofs.Keeping.{last_seen, told_last, told_seen}
use Rattle.room_overlay.proofs.own.Own.last.Goals as goal

pub returns-clause-last : goal.returns-clause-last
returns-clause-last c = last_seen _ _ _ _ _ _ c.self.invariant.0 _ c.self.view_is

pub returns-clause-runs : goal.returns-clause-runs
returns-clause-runs c = runs_seen _ _ _ _ _ _ c.self.invariant.0 _ c.self.view_is

pub returns-clause-within : goal.returns-clause-within
returns-clause-within c = omega (
  arith,
  told_last _ _ _ _ _ _ c.self.invariant.0,
  told_seen _ _ _ _ _ _ c.self.invariant.0 _ c.self.view_is,
)
