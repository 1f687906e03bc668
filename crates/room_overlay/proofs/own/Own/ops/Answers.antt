use Rattle.room_overlay.proofs.Keeping.{bodies_seen, ops_seen}
use Rattle.room_overlay.proofs.own.Own.ops.Goals as goal

pub returns-clause-ops : goal.returns-clause-ops
returns-clause-ops c = ops_seen _ _ _ _ _ _ c.self.invariant.0 _ c.self.view_is

pub returns-clause-bodies : goal.returns-clause-bodies
returns-clause-bodies c = bodies_seen _ _ _ _ _ _ c.self.invariant.0 _ c.self.view_is
