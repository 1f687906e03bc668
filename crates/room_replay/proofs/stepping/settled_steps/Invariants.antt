use Rattle.std.proofs.Common.{◌≡◌}
use Rattle.std.specs.Vec.Iter.{into_iter_items}
use Rattle.room_replay.specs.Follow.{settled_fold}
use Rattle.room_replay.proofs.stepping.settled_steps.Given as goal

abbrev pub invariant-loop-body : goal.invariant-loop-body
invariant-loop-body g l =
    settled_fold (g.T.Tree.nodes l.t) (into_iter_items l.body-iterator) ≡ settled_fold (g.T.Tree.nodes l.fn.t) l.fn.bodies
