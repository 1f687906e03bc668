use Rattle.std.proofs.Common.{◌≡◌, ◌++◌, drop}
use Rattle.room_log.specs.Log.{ops_from}
use Rattle.room_store.proofs.taking.ops_of.Given as goal

abbrev pub invariant-loop-body : goal.invariant-loop-body
invariant-loop-body l =
    l.ops ++ ops_from l.actor l.clock (drop l.body-index l.bodies) ≡ ops_from l.actor l.first l.bodies
