use Rattle.std.proofs.Common.{◌≡◌, ◌+◌, ◌++◌, length}
use Rattle.std.specs.Vec.Iter.{into_iter_items}
use Rattle.room_log.specs.Log.{ops_from}
use Rattle.room_props.proofs.clocks.numbered.Given as goal

abbrev pub invariant-loop-body : goal.invariant-loop-body
invariant-loop-body l = record {
  ops : l.ops ++ ops_from l.actor l.clock (into_iter_items l.body-iterator) ≡ ops_from l.actor l.first l.fn.bodies;
  clock : l.clock + length (into_iter_items l.body-iterator) ≡ l.first + length l.fn.bodies;
}
