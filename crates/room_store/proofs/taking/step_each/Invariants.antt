use Rattle.std.proofs.Common.{◌≡◌, ◌+◌, ◌≤◌, ◌++◌, drop, length, vec_len, vec_capacity}
use Rattle.std.specs.FinMap.{len}
use Rattle.room_nodes.specs.Steps.{fold, settle_all}
use Rattle.room_log.specs.Log.{bodies_of}
use Rattle.room_log.specs.Taking.{rest_beyond}
use Rattle.room_store.specs.Undoing.{gone, CanGo}
use Rattle.room_store.proofs.taking.step_each.Given as goal

abbrev pub invariant-loop-op : goal.invariant-loop-op
invariant-loop-op g l = let t = g.T.Tree in
    (l.bodies ++ settle_all (t.nodes l.t) (bodies_of (rest_beyond l.last (drop l.op-index l.ops)))
    ≡ settle_all (t.nodes l.initial.t) (bodies_of (rest_beyond l.last l.ops)))
    × (fold (t.nodes l.t) (settle_all (t.nodes l.t) (bodies_of (rest_beyond l.last (drop l.op-index l.ops))))
    ≡ fold (t.nodes l.initial.t) (settle_all (t.nodes l.initial.t) (bodies_of (rest_beyond l.last l.ops))))
    × (vec_len l.steps + length (drop l.op-index l.ops) ≤ vec_capacity l.steps)
    × (gone (t.nodes l.t) l.steps.items ≡ t.nodes l.initial.t)
    × CanGo (len (t.nodes l.t) + t.spare l.t) (t.nodes l.t) l.steps.items
    × (len (t.nodes l.initial.t) + t.spare l.initial.t ≤ len (t.nodes l.t) + t.spare l.t)
