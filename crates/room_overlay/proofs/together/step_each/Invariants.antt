use Rattle.std.proofs.Common.{◌≡◌, ◌+◌, ◌≤◌, drop, length, vec_len, vec_capacity}
use Rattle.std.specs.FinMap.{len}
use Rattle.room_nodes.specs.Steps.{fold}
use Rattle.room_log.specs.Log.{bodies_of}
use Rattle.room_overlay.specs.Together.{LeadBack}
use Rattle.room_overlay.proofs.together.step_each.Given as goal

abbrev pub invariant-loop-op : goal.invariant-loop-op
invariant-loop-op g l = let t = g.T.Tree in
    (fold (t.nodes l.t) (bodies_of (drop l.op-index l.ops)) ≡ fold (t.nodes l.initial.t) (bodies_of l.ops))
    × (vec_len l.edits + length (drop l.op-index l.ops) ≤ vec_capacity l.edits)
    × LeadBack (t.nodes l.initial.t) l.edits.items (t.nodes l.t) (len (t.nodes l.t) + t.spare l.t)
