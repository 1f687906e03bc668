use Rattle.std.proofs.Common.{◌≡◌, ◌≤◌, ◌+◌, drop}
use Rattle.room_editor.specs.Taking.{own_count}
use Rattle.room_editor.proofs.taking.own_count.Given as goal

abbrev pub invariant-loop-op : goal.invariant-loop-op
invariant-loop-op l =
    (l.count + own_count l.actor (drop l.op-index l.ops) ≡ own_count l.actor l.ops) × (l.count ≤ l.op-index)
