use Rattle.std.proofs.Common.{◌≡◌, ◌≤◌, drop}
use Rattle.room_model.specs.Receive.{told_by}
use Rattle.room_overlay.proofs.telling.told_by.Given as goal

abbrev pub invariant-loop-op : goal.invariant-loop-op
invariant-loop-op l =
    (told_by l.actor l.limit l.kept (drop l.op-index l.ops) ≡ told_by l.actor l.limit l.told l.ops)
    × ((l.told ≤ l.kept) × (l.kept ≤ l.limit))
