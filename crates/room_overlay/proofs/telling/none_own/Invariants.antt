use Rattle.std.proofs.Common.{◌≡◌, drop}
use Rattle.room_model.specs.Receive.{none_own}
use Rattle.room_overlay.proofs.telling.none_own.Given as goal

abbrev pub invariant-loop-op : goal.invariant-loop-op
invariant-loop-op l = none_own l.actor (drop l.op-index l.ops) ≡ none_own l.actor l.ops
