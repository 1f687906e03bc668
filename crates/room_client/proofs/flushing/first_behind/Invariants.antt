use Rattle.std.proofs.Common.{◌≡◌, ◌≤◌, ◌-◌, drop, length}
use Rattle.room_model.specs.Account.{issued}
use Rattle.room_client.specs.Client.{behind}
use Rattle.room_client.proofs.flushing.first_behind.Given as goal

abbrev pub invariant-loop-at : goal.invariant-loop-at
invariant-loop-at g l =
    (behind l.c (drop l.at (issued l.editor)) ≡ behind l.c (issued l.editor)) × (l.at ≤ length (issued l.editor))

abbrev pub decreases-loop-at : goal.decreases-loop-at
decreases-loop-at g l = length (issued l.editor) - l.at
