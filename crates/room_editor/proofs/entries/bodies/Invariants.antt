use Rattle.std.proofs.Common.{◌≡◌, ◌++◌, drop}
use Rattle.room_model.specs.Calls.{entry_bodies}
use Rattle.room_editor.proofs.entries.bodies.Given as goal

abbrev pub invariant-loop-change : goal.invariant-loop-change
invariant-loop-change l = l.bodies ++ entry_bodies (drop l.change-index l.entry) ≡ entry_bodies l.entry
