use Rattle.std.proofs.Common.{◌≡◌, ◌++◌, drop}
use Rattle.room_editor.proofs.names.copies.Given as goal

abbrev pub invariant-loop-name : goal.invariant-loop-name
invariant-loop-name l = l.all ++ drop l.name-index l.names ≡ l.names
