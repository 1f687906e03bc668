use Rattle.std.proofs.Common.{◌≡◌, drop}
use Rattle.room_model.specs.Calls.{entry_names}
use Rattle.room_editor.proofs.entries.names_after.Given as goal

abbrev pub invariant-loop-change : goal.invariant-loop-change
invariant-loop-change l = entry_names l.after (drop l.change-index l.entry) ≡ entry_names l.names l.entry
