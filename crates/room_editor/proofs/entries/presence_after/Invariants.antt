use Rattle.std.proofs.Common.{◌≡◌, drop}
use Rattle.room_model.specs.Calls.{entry_presence}
use Rattle.room_editor.proofs.entries.presence_after.Given as goal

abbrev pub invariant-loop-change : goal.invariant-loop-change
invariant-loop-change l = entry_presence l.after (drop l.change-index l.entry) ≡ entry_presence l.me l.entry
