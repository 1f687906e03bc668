use Rattle.std.proofs.Common.{◌≡◌, max}
use Rattle.room_json.specs.View.{members_view}
use Rattle.room_model.specs.Edits.{fields_most}
use Rattle.room_editor.proofs.speaking.deepest.Given as goal

abbrev pub invariant-loop-name : goal.invariant-loop-name
invariant-loop-name l = max l.most (fields_most (members_view l._name-iterator)) ≡ fields_most l.patch
