use Rattle.std.proofs.Common.{◌≡◌, []}
use Rattle.room_json.specs.Value.{merged}
use Rattle.room_json.specs.View.{members_view}
use Rattle.room_model.specs.Presence.{back_of}
use Rattle.room_editor.proofs.entries.old_values.Given as goal

abbrev pub invariant-loop-name : goal.invariant-loop-name
invariant-loop-name l =
    merged l.old (back_of l.me (members_view l.name-iterator)) ≡ merged [] (back_of l.me (members_view l.patch.entries))
