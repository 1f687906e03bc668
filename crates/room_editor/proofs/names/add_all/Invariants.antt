use Rattle.std.proofs.Common.{◌≡◌}
use Rattle.room_json.specs.View.{members_view}
use Rattle.room_model.specs.Presence.{with_names}
use Rattle.room_editor.proofs.names.add_all.Given as goal

abbrev pub invariant-loop-name : goal.invariant-loop-name
invariant-loop-name l =
    with_names l.names (members_view l.name-iterator) ≡ with_names l.fn.names (members_view l.patch.entries)
