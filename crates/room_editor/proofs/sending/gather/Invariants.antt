use Rattle.std.proofs.Common.{◌≡◌, []}
use Rattle.room_json.specs.Value.{merged}
use Rattle.room_json.specs.View.{members_view}
use Rattle.room_model.specs.Presence.{unsent_members}
use Rattle.room_editor.proofs.sending.gather.Given as goal

abbrev pub invariant-loop-name : goal.invariant-loop-name
invariant-loop-name l =
    merged l.members (unsent_members l.unsent l.held (members_view l.name-iterator))
    ≡ merged [] (unsent_members l.unsent l.held (members_view l.me.entries))
