use Rattle.std.proofs.Common.{◌≡◌, ◌++◌, take, drop}
use Rattle.room_model.specs.Presence.{with_name}
use Rattle.room_editor.proofs.names.place.Given as goal

abbrev pub invariant-loop-known : goal.invariant-loop-known
invariant-loop-known l =
    (l.at ≡ l.known-index)
    × (take l.at l.names ++ with_name (drop l.at l.names) l.name ≡ with_name l.names l.name)
