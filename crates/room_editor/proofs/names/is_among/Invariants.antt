use Rattle.std.proofs.Common.{◌≡◌, drop}
use Rattle.room_model.specs.Presence.{is_among}
use Rattle.room_editor.proofs.names.is_among.Given as goal

abbrev pub invariant-loop-known : goal.invariant-loop-known
invariant-loop-known l = is_among l.name (drop l.known-index l.names) ≡ is_among l.name l.names
