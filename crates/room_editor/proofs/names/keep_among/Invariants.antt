use Rattle.std.proofs.Common.{◌≡◌, ◌≤◌, ◌-◌, ◌++◌, length, take, drop}
use Rattle.room_model.specs.Presence.{kept_names}
use Rattle.room_editor.proofs.names.keep_among.Given as goal

abbrev pub invariant-loop-at : goal.invariant-loop-at
invariant-loop-at l =
    (take l.at l.names.items ++ kept_names (drop l.at l.names.items) l.among ≡ kept_names l.initial.names.items l.among)
    × (l.at ≤ length l.names.items)

abbrev pub decreases-loop-at : goal.decreases-loop-at
decreases-loop-at l = length l.names.items - l.at
