use Rattle.std.proofs.Common.{◌≡◌, ◌++◌, Some, drop}
use Rattle.room_model.specs.Lines.{event_lines}
use Rattle.room_slots.proofs.taking.lines_of.Given as goal

abbrev pub invariant-loop-actor : goal.invariant-loop-actor
invariant-loop-actor l =
    l.lines ++ event_lines (Some l.fn.c) (drop l.actor-index l.fn.events)
    ≡ event_lines (Some l.fn.c) l.fn.events
