-- The count doesn't fall.
use Rattle.std.specs.Prelude.{◌≤◌}
use Rattle.room_ws.proofs.key.next_key.Given as goal

abbrev pub invariant-loop-byte : goal.invariant-loop-byte
invariant-loop-byte g l = let s = g.S.Source in s.faults l.initial.source ≤ s.faults l.source
