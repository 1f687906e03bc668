-- The calls of a disk in memory.
use Rattle.std.specs.Prelude.{◌≡◌, ◌≤◌, true, []}
use Rattle.room_edge.specs.Causes.{Rose}
use Rattle.room_edge.specs.Memory.{Calls, is_to_fail, called}

-- one call more; where it is to fail, the count of faults rises
pub record Counts (old new : Calls) : Type 0 where
  pub counted : new ≡ called old
  pub later : old.faults ≤ new.faults
  pub rose : is_to_fail old ≡ true → Rose old.faults new.faults

-- no call is to fail any more
abbrev pub lifted : Calls → Calls
lifted c = record { calls = c.calls; fails = []; faults = c.faults }
