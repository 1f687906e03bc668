use Rattle.std.proofs.Common.{◌≡◌, ◌++◌, map, take, drop}
use Rattle.room_fuse.specs.Held.{torn_call}
use Rattle.room_fuse.proofs.held.tear_all.Given as goal

abbrev pub invariant-loop-i : goal.invariant-loop-i
invariant-loop-i l = l.calls ≡ map torn_call (take l.i l.initial.calls) ++ drop l.i l.initial.calls
