use Rattle.std.proofs.Common.{◌≡◌, ◌++◌, map, take, drop}
use Rattle.room_fuse.proofs.held.tear_bytes.Given as goal

abbrev pub invariant-loop-i : goal.invariant-loop-i
invariant-loop-i l = l.bytes ≡ map (λ b. 255) (take l.i l.initial.bytes) ++ drop l.i l.initial.bytes
