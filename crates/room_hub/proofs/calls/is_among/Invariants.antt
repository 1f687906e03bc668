use Rattle.std.proofs.Common.{◌≡◌, drop}
use Rattle.room_edge.specs.Memory.{is_among}
use Rattle.room_hub.proofs.calls.is_among.Given as goal

abbrev pub invariant-loop-k : goal.invariant-loop-k
invariant-loop-k l = is_among l.number (drop l.k-index l.numbers) ≡ is_among l.number l.numbers
