use Rattle.std.proofs.Common.{◌≡◌, drop}
use Rattle.room_msg.specs.Keys.{are_hex_digits}
use Rattle.room_msg.proofs.keys.are_hex.Given as goal

abbrev pub invariant-loop-c : goal.invariant-loop-c
invariant-loop-c l = are_hex_digits (drop l.c-index l.t) ≡ are_hex_digits l.t
