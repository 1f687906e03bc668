use Rattle.std.proofs.Common.{◌≡◌, drop}
use Rattle.room_access.specs.Grammar.{are_name_bytes}
use Rattle.room_access.proofs.words.are_name_bytes.Given as goal

abbrev pub invariant-loop-byte : goal.invariant-loop-byte
invariant-loop-byte l = are_name_bytes (drop l.byte-index l.word) ≡ are_name_bytes l.word
