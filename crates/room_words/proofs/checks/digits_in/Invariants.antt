-- Digits behind the number so far.
use Rattle.std.proofs.Common.{◌≡◌, drop}
use Rattle.room_words.specs.Words.{digits_in}
use Rattle.room_words.proofs.checks.digits_in.Given as goal

abbrev pub invariant-loop-byte : goal.invariant-loop-byte
invariant-loop-byte l = digits_in l.number (drop l.byte-index l.bytes) ≡ digits_in 0 l.bytes
