-- What is left decides.
use Rattle.std.proofs.Common.{◌≡◌, drop}
use Rattle.std.specs.List.{list_all}
use Rattle.room_words.specs.Words.{is_later}
use Rattle.room_words.proofs.checks.are_later.Given as goal

abbrev pub invariant-loop-byte : goal.invariant-loop-byte
invariant-loop-byte l = list_all is_later (drop l.byte-index l.bytes) ≡ list_all is_later l.bytes
