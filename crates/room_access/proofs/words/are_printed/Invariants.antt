use Rattle.std.proofs.Common.{◌≡◌, drop}
use Rattle.room_script.specs.Words.{is_printed}
use Rattle.room_access.proofs.words.are_printed.Given as goal

abbrev pub invariant-loop-byte : goal.invariant-loop-byte
invariant-loop-byte l = is_printed (drop l.byte-index l.word) ≡ is_printed l.word
