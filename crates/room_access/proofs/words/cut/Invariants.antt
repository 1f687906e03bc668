use Rattle.std.proofs.Common.{◌≡◌, ◌++◌, drop, take}
use Rattle.room_script.specs.Words.{word_of, rest_of}
use Rattle.room_access.proofs.words.cut.Given as goal

abbrev pub invariant-loop-at : goal.invariant-loop-at
invariant-loop-at l =
    (take l.at l.line ++ word_of (drop l.at l.line) ≡ word_of l.line) × (rest_of (drop l.at l.line) ≡ rest_of l.line)
