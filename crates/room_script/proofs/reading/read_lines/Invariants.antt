use Rattle.std.proofs.Common.{◌≡◌, ◌≤◌, ◌+◌, length}
use Rattle.room_script.specs.Grammar.{rows}
use Rattle.room_script.specs.Forms.{behind_lines, told_from, told_lines}
use Rattle.room_script.proofs.reading.read_lines.Given as goal

abbrev pub invariant-loop-rest : goal.invariant-loop-rest
invariant-loop-rest l =
    (behind_lines (told_lines l.lines) (told_from l.form l.number (rows l.rest)) ≡ told_from l.form 1 (rows l.text)) × (l.number + length l.rest ≤ length l.text + 1)

abbrev pub decreases-loop-rest : goal.decreases-loop-rest
decreases-loop-rest l = length l.rest
