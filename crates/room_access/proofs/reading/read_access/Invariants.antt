use Rattle.std.proofs.Common.{◌≡◌, ◌≤◌, ◌+◌, length}
use Rattle.room_script.specs.Grammar.{rows, lines_from}
use Rattle.room_access.specs.Grammar.{access_in, access_line}
use Rattle.room_access.specs.Lines.{behind}
use Rattle.room_access.specs.View.{access_of}
use Rattle.room_access.proofs.reading.read_access.Given as goal

abbrev pub invariant-loop-rest : goal.invariant-loop-rest
invariant-loop-rest l =
    (behind (access_of l.access) (lines_from access_line l.number (rows l.rest)) ≡ access_in l.b) × (l.number + length l.rest ≤ length l.b + 1)

abbrev pub decreases-loop-rest : goal.decreases-loop-rest
decreases-loop-rest l = length l.rest
