use Rattle.std.proofs.Common.{◌≡◌, ◌++◌, drop, take}
use Rattle.room_script.specs.Rows.{row_of, behind_row}
use Rattle.room_access.proofs.rows.cut_row.Given as goal

abbrev pub invariant-loop-at : goal.invariant-loop-at
invariant-loop-at l =
    (take l.at l.text ++ row_of (drop l.at l.text) ≡ row_of l.text) × (behind_row (drop l.at l.text) ≡ behind_row l.text)
