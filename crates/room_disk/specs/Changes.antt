-- Changes of files.
use Rattle.std.specs.Prelude.{ℕ, ◌+◌, List, length, take}
use Rattle.room_disk.specs.Model.{written, WrittenInPart, CutInPart}
use Rattle.room_disk.specs.declared.change.FileChange.{FileChange}
use Rattle.room_disk.specs.declared.change.FileChange.TheVariants.{Write, Cut}

abbrev pub changed : FileChange → List ℕ → List ℕ
changed (Write at bytes) old = written at bytes old
changed (Cut n) old = take n old

-- what a stop may make of it
abbrev pub ChangedInPart : FileChange → List ℕ → List ℕ → Type 0
ChangedInPart (Write at bytes) = WrittenInPart at (length bytes)
ChangedInPart (Cut n) = CutInPart n

-- the length that a file must have for it
abbrev pub place : FileChange → ℕ
place (Write at bytes) = at
place (Cut n) = n

-- the length that it may give a file
abbrev pub reach : FileChange → ℕ
reach (Write at bytes) = at + length bytes
reach (Cut n) = 0
