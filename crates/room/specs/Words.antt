-- The words of a call, as they were read, and how it is answered.
use Rattle.std.specs.Prelude.{◌≡◌, ◌⊎◌, ℕ, true, List, [], Option, None, Result, Ok, Err, String, Vec}
use Rattle.std.specs.Global.{Global}
use Rattle.std.specs.Io.KnownBytes.{Appends, IsAtEnd}
use Rattle.std.specs.IoError.{error_kind}
use Rattle.std.specs.declared.io.Error.{Error}
use Rattle.std.specs.declared.io.ErrorKind.TheVariants.{OutOfMemory}
use Rattle.room_edge.specs.Causes.{Rose}
use Rattle.room_top.specs.Commands.{command_in, Reads}
use Rattle.room_top.specs.Outcome.{is_status, read_fault, TakesAtMost}
use Rattle.room_top.specs.Outcome.{usage as usage_line}

abbrev pub Words : Type 0
Words = Result (Vec (String Global) Global) Error

-- words that were not read are none
abbrev pub words_of : Words → List (String Global)
words_of (Ok words) = words.items
words_of (Err error) = []

-- they were not read, since memory ran out
abbrev pub IsOutOfMemory : Words → Type 0
IsOutOfMemory (Ok words) = ⊥
IsOutOfMemory (Err error) = error_kind error ≡ OutOfMemory

-- What holds of every status, whatever the disk tells: of the words, what was left of the source, what was written, and the
-- counts of faults of both.
pub record Answers (words : List (String Global)) (left left_now told now : Option (List ℕ))
    (reads reads_now writes writes_now : ℕ) (status : ℕ) : Type 0 where
  pub known : is_status status ≡ true
  pub source_fault : status ≡ 3 → Rose reads reads_now × Appends told now read_fault
  pub sink_fault : status ≡ 4 → Rose writes writes_now
  pub usage : status ≡ 2 → (command_in words ≡ None) × Appends told now usage_line
  pub other_words : command_in words ≡ None → (status ≡ 2) ⊎ (status ≡ 1) ⊎ (status ≡ 4)
  pub end : (status ≡ 0) ⊎ (status ≡ 5) ⊎ (status ≡ 6) ⊎ (status ≡ 7) → Reads (command_in words) → IsAtEnd left_now
  pub limit : TakesAtMost 16777217 left left_now
