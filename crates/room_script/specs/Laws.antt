-- Laws of the definitions.
use Rattle.std.specs.Prelude.{◌≤◌, ℕ}
use Rattle.std.specs.Result.{IsOk}
use Rattle.room_json.specs.Limits.{max_whole}
use Rattle.room_script.specs.Grammar.{schedule_in}
use Rattle.room_script.specs.Generator.{schedule_of}

-- The schedule of a number and a count is in the grammar, as long as the turns' numbers are whole numbers of the
-- profile: each fourth turn sets its own number.
abbrev pub SchedulesAreRead : Type 0
SchedulesAreRead = (number count : ℕ) → count ≤ max_whole → IsOk (schedule_in (schedule_of number count))
