-- The commands that run, and what each runs over its input.
use Rattle.std.specs.Prelude.{◌≡◌, ℕ, nat_lt, if◌then◌else◌, List, [], map, length, Option, Some, None, option_and_then}
use Rattle.std.specs.Prelude.{Result, Ok, Err, String, string_bytes}
use Rattle.std.specs.Global.{Global}
use Rattle.room_model.specs.Lines.{Line}
use Rattle.room_script.specs.Generator.{schedule_of}
use Rattle.room_script.specs.Grammar.{schedule_in}
use Rattle.room_words.specs.Words.{Told, Replay, Serve, Client, Show, Gen, Patch, Rooms}
use Rattle.room_words.specs.Words.{command_of}

-- those that run so far
abbrev pub that_runs : Told → Option Told
that_runs (Replay folder) = Some (Replay folder)
that_runs (Serve folder rooms address turns guarded) = None
that_runs (Client address room) = None
that_runs (Show folder) = Some (Show folder)
that_runs (Gen number count) = Some (Gen number count)
that_runs (Patch folder) = None
that_runs (Rooms file deed) = None

-- the command that the words spell, where it runs
abbrev pub command_in : List (String Global) → Option Told
command_in words = option_and_then that_runs (command_of (map string_bytes words))

-- whether it reads the input
abbrev pub DoesRead : Told → Type 0
DoesRead (Replay folder) = Unit {0}
DoesRead (Serve folder rooms address turns guarded) = ⊥
DoesRead (Client address room) = ⊥
DoesRead (Show folder) = ⊥
DoesRead (Gen number count) = ⊥
DoesRead (Patch folder) = ⊥
DoesRead (Rooms file deed) = ⊥

abbrev pub Reads : Option Told → Type 0
Reads None = ⊥
Reads (Some t) = DoesRead t

-- whether it shows a folder's room
abbrev pub DoesShow : Told → Type 0
DoesShow (Replay folder) = ⊥
DoesShow (Serve folder rooms address turns guarded) = ⊥
DoesShow (Client address room) = ⊥
DoesShow (Show folder) = Unit {0}
DoesShow (Gen number count) = ⊥
DoesShow (Patch folder) = ⊥
DoesShow (Rooms file deed) = ⊥

abbrev pub Shows : Option Told → Type 0
Shows None = ⊥
Shows (Some t) = DoesShow t

-- what is known of the input: it is what was left of the source, for a command that reads it
abbrev pub IsInput : Told → (left : Option (List ℕ)) → List ℕ → Type 0
IsInput t left input = DoesRead t → left ≡ Some input

-- A text that is read as a schedule: it is longer than 16,777,216 bytes, or that line of it is the first outside the grammar, or
-- it has these lines.
pub data Task : Type 0 where
  TooLong : Task
  BadLine : (number : ℕ) → Task
  Runs : List (ℕ × Line) → Task

abbrev pub as_task : Result (List (ℕ × Line)) ℕ → Task
as_task (Ok ls) = Runs ls
as_task (Err k) = BadLine k

abbrev pub task_in : List ℕ → Task
task_in bs = if nat_lt 16777216 (length bs) then TooLong else as_task (schedule_in bs)

-- what a command runs; `show` runs no line
abbrev pub task_of : Told → (input : List ℕ) → Task
task_of (Replay folder) input = task_in input
task_of (Serve folder rooms address turns guarded) input = Runs []
task_of (Client address room) input = Runs []
task_of (Show folder) input = Runs []
task_of (Gen number count) input = task_in (schedule_of number count)
task_of (Patch folder) input = Runs []
task_of (Rooms file deed) input = Runs []

abbrev pub lines_of : Task → List (ℕ × Line)
lines_of TooLong = []
lines_of (BadLine k) = []
lines_of (Runs ls) = ls
