-- What a command makes of its input and of the files: a status, and what is written.
use Rattle.std.specs.Prelude.{◌≤◌, ℕ, nat_le, Bool, ◌||◌, ◌==◌, List, [], ◌∷◌, length, Option}
use Rattle.std.specs.Prelude.{codes, decimal}
use Rattle.std.specs.Io.KnownBytes.{Consumes}
use Rattle.room_log.specs.Log.{State, empty_state}
use Rattle.room_model.specs.Lines.{words, tree_text}
use Rattle.room_model.specs.Run.{report, text_of_lines}
use Rattle.room_replay.specs.Files.{Files, New, Room, Damaged}
use Rattle.room_words.specs.Words.{Told, Replay, Serve, Client, Show, Gen, Patch, Rooms}
use Rattle.room_top.specs.Commands.{Task, TooLong, BadLine, Runs, task_of}

pub record Outcome : Type 0 where
  pub status : ℕ
  pub text : List ℕ

-- the lines of statuses

abbrev pub usage : List ℕ
usage = codes "usage: room replay|serve|client|show|gen|patch|rooms\n"

abbrev pub read_fault : List ℕ
read_fault = codes "read fault\n"

abbrev pub disk_fault : List ℕ
disk_fault = codes "disk fault\n"

abbrev pub bad_line : ℕ → List ℕ
bad_line k = text_of_lines (words (codes "bad line" ∷ decimal k ∷ []) ∷ [])

abbrev pub damaged_line : ℕ → ℕ → List ℕ
damaged_line f at = text_of_lines (words (codes "damaged" ∷ decimal f ∷ decimal at ∷ []) ∷ [])

abbrev pub too_long : List ℕ
too_long = codes "too long\n"

-- the line of a room: how many updates and sessions it has, and its tree
abbrev pub room_line : State → List ℕ
room_line s = text_of_lines (words (codes "room" ∷ codes "n" ∷ decimal s.count ∷ codes "sessions"
    ∷ decimal (length s.sessions) ∷ tree_text s.tree ∷ []) ∷ [])

-- a command that opens the room of files that stand so, and tells of its state; new ones are an empty room
abbrev pub opened : Files → (State → List ℕ) → Outcome
opened New tell = record { status = 0; text = tell empty_state }
opened (Room s) tell = record { status = 0; text = tell s }
opened (Damaged f at) tell = record { status = 7; text = damaged_line f at }

-- what is too long, or bad, is so before the files are opened
abbrev pub outcome_of : Files → Task → Outcome
outcome_of fs TooLong = record { status = 11; text = too_long }
outcome_of fs (BadLine k) = record { status = 6; text = bad_line k }
outcome_of fs (Runs ls) = opened fs (λ s. report s ls)

abbrev pub outcome_in : Told → Files → (input : List ℕ) → Outcome
outcome_in (Replay folder) fs input = outcome_of fs (task_of (Replay folder) input)
outcome_in (Serve folder rooms address turns guarded) fs input = record { status = 2; text = usage }
outcome_in (Client address room) fs input = record { status = 2; text = usage }
outcome_in (Show folder) fs input = opened fs room_line
outcome_in (Gen number count) fs input = outcome_of fs (task_of (Gen number count) input)
outcome_in (Patch folder) fs input = record { status = 2; text = usage }
outcome_in (Rooms file deed) fs input = record { status = 2; text = usage }

-- what a run may answer
abbrev pub is_status : ℕ → Bool
is_status s = nat_le s 7 || s == 11

-- an input that is refused, so that nothing is opened
abbrev pub IsRefused : Task → Type 0
IsRefused TooLong = Unit {0}
IsRefused (BadLine k) = Unit {0}
IsRefused (Runs ls) = ⊥

-- of a source at most n bytes are taken, from the front of what was left of it
abbrev pub TakesAtMost : ℕ → Option (List ℕ) → Option (List ℕ) → Type 0
TakesAtMost n old new = (taken : List ℕ) × (length taken ≤ n) × Consumes old new taken
