-- How a run ends: its status, and what it wrote.
use Rattle.std.specs.Prelude.{◌≡◌, ◌⊎◌, ℕ, List, [], ◌++◌, take, Option, Some, None}
use Rattle.std.specs.Io.KnownBytes.{Appends}
use Rattle.room_log.specs.Log.{empty_state}
use Rattle.room_model.specs.Lines.{Line}
use Rattle.room_model.specs.Run.{report}
use Rattle.room_replay.specs.Files.{Files, New, Room, Damaged}
use Rattle.room_words.specs.Words.{Told}
use Rattle.room_top.specs.Commands.{Task, Runs, task_of, IsInput}
use Rattle.room_top.specs.Outcome.{Outcome, outcome_in, read_fault, disk_fault}

-- the report of some lines, over files that stand so
abbrev pub report_over : Files → List (ℕ × Line) → List ℕ
report_over New ls = report empty_state ls
report_over (Room s) ls = report s ls
report_over (Damaged f at) ls = []

-- what is written where the disk fails: the report of the lines before, and then that
pub record TellsStop (fs : Files) (task : Task) (text : List ℕ) : Type 0 where
  pub done : List (ℕ × Line)
  pub left : List (ℕ × Line)
  pub task_is : task ≡ Runs (done ++ left)
  pub text_is : text ≡ report_over fs done ++ disk_fault

-- all texts of which a first part may be written: that of the outcome, one that tells the disk's fault, or the source's
abbrev pub IsText : Files → Task → Outcome → (rose : Type 0) → List ℕ → Type 0
IsText fs task o rose text = (text ≡ o.text) ⊎ TellsStop fs task text ⊎ (rose × (text ≡ read_fault))

-- the statuses of an outcome: not want of memory, nor a fault of the source, the sink or the disk
abbrev pub IsOwn : ℕ → Type 0
IsOwn s = (s ≡ 1 → ⊥) × (s ≡ 3 → ⊥) × (s ≡ 4 → ⊥) × (s ≡ 5 → ⊥)

pub record Ends (fs : Files) (task : Task) (o : Outcome) (rose : Type 0) (old now : Option (List ℕ)) (status : ℕ)
    : Type 0 where
  -- where nothing failed, it is the outcome
  pub own : IsOwn status → (status ≡ o.status) × Appends old now o.text
  pub source : status ≡ 3 → rose × Appends old now read_fault
  pub disk : status ≡ 5 → (text : List ℕ) × TellsStop fs task text × Appends old now text
  -- whatever the status, a first part of a defined text was written
  pub part : (text : List ℕ) × (n : ℕ) × IsText fs task o rose text × Appends old now (take n text)

-- The same of words that spell a command that runs, with what was left of the source where it reads that.

abbrev pub EndsAs : Option Told → Files → (rose : Type 0) → (left : Option (List ℕ)) → (old now : Option (List ℕ)) → ℕ
    → Type 0
EndsAs None fs rose left old now status = Unit {0}
EndsAs (Some t) fs rose left old now status = (input : List ℕ) → IsInput t left input
    → Ends fs (task_of t input) (outcome_in t fs input) rose old now status

-- an outcome to its last byte
abbrev pub IsOutcome : Option Told → Files → (left : Option (List ℕ)) → (old now : Option (List ℕ)) → ℕ → Type 0
IsOutcome None fs left old now status = Unit {0}
IsOutcome (Some t) fs left old now status = (input : List ℕ) → IsInput t left input
    → (status ≡ (outcome_in t fs input).status) × Appends old now (outcome_in t fs input).text

-- where nothing failed: the status of the outcome, or memory was wanting
abbrev pub IsComplete : Option Told → Files → (left : Option (List ℕ)) → ℕ → Type 0
IsComplete None fs left status = (status ≡ 2) ⊎ (status ≡ 1)
IsComplete (Some t) fs left status = (input : List ℕ) → IsInput t left input
    → (status ≡ (outcome_in t fs input).status) ⊎ (status ≡ 1)
