-- What the texts of schedules and of scripts tell, line by line.
use Rattle.std.specs.Prelude.{◌≡◌, ⊤, ℕ, List, [], ◌∷◌, ◌++◌, map, Option, Some, None, IsSome, option_map}
use Rattle.std.specs.Prelude.{Result, Ok, Err}
use Rattle.room_model.specs.Lines as model
use Rattle.room_script.specs.Grammar.{ScriptLine, lines_from, schedule_line, script_line}
use Rattle.room_script.specs.Told.{Told, Scheduled, scripted, told_of, scheduled, said}
use Rattle.room_script.specs.declared.fault.ScriptFault.{ScriptFault}
use Rattle.room_script.specs.declared.fault.ScriptFault.TheVariants.{Memory, BadLine}
use Rattle.room_script.specs.declared.lines.Line.{Line}
use Rattle.room_script.specs.declared.reading.Form.{Form}
use Rattle.room_script.specs.declared.reading.Form.TheVariants.{Schedule, Script}

-- what some lines stand for
abbrev pub told_lines : List (ℕ × Line) → List (ℕ × Told)
told_lines ls = map (λ e. (e.0, told_of e.1)) ls

-- the lines of a schedule or of a script that some lines stand for, by a view of what they tell; and that each of them
-- is one

abbrev pub with_seen : {A : Type 0} → ℕ → Option A → List (ℕ × A) → List (ℕ × A)
with_seen k None ls = ls
with_seen k (Some l) ls = (k, l) ∷ ls

abbrev pub seen : {A : Type 0} → (Told → Option A) → List (ℕ × Line) → List (ℕ × A)
seen view [] = []
seen view (e ∷ es) = with_seen e.0 (view (told_of e.1)) (seen view es)

abbrev pub AreSeen : {A : Type 0} → (Told → Option A) → List (ℕ × Line) → Type 0
AreSeen view [] = ⊤
AreSeen view (e ∷ es) = IsSome (view (told_of e.1)) × AreSeen view es

abbrev pub lines_of : List (ℕ × Line) → List (ℕ × model.Line)
lines_of ls = seen scheduled ls

abbrev pub AreScheduled : List (ℕ × Line) → Type 0
AreScheduled ls = AreSeen scheduled ls

abbrev pub script_lines_of : List (ℕ × Line) → List (ℕ × ScriptLine)
script_lines_of ls = seen said ls

abbrev pub AreScripted : List (ℕ × Line) → Type 0
AreScripted ls = AreSeen said ls

-- what is read of a text, each of its lines seen as told
abbrev pub as_told : {A : Type 0} → (A → Told) → Result (List (ℕ × A)) ℕ → Result (List (ℕ × Told)) ℕ
as_told f (Ok ls) = Ok (map (λ e. (e.0, f e.1)) ls)
as_told f (Err k) = Err k

-- a fault that stands for a bad line; memory may run out at any time
abbrev pub IsFaultOf : {A : Type 0} → Result A ℕ → ScriptFault → Type 0
IsFaultOf r Memory = ⊤
IsFaultOf r (BadLine k) = r ≡ Err k

abbrev pub told_in : Form → List ℕ → Option Told
told_in Schedule row = option_map Scheduled (schedule_line row)
told_in Script row = option_map scripted (script_line row)

-- rows from number k on
abbrev pub told_from : Form → ℕ → List (List ℕ) → Result (List (ℕ × Told)) ℕ
told_from form k rs = lines_from (told_in form) k rs

-- behind lines that were read
abbrev pub behind_lines : List (ℕ × Told) → Result (List (ℕ × Told)) ℕ → Result (List (ℕ × Told)) ℕ
behind_lines ls (Ok ms) = Ok (ls ++ ms)
behind_lines ls (Err k) = Err k
