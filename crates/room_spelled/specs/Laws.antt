-- What is read of a schedule or of a script is sound.
use Rattle.std.specs.Prelude.{◌≡◌, ◌≤◌, ℕ, List, [], ◌∷◌, length, Ok, ⊤}
use Rattle.room_log.specs.Follows.{IsKey}
use Rattle.room_model.specs.Lines.{Line}
use Rattle.room_model.specs.Sound.{IsCall}
use Rattle.room_laws.specs.Validity.{AreSpelled, AreLines}
use Rattle.room_script.specs.Grammar.{ScriptLine, Calls, Asks, Takes, schedule_in, script_in}

-- each line that is read is one that a schedule can spell
abbrev pub SchedulesAreSpelled : Type 0
SchedulesAreSpelled = (bs : List ℕ) (ls : List (ℕ × Line)) → schedule_in bs ≡ Ok ls → AreSpelled ls

-- there are no more of them than bytes
abbrev pub LinesAreFew : Type 0
LinesAreFew = (bs : List ℕ) (ls : List (ℕ × Line)) → schedule_in bs ≡ Ok ls → length ls ≤ length bs

-- so the lines of a text of less than 2^64 bytes are those of a run
abbrev pub SchedulesAreLines : Type 0
SchedulesAreLines = (bs : List ℕ) (ls : List (ℕ × Line)) → IsKey (length bs) → schedule_in bs ≡ Ok ls → AreLines ls

-- a script calls its client with real values, as a schedule does

abbrev pub IsScriptLine : ScriptLine → Type 0
IsScriptLine (Calls call) = IsCall call
IsScriptLine (Asks question) = ⊤
IsScriptLine (Takes frames tries) = ⊤

abbrev pub AreScriptLines : List (ℕ × ScriptLine) → Type 0
AreScriptLines [] = ⊤
AreScriptLines (l ∷ ls) = IsScriptLine l.1 × AreScriptLines ls

abbrev pub ScriptsAreSpelled : Type 0
ScriptsAreSpelled = (bs : List ℕ) (ls : List (ℕ × ScriptLine)) → script_in bs ≡ Ok ls → AreScriptLines ls
