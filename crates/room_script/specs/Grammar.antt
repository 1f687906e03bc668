-- The lines of a schedule, and those of a script. A call of a client is spelled alike in both; in a schedule the
-- client's number stands behind the first word.
use Rattle.std.specs.Prelude.{ℕ, ◌+◌, true, false, ◌&&◌, if◌then◌else◌, ◌==◌, Bool, List, [], ◌∷◌, Option, Some, None}
use Rattle.std.specs.Prelude.{option_map, codes, Result, Ok, Err}
use Rattle.std.specs.Str.{bytes_eq}
use Rattle.room_json.specs.Back.{json_in}
use Rattle.room_ids.specs.Ids.{number_in}
use Rattle.room_model.specs.Lines.{How, Old, New, Torn, Call, Dial, Edits, Begin, End, Undo, Redo, Pause, Resume}
use Rattle.room_model.specs.Lines.{Clear, Presence, Event, Flush, Resend, Cut, Question, Show, Brief, ShowOthers}
use Rattle.room_model.specs.Lines.{ShowHistory, ShowNotices, Up, Down, Gone, Raw, Stop, Start, Fuse, Compact, Limit}
use Rattle.room_model.specs.Lines.{ShowServer, BriefServer, Line, OfClient, AsksClient, OfConnection, OfServer, Drain}
use Rattle.room_model.specs.Lines.{Link}
use Rattle.room_script.specs.Words.{word_of, rest_of, ended, read_then, most, number_from, number_then, value_to_end}
use Rattle.room_script.specs.Words.{object_to_end, text_to_end}
use Rattle.room_script.specs.Edits.{edit_in}

-- a call of a client, by its name and what is left behind it: what it says and sends,
abbrev pub said_named : List ℕ → Option (List ℕ) → Option Call
said_named w rest =
    if bytes_eq w (codes "presence") then option_map (λ p. Presence p false) (object_to_end rest)
    else if bytes_eq w (codes "presence+") then option_map (λ p. Presence p true) (object_to_end rest)
    else if bytes_eq w (codes "event") then option_map (λ v. Event (json_in v)) (value_to_end rest)
    else if bytes_eq w (codes "flush") then ended Flush rest
    else if bytes_eq w (codes "resend") then ended Resend rest
    else if bytes_eq w (codes "cut") then ended Cut rest
    else None

-- its history,
abbrev pub history_named : List ℕ → Option (List ℕ) → Option Call
history_named w rest =
    if bytes_eq w (codes "undo") then ended Undo rest
    else if bytes_eq w (codes "redo") then ended Redo rest
    else if bytes_eq w (codes "pause") then ended Pause rest
    else if bytes_eq w (codes "resume") then ended Resume rest
    else if bytes_eq w (codes "clear") then ended Clear rest
    else said_named w rest

-- and its edits
abbrev pub call_named : List ℕ → Option (List ℕ) → Option Call
call_named w rest =
    if bytes_eq w (codes "dial") then ended Dial rest
    else if bytes_eq w (codes "edit") then option_map Edits (edit_in rest)
    else if bytes_eq w (codes "begin") then ended Begin rest
    else if bytes_eq w (codes "end") then ended End rest
    else history_named w rest

-- what is asked of a client. A script doesn't ask for `brief`
abbrev pub question_named : List ℕ → Option (List ℕ) → Option Question
question_named w rest =
    if bytes_eq w (codes "show") then ended Show rest
    else if bytes_eq w (codes "others") then ended ShowOthers rest
    else if bytes_eq w (codes "history") then ended ShowHistory rest
    else if bytes_eq w (codes "notices") then ended ShowNotices rest
    else None

-- the first that is there
abbrev pub or_else : {A : Type 0} → Option A → Option A → Option A
or_else (Some x) other = Some x
or_else None other = other

-- schedules

-- a client, 1 to 64
abbrev pub client_then : (ℕ → Option (List ℕ) → Option Line) → Option (List ℕ) → Option Line
client_then f rest = read_then (number_from 1 64) f rest

abbrev pub brief_named : List ℕ → Option (List ℕ) → Option Question
brief_named w rest = if bytes_eq w (codes "brief") then ended Brief rest else question_named w rest

abbrev pub client_line : List ℕ → ℕ → Option (List ℕ) → Option Line
client_line w c rest =
    or_else (option_map (OfClient c) (call_named w rest)) (option_map (AsksClient c) (brief_named w rest))

abbrev pub how_in : List ℕ → Option How
how_in w =
    if bytes_eq w (codes "old") then Some Old
    else if bytes_eq w (codes "new") then Some New
    else if bytes_eq w (codes "torn") then Some Torn
    else None

-- fuses count from 1
abbrev pub fuse_in : Option (List ℕ) → Option Line
fuse_in rest = read_then (number_from 1 most)
    (λ n r. read_then how_in (λ how q. ended (OfServer (Fuse n how)) q) r) rest

-- limits of updates and of sessions
abbrev pub limit_in : Option (List ℕ) → Option Line
limit_in rest =
    read_then (number_in 9007199254740991)
    (λ n r. read_then (number_in 4294967295) (λ m q. ended (OfServer (Limit n m)) q) r) rest

-- the rest of a line that asks for the server
abbrev pub is_server : Option (List ℕ) → Bool
is_server None = false
is_server (Some bs) = bytes_eq bs (codes "server")

-- a text on a connection
abbrev pub raw_in : Option (List ℕ) → Option Line
raw_in rest = number_then (λ k r. option_map (λ t. OfConnection k (Raw t)) (text_to_end r)) rest

-- the server is asked, or a client is told or asked something
abbrev pub asked_named : List ℕ → Option (List ℕ) → Option Line
asked_named w rest =
    if bytes_eq w (codes "show") && is_server rest then Some (OfServer ShowServer)
    else if bytes_eq w (codes "brief") && is_server rest then Some (OfServer BriefServer)
    else client_then (λ c r. client_line w c r) rest

-- the server
abbrev pub server_named : List ℕ → Option (List ℕ) → Option Line
server_named w rest =
    if bytes_eq w (codes "stop") then ended (OfServer Stop) rest
    else if bytes_eq w (codes "start") then ended (OfServer Start) rest
    else if bytes_eq w (codes "fuse") then fuse_in rest
    else if bytes_eq w (codes "compact") then ended (OfServer Compact) rest
    else if bytes_eq w (codes "limit") then limit_in rest
    else asked_named w rest

-- connections
abbrev pub line_named : List ℕ → Option (List ℕ) → Option Line
line_named w rest =
    if bytes_eq w (codes "up") then number_then (λ k r. ended (OfConnection k Up) r) rest
    else if bytes_eq w (codes "down") then number_then (λ k r. ended (OfConnection k Down) r) rest
    else if bytes_eq w (codes "gone") then number_then (λ k r. ended (OfConnection k Gone) r) rest
    else if bytes_eq w (codes "raw") then raw_in rest
    else if bytes_eq w (codes "drain") then number_then (λ n r. ended (Drain n) r) rest
    else if bytes_eq w (codes "link") then ended Link rest
    else server_named w rest

abbrev pub schedule_line : List ℕ → Option Line
schedule_line bs = line_named (word_of bs) (rest_of bs)

-- scripts

-- a line of a script: a call of its one client, a question, or frames that are taken up to a number of them or of tries
pub data ScriptLine : Type 0 where
  Calls : Call → ScriptLine
  Asks : Question → ScriptLine
  Takes : (frames : ℕ) → (tries : ℕ) → ScriptLine

abbrev pub take_in : Option (List ℕ) → Option ScriptLine
take_in rest = number_then (λ n r. number_then (λ m q. ended (Takes n m) q) r) rest

abbrev pub told_alone : List ℕ → Option (List ℕ) → Option ScriptLine
told_alone w rest = or_else (option_map Calls (call_named w rest)) (option_map Asks (question_named w rest))

abbrev pub script_named : List ℕ → Option (List ℕ) → Option ScriptLine
script_named w rest = if bytes_eq w (codes "take") then take_in rest else told_alone w rest

abbrev pub script_line : List ℕ → Option ScriptLine
script_line bs = script_named (word_of bs) (rest_of bs)

-- texts

-- what stands between line feeds; the last line may lack its own
abbrev pub with_byte : ℕ → List (List ℕ) → List (List ℕ)
with_byte b [] = (b ∷ []) ∷ []
with_byte b (r ∷ rs) = (b ∷ r) ∷ rs

abbrev pub rows : List ℕ → List (List ℕ)
rows [] = []
rows (b ∷ bs) = if b == 10 then [] ∷ rows bs else with_byte b (rows bs)

-- an empty line, or one that begins with #
abbrev pub is_skipped : List ℕ → Bool
is_skipped [] = true
is_skipped (b ∷ bs) = b == 35

-- the lines with their numbers, or the number of the first that is bad. What is skipped is counted
abbrev pub with_line : {A : Type 0} → ℕ → A → Result (List (ℕ × A)) ℕ → Result (List (ℕ × A)) ℕ
with_line k l (Ok ls) = Ok ((k, l) ∷ ls)
with_line k l (Err bad) = Err bad

abbrev pub line_then : {A : Type 0} → ℕ → Option A → Result (List (ℕ × A)) ℕ → Result (List (ℕ × A)) ℕ
line_then k None more = Err k
line_then k (Some l) more = with_line k l more

abbrev pub lines_from : {A : Type 0} → (List ℕ → Option A) → ℕ → List (List ℕ) → Result (List (ℕ × A)) ℕ
lines_from read k [] = Ok []
lines_from read k (r ∷ rs) =
    if is_skipped r then lines_from read (k + 1) rs else line_then k (read r) (lines_from read (k + 1) rs)

abbrev pub schedule_in : List ℕ → Result (List (ℕ × Line)) ℕ
schedule_in bs = lines_from schedule_line 1 (rows bs)

abbrev pub script_in : List ℕ → Result (List (ℕ × ScriptLine)) ℕ
script_in bs = lines_from script_line 1 (rows bs)
