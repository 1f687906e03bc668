-- How the text of access is spelled: lines of passes and of rules. As in a schedule, a line is cut into words at single
-- spaces, and empty lines and those that begin with # are skipped and counted.
use Rattle.std.specs.Prelude.{ℕ, Bool, true, false, ◌&&◌, ◌||◌, ◌==◌, nat_le, if◌then◌else◌, List, [], ◌∷◌, length}
use Rattle.std.specs.Prelude.{Option, Some, None, codes, Result, Ok, Err}
use Rattle.std.specs.Str.{bytes_eq}
use Rattle.room_model.specs.Access.{Level, Nothing, Read, Presence, Write, Pass, Rule, Access}
use Rattle.room_script.specs.Words.{word_of, rest_of, ended, read_then, key_in}
use Rattle.room_script.specs.Grammar.{rows, lines_from}

-- a line: a pass or a rule
pub data Line : Type 0 where
  APass : Pass → Line
  ARule : Rule → Line

-- the text: the passes of its lines and the rules, each in their order; or the number of the first line that is neither

abbrev pub with_line : Line → Access → Access
with_line (APass p) a = record { passes = p ∷ a.passes; policy = a.policy }
with_line (ARule r) a = record { passes = a.passes; policy = r ∷ a.policy }

abbrev pub gathered : List (ℕ × Line) → Access
gathered [] = record { passes = []; policy = [] }
gathered (l ∷ ls) = with_line l.1 (gathered ls)

abbrev pub as_access : Result (List (ℕ × Line)) ℕ → Result Access ℕ
as_access (Ok ls) = Ok (gathered ls)
as_access (Err bad) = Err bad

-- the names of rooms and groups: 1 to 64 characters of a to z, 0 to 9, - and _, the first a letter or a digit

abbrev pub is_name_start : ℕ → Bool
is_name_start b = nat_le 97 b && nat_le b 122 || nat_le 48 b && nat_le b 57

abbrev pub is_name_byte : ℕ → Bool
is_name_byte b = is_name_start b || (b == 45 || b == 95)

abbrev pub are_name_bytes : List ℕ → Bool
are_name_bytes [] = true
are_name_bytes (b ∷ bs) = is_name_byte b && are_name_bytes bs

abbrev pub is_name : List ℕ → Bool
is_name [] = false
is_name (b ∷ bs) = is_name_start b && (are_name_bytes (b ∷ bs) && nat_le (length (b ∷ bs)) 64)

abbrev pub name_in : List ℕ → Option (List ℕ)
name_in w = if is_name w then Some w else None

-- in a rule each of both may be *
abbrev pub place_in : List ℕ → Option (List ℕ)
place_in w = if bytes_eq w (codes "*") then Some w else name_in w

abbrev pub level_in : List ℕ → Option Level
level_in w =
    if bytes_eq w (codes "nothing") then Some Nothing
    else if bytes_eq w (codes "read") then Some Read
    else if bytes_eq w (codes "presence") then Some Presence
    else if bytes_eq w (codes "write") then Some Write
    else None

-- pass WORD GROUP, the word of characters from 33 to 126

abbrev pub a_pass : List ℕ → List ℕ → Line
a_pass word group = APass (record { word = word; group = group })

abbrev pub pass_in : Option (List ℕ) → Option Line
pass_in rest = read_then key_in (λ word r. read_then name_in (λ group q. ended (a_pass word group) q) r) rest

-- rule ROOM GROUP LEVEL

abbrev pub a_rule : List ℕ → List ℕ → Level → Line
a_rule room group level = ARule (record { room = room; group = group; level = level })

abbrev pub rule_in : Option (List ℕ) → Option Line
rule_in rest =
    read_then place_in
    (λ room r. read_then place_in
    (λ group q. read_then level_in (λ level z. ended (a_rule room group level) z) q) r) rest

abbrev pub line_named : List ℕ → Option (List ℕ) → Option Line
line_named w rest =
    if bytes_eq w (codes "pass") then pass_in rest
    else if bytes_eq w (codes "rule") then rule_in rest
    else None

abbrev pub access_line : List ℕ → Option Line
access_line row = line_named (word_of row) (rest_of row)

abbrev pub access_in : List ℕ → Result Access ℕ
access_in bs = as_access (lines_from access_line 1 (rows bs))
