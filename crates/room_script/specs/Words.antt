-- A line is cut into words at single spaces. What is left stands behind the space after the last word; there is none
-- where the line has ended. Each reading takes what comes next, and says what is made of it and of what is left.
use Rattle.std.specs.Prelude.{⊤, ℕ, Bool, true, ◌&&◌, ◌==◌, nat_le, if◌then◌else◌, List, [], ◌∷◌, Option, Some, None}
use Rattle.std.specs.Prelude.{option_and_then, Result, Ok, Err}
use Rattle.std.specs.Str.{is_utf8}
use Rattle.room_json.specs.Value.{Value, as_members}
use Rattle.room_json.specs.Reading.{Refusal, value_of_text}
use Rattle.room_ids.specs.Ids.{number_in, node_in}
use Rattle.room_ids.specs.declared.ids.NodeId.{NodeId}

-- what stands before the first space
abbrev pub word_of : List ℕ → List ℕ
word_of [] = []
word_of (b ∷ bs) = if b == 32 then [] else b ∷ word_of bs

-- what stands behind it
abbrev pub rest_of : List ℕ → Option (List ℕ)
rest_of [] = None
rest_of (b ∷ bs) = if b == 32 then Some bs else rest_of bs

-- the line has ended
abbrev pub ended : {A : Type 0} → A → Option (List ℕ) → Option A
ended x None = Some x
ended x (Some bs) = None

-- no more than that
abbrev pub end_of : Option (List ℕ) → Option ⊤
end_of rest = ended tt rest

-- the next word
abbrev pub word_then : {A : Type 0} → (List ℕ → Option (List ℕ) → Option A) → Option (List ℕ) → Option A
word_then f None = None
word_then f (Some bs) = f (word_of bs) (rest_of bs)

-- the next word, read as something
abbrev pub read_then : {A B : Type 0} → (List ℕ → Option B) → (B → Option (List ℕ) → Option A) → Option (List ℕ) →
    Option A
read_then read f rest = word_then (λ w r. option_and_then (λ x. f x r) (read w)) rest

-- a number within a bound
abbrev pub at_most : ℕ → ℕ → Option ℕ
at_most most n = if nat_le n most then Some n else None

-- a number from a least to a greatest one
abbrev pub at_least : ℕ → ℕ → Option ℕ
at_least least n = if nat_le least n then Some n else None

abbrev pub number_from : ℕ → ℕ → List ℕ → Option ℕ
number_from least most w = option_and_then (at_least least) (number_in most w)

-- a key: characters from 33 to 126, at least one
abbrev pub is_printed : List ℕ → Bool
is_printed [] = true
is_printed (b ∷ bs) = nat_le 33 b && (nat_le b 126 && is_printed bs)

abbrev pub key_in : List ℕ → Option (List ℕ)
key_in [] = None
key_in (b ∷ bs) = if is_printed (b ∷ bs) then Some (b ∷ bs) else None

-- JSON to the line's end, with blanks around it as JSON has them
abbrev pub value_if : Result Value Refusal → Option Value
value_if (Ok v) = Some v
value_if (Err why) = None

abbrev pub value_in : List ℕ → Option Value
value_in bs = value_if (value_of_text bs)

abbrev pub value_to_end : Option (List ℕ) → Option Value
value_to_end rest = option_and_then value_in rest

-- an object to the line's end
abbrev pub object_to_end : Option (List ℕ) → Option (List (List ℕ × Value))
object_to_end rest = option_and_then as_members (value_to_end rest)

-- a text to the line's end, which may be empty
abbrev pub text_in : List ℕ → Option (List ℕ)
text_in bs = if is_utf8 bs then Some bs else None

abbrev pub text_to_end : Option (List ℕ) → Option (List ℕ)
text_to_end rest = option_and_then text_in rest

-- numbers of the schedule are at most 2^64-1
abbrev pub most : ℕ
most = 18446744073709551615

abbrev pub number_then : {A : Type 0} → (ℕ → Option (List ℕ) → Option A) → Option (List ℕ) → Option A
number_then f rest = read_then (number_in most) f rest

abbrev pub id_then : {A : Type 0} → (NodeId → Option (List ℕ) → Option A) → Option (List ℕ) → Option A
id_then f rest = read_then node_in f rest

abbrev pub key_then : {A : Type 0} → (List ℕ → Option (List ℕ) → Option A) → Option (List ℕ) → Option A
key_then f rest = read_then key_in f rest
