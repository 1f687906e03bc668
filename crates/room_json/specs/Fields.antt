-- The words in which readers of objects and lists are stated.
use Rattle.std.specs.Prelude.{ℕ, List, [], ◌∷◌, Option, Some, None, option_and_then, option_map, ok_or, Result, Ok, Err}
use Rattle.std.specs.Ordering.{nat_cmp}
use Rattle.std.specs.Cmp.Lexicographic.{slice_cmp}
use Rattle.std.specs.BTreeMap.{is_at}
use Rattle.std.specs.Map.{lookup}
use Rattle.room_json.specs.Value.{Value, as_members}

-- the field of an object; a value that is no object has none
abbrev pub field_of : List ℕ → Value → Option Value
field_of name v = option_and_then (λ ms. lookup (is_at (slice_cmp nat_cmp name)) ms) (as_members v)

-- one step after another, up to the first fault
abbrev pub and_then : {A B E : Type 0} → Result A E → (A → Result B E) → Result B E
and_then (Ok x) f = f x
and_then (Err e) f = Err e

-- a field that must be there and be right
abbrev pub needed : {A E : Type 0} → (Value → Option A) → E → Option Value → Result A E
needed read e v = ok_or (option_and_then read v) e

-- a field that may be missing and must else be right
abbrev pub allowed : {A E : Type 0} → (Value → Option A) → E → Option Value → Result (Option A) E
allowed read e None = Ok None
allowed read e (Some v) = ok_or (option_map Some (read v)) e

-- each of a list, up to the first fault
abbrev pub each_in : {A E : Type 0} → (Value → Result A E) → List Value → Result (List A) E
each_in read [] = Ok []
each_in read (v ∷ vs) = and_then (read v) (λ x. and_then (each_in read vs) (λ xs. Ok (x ∷ xs)))
