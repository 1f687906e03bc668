-- What is read from a text.
use Rattle.std.specs.Prelude.{◌≡◌, ℕ, ℤ, pos, nat_le, nat_lt, int_le, if◌then◌else◌, List, [], ◌∷◌, ⊤}
use Rattle.std.specs.Prelude.{Option, Some, None, option_map, option_and_then, ok_or, Result, Err}
use Rattle.std.specs.Str.{is_utf8}
use Rattle.std.specs.Ordering.{nat_cmp}
use Rattle.std.specs.Cmp.Lexicographic.{slice_cmp}
use Rattle.std.specs.BTreeMap.{insert_entry}
use Rattle.serde_json.specs.Data.{Num, unsigned, negative, float, Data, null, boolean, number, string, array, object}
use Rattle.serde_json.specs.Data.{Items, no_items, item, Members, no_members, member, depth}
use Rattle.serde_json.specs.Read.{read}
use Rattle.room_json.specs.Value.{Value, nothing, flag, whole, text, list, members, values_of, fields_of}
use Rattle.room_json.specs.Fields.{and_then}
use Rattle.room_json.specs.Limits.{max_whole, min_whole, max_depth}
use Rattle.room_json.specs.declared.parse.Misread.{Misread}
use Rattle.room_json.specs.declared.parse.Misread.TheVariants.{Memory as Starved, Number as Unfit}
use Rattle.room_json.specs.declared.reading.JsonFault.{JsonFault}
use Rattle.room_json.specs.declared.reading.JsonFault.TheVariants.{Memory, NotJson, TooDeep, BadNumber}

-- a number of the profile
abbrev pub whole_in : Num → Option ℤ
whole_in (unsigned n) = if nat_le n max_whole then Some (pos n) else None
whole_in (negative z) = if int_le min_whole z then (if int_le z (pos max_whole) then Some z else None) else None
whole_in (float x) = None

-- the value, unless it holds a number outside the profile
abbrev mutual
  pub value_in : Data → Option Value
  value_in null = Some nothing
  value_in (boolean b) = Some (flag b)
  value_in (number n) = option_map whole (whole_in n)
  value_in (string s) = Some (text s)
  value_in (array ds) = option_map (λ vs. list (values_of vs)) (items_in ds)
  value_in (object ms) = option_map (λ fs. members (fields_of fs)) (members_into ms [])

  pub items_in : Items → Option (List Value)
  items_in no_items = Some []
  items_in (item d ds) = option_and_then (λ v. option_map (λ vs. v ∷ vs) (items_in ds)) (value_in d)

  -- the members found before, with these
  pub members_into : Members → List (List ℕ × Value) → Option (List (List ℕ × Value))
  members_into no_members found = Some found
  members_into (member k d ms) found =
      option_and_then (λ v. members_into ms (insert_entry (slice_cmp nat_cmp) found k v)) (value_in d)

-- why bytes give no value of the profile
pub data Refusal : Type 0 where
  not_json : Refusal
  too_deep : ℕ → Refusal
  bad_number : Refusal

-- what `serde_json` reads, from UTF-8 alone
abbrev pub data_in : List ℕ → Option Data
data_in bytes = if is_utf8 bytes then read bytes else None

-- the value, where it is not too deep and its numbers are of the profile
abbrev pub profile_in : Data → Result Value Refusal
profile_in d = if nat_lt max_depth (depth d) then Err (too_deep (depth d)) else ok_or (value_in d) bad_number

-- the value that a text spells, or the first reason why it spells none
abbrev pub value_of_text : List ℕ → Result Value Refusal
value_of_text bytes = and_then (ok_or (data_in bytes) not_json) profile_in

-- a fault that stands for a refusal; memory may run out at any time
abbrev pub IsFaultOf : {A : Type 0} → Result A Refusal → JsonFault → Type 0
IsFaultOf r Memory = ⊤
IsFaultOf r NotJson = r ≡ Err not_json
IsFaultOf r (TooDeep d) = r ≡ Err (too_deep d)
IsFaultOf r BadNumber = r ≡ Err bad_number

-- the fault of a value that was not made
abbrev pub fault_of : Misread → JsonFault
fault_of Starved = Memory
fault_of Unfit = BadNumber
