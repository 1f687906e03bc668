-- The values that a `Json` can stand for.
use Rattle.std.specs.Prelude.{◌≤ℤ◌, ℕ, ℤ, pos, List, ⊤, IsUtf8}
use Rattle.std.specs.Cmp.Lexicographic.{slice_cmp}
use Rattle.std.specs.List.Sorted.{IsStrictlySortedBy}
use Rattle.std.specs.Map.{keys_of}
use Rattle.std.specs.Ordering.{nat_cmp}
use Rattle.room_json.specs.Limits.{max_whole, min_whole}
use Rattle.room_json.specs.Value.{Value, nothing, flag, whole, text, list, members}
use Rattle.room_json.specs.Value.{Values, no_values, value, Fields, no_fields, field, fields_of, fields_list}

abbrev pub IsWhole : ℤ → Type 0
IsWhole z = (min_whole ≤ℤ z) × (z ≤ℤ pos max_whole)

-- whole numbers in their range, texts in UTF-8, distinct names in byte order
abbrev mutual
  pub IsJson : Value → Type 0
  IsJson nothing = ⊤
  IsJson (flag b) = ⊤
  IsJson (whole z) = IsWhole z
  IsJson (text s) = IsUtf8 s
  IsJson (list vs) = AreJson vs
  IsJson (members fs) = IsStrictlySortedBy (slice_cmp nat_cmp) (keys_of (fields_list fs)) × HaveJson fs

  pub AreJson : Values → Type 0
  AreJson no_values = ⊤
  AreJson (value v vs) = IsJson v × AreJson vs

  pub HaveJson : Fields → Type 0
  HaveJson no_fields = ⊤
  HaveJson (field k v fs) = IsUtf8 k × IsJson v × HaveJson fs

-- the members of an object
pub record AreSoundMembers (ms : List (List ℕ × Value)) : Type 0 where
  pub ordered : IsStrictlySortedBy (slice_cmp nat_cmp) (keys_of ms)
  pub json : HaveJson (fields_of ms)
