-- A number that is larger for a value than for those in it.
use Rattle.std.specs.Prelude.{ℕ, ◌+◌, List, [], ◌∷◌}
use Rattle.room_json.specs.Value.{Value, nothing, flag, whole, text, list, members}
use Rattle.room_json.specs.Value.{Values, no_values, value, Fields, no_fields, field}

abbrev mutual
  pub weight : Value → ℕ
  weight nothing = 0
  weight (flag b) = 0
  weight (whole z) = 0
  weight (text s) = 0
  weight (list vs) = values_weight vs + 1
  weight (members fs) = fields_weight fs + 1

  pub values_weight : Values → ℕ
  values_weight no_values = 0
  values_weight (value v vs) = weight v + 1 + values_weight vs

  pub fields_weight : Fields → ℕ
  fields_weight no_fields = 0
  fields_weight (field k v fs) = weight v + 1 + fields_weight fs

abbrev pub list_weight : List Value → ℕ
list_weight [] = 0
list_weight (v ∷ vs) = weight v + 1 + list_weight vs

abbrev pub pairs_weight : List (List ℕ × Value) → ℕ
pairs_weight [] = 0
pairs_weight (m ∷ ms) = weight m.1 + 1 + pairs_weight ms
