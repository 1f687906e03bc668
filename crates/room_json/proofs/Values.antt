-- What `serde_json` says of the values.
use Rattle.std.proofs.Common.{◌≡◌, ℕ, ℤ, pos, negsuc, List, [], ◌∷◌, map, false, refl, ap}
use Rattle.serde_json.specs.Data.{item}
use Rattle.serde_json.specs.View.{items_of as data_items}
use Rattle.serde_json.specs.Find.{is_float}
use Rattle.serde_json.specs.Written.{has_float, items_have_float, members_have_float}
use Rattle.room_json.specs.Value.{Value, nothing, flag, whole, text, list, members, Values, no_values, value, Fields, no_fields, field, num_of, data_of, items_of, members_of, values_of, fields_of, values_list, fields_list}

num_whole : (z : ℤ) → is_float (num_of z) ≡ false
num_whole (pos n) = refl
num_whole (negsuc n) = refl

mutual
  pub no_float : (v : Value) → has_float (data_of v) ≡ false
  no_float nothing = refl
  no_float (flag b) = refl
  no_float (whole z) = num_whole z
  no_float (text s) = refl
  no_float (list vs) = items_no_float vs
  no_float (members fs) = members_no_float fs

  pub items_no_float : (vs : Values) → items_have_float (items_of vs) ≡ false
  items_no_float no_values = refl
  items_no_float (value v vs) = rw (no_float v, items_no_float vs) refl

  pub members_no_float : (fs : Fields) → members_have_float (members_of fs) ≡ false
  members_no_float no_fields = refl
  members_no_float (field k v fs) = rw (no_float v, members_no_float fs) refl

pub items-values_of : (vs : List Value) → data_items (map data_of vs) ≡ items_of (values_of vs)
items-values_of [] = refl
items-values_of (v ∷ vs) = ap (item (data_of v)) (items-values_of vs)

pub ruleset value_laws = (no_float, items-values_of)

pub values_list-values_of : (vs : List Value) → values_list (values_of vs) ≡ vs
values_list-values_of [] = refl
values_list-values_of (v ∷ vs) = ap (λ ws. v ∷ ws) (values_list-values_of vs)

pub fields_list-fields_of : (ms : List (List ℕ × Value)) → fields_list (fields_of ms) ≡ ms
fields_list-fields_of [] = refl
fields_list-fields_of (m ∷ ms) = ap (λ ns. m ∷ ns) (fields_list-fields_of ms)

pub ruleset list_laws = (values_list-values_of, fields_list-fields_of)
