-- A value as a tree of numbers, which a type's meaning has to have.
use Rattle.std.specs.Prelude.{◌≡◌, ℕ, cond, ℤ, pos, negsuc, List, [], ◌∷◌, Bool, true, false, nat_eq}
use Rattle.std.proofs.Common.{refl, sym, ap, ◌∙◌}
use base.Stored.{Gv, gnil, gnum, gcons, Coded, coded_list, coded×, coded_ℕ}
use Rattle.room_json.specs.Value.{Value, nothing, flag, whole, text, list, members}
use Rattle.room_json.specs.Value.{Values, no_values, value, Fields, no_fields, field}

abbrev bit_code : Bool → Gv
bit_code true = gnum 1
bit_code false = gnum 0

abbrev bytes_code : List ℕ → Gv
bytes_code [] = gnil
bytes_code (x ∷ xs) = gcons (gnum x) (bytes_code xs)

abbrev whole_code : ℤ → Gv
whole_code (pos n) = gcons (gnum n) gnil
whole_code (negsuc n) = gcons gnil (gnum n)

abbrev mutual
  pub code_of : Value → Gv
  code_of nothing = gcons (gnum 0) gnil
  code_of (flag b) = gcons (gnum 1) (bit_code b)
  code_of (whole z) = gcons (gnum 2) (whole_code z)
  code_of (text s) = gcons (gnum 3) (bytes_code s)
  code_of (list vs) = gcons (gnum 4) (values_code vs)
  code_of (members fs) = gcons (gnum 5) (fields_code fs)

  pub values_code : Values → Gv
  values_code no_values = gnil
  values_code (value v vs) = gcons (code_of v) (values_code vs)

  pub fields_code : Fields → Gv
  fields_code no_fields = gnil
  fields_code (field k v fs) = gcons (gcons (bytes_code k) (code_of v)) (fields_code fs)

abbrev num : Gv → ℕ
num (gnum n) = n
num _ = 0

abbrev bit_back : Gv → Bool
bit_back g = nat_eq (num g) 1

abbrev bytes_back : Gv → List ℕ
bytes_back (gcons x xs) = num x ∷ bytes_back xs
bytes_back _ = []

abbrev whole_back : Gv → ℤ
whole_back (gcons (gnum n) g) = pos n
whole_back (gcons _ g) = negsuc (num g)
whole_back _ = pos 0

-- by the tag
abbrev pick : ℕ → Bool → ℤ → List ℕ → Values → Fields → Value
pick t b z s vs fs =
    cond (nat_eq t 0) nothing
    (cond (nat_eq t 1) (flag b)
    (cond (nat_eq t 2) (whole z)
    (cond (nat_eq t 3) (text s)
    (cond (nat_eq t 4) (list vs)
    (members fs)))))

abbrev mutual
  pub value_back : Gv → Value
  value_back gnil = nothing
  value_back (gnum n) = nothing
  value_back (gcons t g) = pick (num t) (bit_back g) (whole_back g) (bytes_back g) (values_back g) (fields_back g)

  values_back : Gv → Values
  values_back gnil = no_values
  values_back (gnum n) = no_values
  values_back (gcons v vs) = value (value_back v) (values_back vs)

  fields_back : Gv → Fields
  fields_back gnil = no_fields
  fields_back (gnum n) = no_fields
  fields_back (gcons m fs) = field_back m (fields_back fs)

  field_back : Gv → Fields → Fields
  field_back gnil fs = fs
  field_back (gnum n) fs = fs
  field_back (gcons k v) fs = field (bytes_back k) (value_back v) fs

bit_again : (b : Bool) → bit_back (bit_code b) ≡ b
bit_again true = refl
bit_again false = refl

bytes_again : (s : List ℕ) → bytes_back (bytes_code s) ≡ s
bytes_again [] = refl
bytes_again (x ∷ xs) = ap (λ ys. x ∷ ys) (bytes_again xs)

whole_again : (z : ℤ) → whole_back (whole_code z) ≡ z
whole_again (pos n) = refl
whole_again (negsuc n) = refl

mutual
  pub value_again : (v : Value) → value_back (code_of v) ≡ v
  value_again nothing = refl
  value_again (flag b) = ap flag (bit_again b)
  value_again (whole z) = ap whole (whole_again z)
  value_again (text s) = ap text (bytes_again s)
  value_again (list vs) = ap list (values_again vs)
  value_again (members fs) = ap members (fields_again fs)

  values_again : (vs : Values) → values_back (values_code vs) ≡ vs
  values_again no_values = refl
  values_again (value v vs) = λ i. value (value_again v i) (values_again vs i)

  fields_again : (fs : Fields) → fields_back (fields_code fs) ≡ fs
  fields_again no_fields = refl
  fields_again (field k v fs) = λ i. field (bytes_again k i) (value_again v i) (fields_again fs i)

abbrev pub coded_value : Coded Value
coded_value = record { code = code_of; inj = λ x y p. sym (value_again x) ∙ ap value_back p ∙ value_again y }

abbrev pub coded_list_of_values : Coded (List Value)
coded_list_of_values = coded_list coded_value

abbrev pub coded_list_of_fields : Coded (List (List ℕ × Value))
coded_list_of_fields = coded_list (coded× (coded_list coded_ℕ) coded_value)
