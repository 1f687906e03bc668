-- What stands in the fields of a value.
use Rattle.std.proofs.Common.{◌≡◌, ◌≤◌, ◌+◌, ℕ, max, Bool, true, false, cond, List, Option, Some, None, option_and_then, option_map, Result, Ok, Err, refl, sym, ap, ◌∙◌, subst, arith}
use Rattle.std.specs.Prelude.{ok_or}
use Rattle.std.specs.Map.{lookup, keys_of}
use Rattle.std.specs.List.Sorted.{IsStrictlySortedBy}
use Rattle.std.specs.BTreeMap.{is_at}
use Rattle.std.specs.Cmp.Lexicographic.{slice_cmp}
use Rattle.std.specs.Ordering.{nat_cmp}
use Rattle.room_json.proofs.Values.{fields_list-fields_of}
use Rattle.room_json.specs.Back.{json_in}
use Rattle.room_json.specs.Fields.{and_then, field_of, needed, allowed}
use Rattle.room_json.specs.Profile.{IsJson, HaveJson, AreSoundMembers}
use Rattle.room_json.specs.Value.{Value, nothing, flag, whole, text, list, members, Values, no_values, value, Fields, no_fields, field, values_of, fields_of, values_list, fields_list, as_text, as_members, as_list, depth, fields_depth}
use Rattle.room_json.specs.View.{json_of}

-- what went on

pub some_inj : {A : Type 0} {a b : A} → Some a ≡ Some b → a ≡ b
some_inj e = cc

pub ok_inj : {A E : Type 0} {a b : A} → ◌≡◌ {A = Result A E} (Ok a) (Ok b) → a ≡ b
ok_inj e = cc

pub gone_on : {A B E : Type 0} (P : Type 0) (r : Result A E) (f : A → Result B E) (y : B) → and_then r f ≡ Ok y → ((x : A) → r ≡ Ok x → f x ≡ Ok y → P) → P
gone_on P (Ok x) f y h k = k x refl h
gone_on P (Err e) f y h k = cc

pub was_there : {A E : Type 0} (o : Option A) (e : E) (x : A) → ok_or o e ≡ Ok x → o ≡ Some x
was_there None e x h = cc
was_there (Some y) e x h = ap Some (ok_inj h)

pub and_then_of : {A B : Type 0} (P : Type 0) (f : A → Option B) (o : Option A) (y : B) → option_and_then f o ≡ Some y → ((x : A) → o ≡ Some x → f x ≡ Some y → P) → P
and_then_of P f None y h k = cc
and_then_of P f (Some x) y h k = k x refl h

pub map_of : {A B : Type 0} (P : Type 0) (f : A → B) (o : Option A) (y : B) → option_map f o ≡ Some y → ((x : A) → o ≡ Some x → f x ≡ y → P) → P
map_of P f None y h k = cc
map_of P f (Some x) y h k = k x refl (some_inj h)

-- values and their parts

pub values_of-values_list : (vs : Values) → values_of (values_list vs) ≡ vs
values_of-values_list no_values = refl
values_of-values_list (value v vs) = ap (value v) (values_of-values_list vs)

pub fields_of-fields_list : (fs : Fields) → fields_of (fields_list fs) ≡ fs
fields_of-fields_list no_fields = refl
fields_of-fields_list (field k v fs) = ap (field k v) (fields_of-fields_list fs)

pub json_of-json_in : (v : Value) → json_of (json_in v) ≡ v
json_of-json_in nothing = refl
json_of-json_in (flag b) = refl
json_of-json_in (whole z) = refl
json_of-json_in (text s) = refl
json_of-json_in (list vs) = ap list (values_of-values_list vs)
json_of-json_in (members fs) = ap members (fields_of-fields_list fs)

pub text_is : (v : Value) (t : List ℕ) → as_text v ≡ Some t → v ≡ text t
text_is nothing t e = cc
text_is (flag b) t e = cc
text_is (whole z) t e = cc
text_is (text s) t e = ap text (some_inj e)
text_is (list vs) t e = cc
text_is (members fs) t e = cc

pub members_is : (v : Value) (gs : List (List ℕ × Value)) → as_members v ≡ Some gs → v ≡ members (fields_of gs)
members_is nothing gs e = cc
members_is (flag b) gs e = cc
members_is (whole z) gs e = cc
members_is (text s) gs e = cc
members_is (list vs) gs e = cc
members_is (members fs) gs e = ap members (sym (fields_of-fields_list fs) ∙ ap fields_of (some_inj e))

pub list_is : (v : Value) (ws : List Value) → as_list v ≡ Some ws → v ≡ list (values_of ws)
list_is nothing ws e = cc
list_is (flag b) ws e = cc
list_is (whole z) ws e = cc
list_is (text s) ws e = cc
list_is (list vs) ws e = ap list (sym (values_of-values_list vs) ∙ ap values_of (some_inj e))
list_is (members fs) ws e = cc

-- one of the fields of v is w
abbrev pub Has : Value → Value → Type 0
Has v w = (name : List ℕ) × (field_of name v ≡ Some w)

found_step : (P : Value → Type 0) (b : Bool) (v w : Value) (o : Option Value) → cond b (Some v) o ≡ Some w → P v → (o ≡ Some w → P w) → P w
found_step P true v w o e p q = subst P (some_inj e) p
found_step P false v w o e p q = q e

found_json : (test : List ℕ → Bool) (fs : Fields) (w : Value) → lookup test (fields_list fs) ≡ Some w → HaveJson fs → IsJson w
found_json test no_fields w e h = cc
found_json test (field k v fs) w e h = found_step IsJson (test k) v w (lookup test (fields_list fs)) e h.1 (λ d. found_json test fs w d h.2)

-- what stands in a value of the profile is of the profile
pub has_json : (v w : Value) → Has v w → IsJson v → IsJson w
has_json nothing w e h = cc
has_json (flag b) w e h = cc
has_json (whole z) w e h = cc
has_json (text s) w e h = cc
has_json (list vs) w e h = cc
has_json (members fs) w e h = found_json (is_at (slice_cmp nat_cmp e.0)) fs w e.1 h.1

deeper : (a b c : ℕ) → a ≤ c → a ≤ max b c
deeper a b c h = omega arith

found_depth : (test : List ℕ → Bool) (fs : Fields) (w : Value) → lookup test (fields_list fs) ≡ Some w → depth w ≤ fields_depth fs
found_depth test no_fields w e = cc
found_depth test (field k v fs) w e =
    found_step (λ (u : Value). depth u ≤ max (depth v) (fields_depth fs)) (test k) v w (lookup test (fields_list fs)) e (omega arith) (λ d. deeper (depth w) (depth v) (fields_depth fs) (found_depth test fs w d))

-- and is less deep
pub has_depth : (v w : Value) → Has v w → depth w + 1 ≤ depth v
has_depth nothing w e = cc
has_depth (flag b) w e = cc
has_depth (whole z) w e = cc
has_depth (text s) w e = cc
has_depth (list vs) w e = cc
has_depth (members fs) w e = omega (arith, found_depth (is_at (slice_cmp nat_cmp e.0)) fs w e.1)

-- what is read of a field that must be there stands in it

pub needed_of : {A E : Type 0} (P : Type 0) (read : Value → Option A) (e : E) (o : Option Value) (x : A) → needed read e o ≡ Ok x → ((w : Value) → o ≡ Some w → read w ≡ Some x → P) → P
needed_of P read e o x h k = and_then_of P read o x (was_there (option_and_then read o) e x h) k

pub has_text : {E : Type 0} (v : Value) (e : E) (name t : List ℕ) → needed as_text e (field_of name v) ≡ Ok t → Has v (text t)
has_text v e name t h = needed_of _ as_text e (field_of name v) t h (λ w is r. (name, is ∙ ap Some (text_is w t r)))

pub has_members : {E : Type 0} (v : Value) (e : E) (name : List ℕ) (gs : List (List ℕ × Value)) → needed as_members e (field_of name v) ≡ Ok gs → Has v (members (fields_of gs))
has_members v e name gs h = needed_of _ as_members e (field_of name v) gs h (λ w is r. (name, is ∙ ap Some (members_is w gs r)))

pub has_list : {E : Type 0} (v : Value) (e : E) (name : List ℕ) (ws : List Value) → needed as_list e (field_of name v) ≡ Ok ws → Has v (list (values_of ws))
has_list v e name ws h = needed_of _ as_list e (field_of name v) ws h (λ w is r. (name, is ∙ ap Some (list_is w ws r)))

pub has_value : {E : Type 0} (v : Value) (e : E) (name : List ℕ) (w : Value) → needed Some e (field_of name v) ≡ Ok w → Has v (json_of (json_in w))
has_value v e name w h = needed_of _ Some e (field_of name v) w h (λ u is r. (name, is ∙ r ∙ ap Some (sym (json_of-json_in w))))

-- and of one that may be missing

pub allowed_of : {A E : Type 0} (Good : Option A → Type 0) (read : Value → Option A) (e : E) (o : Option Value) (x : Option A) → allowed read e o ≡ Ok x
    → Good None → ((w : Value) (y : A) → o ≡ Some w → read w ≡ Some y → Good (Some y)) → Good x
allowed_of Good read e None x h none some = subst Good (ok_inj h) none
allowed_of Good read e (Some w) x h none some = map_of _ Some (read w) x (was_there (option_map Some (read w)) e x h) (λ y is same. subst Good same (some w y refl is))

-- members of the profile

pub sound_members : (gs : List (List ℕ × Value)) → IsJson (members (fields_of gs)) → AreSoundMembers gs
sound_members gs h = record { ordered = subst (λ (hs : List (List ℕ × Value)). IsStrictlySortedBy (slice_cmp nat_cmp) (keys_of hs)) (fields_list-fields_of gs) h.0; json = h.1 }
