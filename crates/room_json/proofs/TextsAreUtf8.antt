-- The text of a value is UTF-8.
use Rattle.std.proofs.Common.{◌≡◌, ◌≤◌, ℕ, pos, negsuc, List, [], ◌∷◌, Bool, true, false, IsUtf8, Ok, refl, arith}
use Rattle.std.proofs.lemmas.Str.{IsUtf8-append, IsUtf8-from_ascii, IsUtf8-nil}
use Rattle.std.proofs.lemmas.Fmt.{IsAscii-decimal, IsAscii-signed}
use Rattle.json.proofs.Printed.Utf8.{IsUtf8-are_ascii, IsUtf8-quoted, IsUtf8-boolean}
use Rattle.serde_json.specs.Written.{comma_if, items_text, members_text}
use Rattle.room_json.specs.Profile.{IsJson, AreJson, HaveJson}
use Rattle.room_json.specs.Reading.{value_of_text}
use Rattle.room_json.specs.Value.{Value, nothing, flag, whole, text, list, members, Values, no_values, value, Fields, no_fields, field, depth, items_of, members_of, text_of}
use Rattle.room_json.proofs.Spelled.{text_again}

comma_utf8 : (later : Bool) → IsUtf8 (comma_if later)
comma_utf8 true = IsUtf8-are_ascii (44 ∷ []) refl
comma_utf8 false = IsUtf8-nil

then : (x : ℕ) (bytes : List ℕ) → IsUtf8 (x ∷ []) → IsUtf8 bytes → IsUtf8 (x ∷ bytes)
then x bytes one rest = IsUtf8-append (x ∷ []) bytes one rest

mutual
  text_utf8 : (v : Value) → IsJson v → IsUtf8 (text_of v)
  text_utf8 nothing h = IsUtf8-are_ascii _ refl
  text_utf8 (flag b) h = IsUtf8-boolean b
  text_utf8 (whole (pos n)) h = IsUtf8-from_ascii _ (IsAscii-decimal n (grind (arith, h.1)))
  text_utf8 (whole (negsuc n)) h = IsUtf8-from_ascii _ (IsAscii-signed (negsuc n) (grind (arith, h.0)))
  text_utf8 (text s) h = IsUtf8-quoted s h
  text_utf8 (list vs) h = then 91 _ (IsUtf8-are_ascii _ refl) (items_utf8 false vs h)
  text_utf8 (members fs) h = then 123 _ (IsUtf8-are_ascii _ refl) (members_utf8 false fs h.1)

  items_utf8 : (later : Bool) (vs : Values) → AreJson vs → IsUtf8 (items_text later (items_of vs))
  items_utf8 later no_values h = IsUtf8-are_ascii _ refl
  items_utf8 later (value v vs) h = IsUtf8-append _ _ (comma_utf8 later) (IsUtf8-append _ _ (text_utf8 v h.0) (items_utf8 true vs h.1))

  members_utf8 : (later : Bool) (fs : Fields) → HaveJson fs → IsUtf8 (members_text later (members_of fs))
  members_utf8 later no_fields h = IsUtf8-are_ascii _ refl
  members_utf8 later (field k v fs) h =
      IsUtf8-append _ _ (comma_utf8 later) (IsUtf8-append _ _ (IsUtf8-quoted k h.0)
      (then 58 _ (IsUtf8-are_ascii _ refl) (IsUtf8-append _ _ (text_utf8 v h.1) (members_utf8 true fs h.2))))

-- the text of a value that is not too deep spells that value
pub text_spells : (v : Value) → IsJson v → depth v ≤ 60 → value_of_text (text_of v) ≡ Ok v
text_spells v h shallow = text_again v h (text_utf8 v h) shallow
