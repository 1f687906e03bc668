-- The value that a text spells is a value of the profile.
use Rattle.std.proofs.Common.{◌≡◌, ◌≤ℤ◌, ℕ, ℤ, pos, nat_le, int_le, nat_lt, Bool, true, false, cond, List, [], ◌∷◌}
use Rattle.std.proofs.Common.{Option, Some, None, Ok, Err, IsUtf8, refl, subst, arith, rules}
use Rattle.std.specs.BTreeMap.{insert_entry}
use Rattle.std.specs.Cmp.Lexicographic.{slice_cmp}
use Rattle.std.specs.Ordering.{nat_cmp}
use Rattle.std.specs.Prelude.{ok_or}
use Rattle.std.specs.Str.{is_utf8}
use Rattle.std.proofs.lemmas.Bool.Decides.{nat_tests}
use Rattle.std.proofs.lemmas.Str.{IsUtf8-from_is_utf8}
use Rattle.serde_json.specs.Data as read
use Rattle.serde_json.specs.Read.{read as read_text}
use Rattle.room_json.specs.Fields.{and_then}
use Rattle.room_json.specs.Limits.{max_whole, min_whole}
use Rattle.room_json.specs.Profile.{IsWhole, IsJson, AreJson}
use Rattle.room_json.specs.Reading.{not_json, too_deep, bad_number, whole_in, value_in, items_in, members_into}
use Rattle.room_json.specs.Reading.{data_in, profile_in, value_of_text}
use Rattle.room_json.specs.Value.{Value, nothing, flag, whole, text, list, members, values_of, fields_of, merged}
use Rattle.room_items.proofs.Members.{Pair, EachJson, object_json}
use Rattle.room_msg.proofs.ReadDepth.{text_depth}
use Rattle.room_valid.specs.Laws.{ValuesAreJson}
use Rattle.room_valid.proofs.Options.{kept, stepped, from_map, same}
use Rattle.room_valid.proofs.Parsing.{DataTexts, ItemsTexts, MembersTexts, read_texts}

-- numbers

from_le : (a b : ℕ) → nat_le a b ≡ true → pos a ≤ℤ pos b
from_le a b t = grind (arith, nat_tests, t)

from_int_le : (a b : ℤ) → int_le a b ≡ true → a ≤ℤ b
from_int_le a b t = search (rules, t)

low : (n : ℕ) → min_whole ≤ℤ pos n
low n = grind (arith)

small : (n : ℕ) (z : ℤ) (b : Bool) → nat_le n max_whole ≡ b → cond b (Some (pos n)) None ≡ Some z → IsWhole z
small n z true t e = same IsWhole (pos n) z (low n, from_le n max_whole t) e
small n z false t e = cc

between : (y z : ℤ) (a b : Bool) → int_le min_whole y ≡ a → int_le y (pos max_whole) ≡ b
    → cond a (cond b (Some y) None) None ≡ Some z → IsWhole z
between y z true true s t e = same IsWhole y z (from_int_le min_whole y s, from_int_le y (pos max_whole) t) e
between y z true false s t e = cc
between y z false b s t e = cc

whole_json : (n : read.Num) (z : ℤ) → whole_in n ≡ Some z → IsWhole z
whole_json (read.unsigned n) z e = small n z (nat_le n max_whole) refl e
whole_json (read.negative y) z e = between y z (int_le min_whole y) (int_le y (pos max_whole)) refl refl e
whole_json (read.float x) z e = cc

-- values; members go into an object one after another

record Merges (found fs : List Pair) : Type 0 where
  pairs : List Pair
  json : EachJson pairs
  is : merged found pairs ≡ fs

first : (found : List Pair) (k : List ℕ) (v : Value) (fs : List Pair) → IsUtf8 k → IsJson v
    → Merges (insert_entry (slice_cmp nat_cmp) found k v) fs → Merges found fs
first found k v fs u h rest = record { pairs = (k, v) ∷ rest.pairs; json = (u, h, rest.json); is = rest.is }

object_of_merged : (fs : List Pair) → Merges [] fs → IsJson (members (fields_of fs))
object_of_merged fs h = subst (λ (gs : List Pair). IsJson (members (fields_of gs))) h.is (object_json h.pairs h.json)

mutual
  value_json : (d : read.Data) (v : Value) → DataTexts d → value_in d ≡ Some v → IsJson v
  value_json read.null v h e = same IsJson nothing v tt e
  value_json (read.boolean b) v h e = same IsJson (flag b) v tt e
  value_json (read.number n) v h e = from_map IsJson whole (whole_in n) v (λ z is. whole_json n z is) e
  value_json (read.string s) v h e = same IsJson (text s) v h e
  value_json (read.array ds) v h e =
      from_map IsJson (λ (vs : List Value). list (values_of vs)) (items_in ds) v (λ vs is. items_json ds vs h is) e
  value_json (read.object ms) v h e =
      from_map IsJson (λ (fs : List Pair). members (fields_of fs)) (members_into ms []) v
      (λ fs is. object_of_merged fs (members_json ms [] fs h is)) e

  items_json : (ds : read.Items) (vs : List Value) → ItemsTexts ds → items_in ds ≡ Some vs → AreJson (values_of vs)
  items_json read.no_items vs h e = same (λ (us : List Value). AreJson (values_of us)) [] vs tt e
  items_json (read.item d ds) vs h e =
      stepped _ (value_in d) _ vs (λ v is e.
      from_map (λ (us : List Value). AreJson (values_of us)) (λ (us : List Value). v ∷ us) (items_in ds) vs
      (λ us more. (value_json d v h.0 is, items_json ds us h.1 more)) e) e

  members_json : (ms : read.Members) (found fs : List Pair) → MembersTexts ms → members_into ms found ≡ Some fs
      → Merges found fs
  members_json read.no_members found fs h e = record { pairs = []; json = tt; is = cc }
  members_json (read.member k d ms) found fs h e =
      stepped _ (value_in d) _ fs (λ v is e.
      first found k v fs h.0 (value_json d v h.1 is)
      (members_json ms (insert_entry (slice_cmp nat_cmp) found k v) fs h.2 e)) e

-- texts

data_json : (t : List ℕ) (d : read.Data) → data_in t ≡ Some d → DataTexts d
data_json t d e =
    let k = kept (is_utf8 t) (read_text t) d e in
    read_texts t d (IsUtf8-from_is_utf8 t k.0) k.1

ok_some : (o : Option Value) (v : Value) → ok_or o bad_number ≡ Ok v → o ≡ Some v
ok_some None v e = cc
ok_some (Some w) v e = cc

by_depth : (b : Bool) (d : read.Data) (v : Value) → DataTexts d
    → cond b (Err (too_deep (read.depth d))) (ok_or (value_in d) bad_number) ≡ Ok v → IsJson v
by_depth true d v h e = cc
by_depth false d v h e = value_json d v h (ok_some (value_in d) v e)

by_data : (o : Option read.Data) (v : Value) → ((d : read.Data) → o ≡ Some d → DataTexts d)
    → and_then (ok_or o not_json) profile_in ≡ Ok v → IsJson v
by_data None v h e = cc
by_data (Some d) v h e = by_depth (nat_lt 60 (read.depth d)) d v (h d refl) e

pub text_json : (t : List ℕ) (v : Value) → value_of_text t ≡ Ok v → IsJson v
text_json t v e = by_data (data_in t) v (data_json t) e

-- and the text is UTF-8

utf8_by : (b : Bool) (o : Option read.Data) (v : Value) → and_then (ok_or (cond b o None) not_json) profile_in ≡ Ok v
    → b ≡ true
utf8_by true o v e = refl
utf8_by false o v e = cc

pub spelled_utf8 : (t : List ℕ) (v : Value) → value_of_text t ≡ Ok v → IsUtf8 t
spelled_utf8 t v e = IsUtf8-from_is_utf8 t (utf8_by (is_utf8 t) (read_text t) v e)

pub values_json : ValuesAreJson
values_json t v e = (text_json t v e, text_depth t v e)
