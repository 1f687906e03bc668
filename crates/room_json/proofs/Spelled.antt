-- The text of a value spells that value.
use Rattle.std.proofs.Common.{◌≡◌, ◌≤◌, ℕ, suc, pos, negsuc, List, [], ◌∷◌, ◌++◌, false, Some, Ok, option_map, Less, Greater, nat_cmp, IsUtf8, nat_lt, Option, option_and_then, refl, sym, ap, ◌∙◌, subst, arith, rules, append_assoc, append-nil}
use Rattle.std.proofs.lemmas.Cmp.{nat_list_cmp_total}
use Rattle.std.specs.Cmp.Lexicographic.{slice_cmp}
use Rattle.std.specs.Ordering.{ordering_reverse}
use Rattle.std.specs.BTreeMap.{insert_entry}
use Rattle.std.specs.Map.{keys_of}
use Rattle.std.specs.List.{AllByRecursion}
use Rattle.std.specs.List.Sorted.{IsStrictlySortedBy}
use Rattle.json.specs.Json as json
use Rattle.json.specs.Lex.{tokens}
use Rattle.json.specs.Print.{ArePrintable}
use Rattle.json.specs.Token.{Token}
use Rattle.json.specs.Tree as tree
use Rattle.json.proofs.Printed.Decimals.{IsNumber-decimal, IsNumber-signed_decimal}
use Rattle.json.proofs.Printed.Tokens.{tokens-print}
use Rattle.json.proofs.Printed.Trees.{value-json_tokens}
use Rattle.serde_json.specs.Data.{Data, number, array, object, member, put, depth as data_depth, items_depth, members_depth}
use Rattle.serde_json.specs.Read.{read, max_depth, of_json, of_items, of_members}
use Rattle.serde_json.specs.Written.{outline, items_outline, members_outline}
use Rattle.serde_json.proofs.Numbers.{number_of-decimal, number_of-negative}
use Rattle.serde_json.proofs.Texts.{print-outline}
use Rattle.room_json.specs.Profile.{IsJson, AreJson, HaveJson}
use Rattle.room_json.specs.Reading.{value_in, items_in, members_into, value_of_text}
use Rattle.room_json.specs.Value.{Value, nothing, flag, whole, text, list, members, Values, no_values, value, Fields, no_fields, field, depth, values_depth, fields_depth, data_of, items_of, members_of, values_of, fields_of, values_list, fields_list, text_of}
use Rattle.room_json.proofs.Texts.{data_read}
use Rattle.room_json.proofs.Wholes.{whole_again}

abbrev pub Pair : Type 0
Pair = List ℕ × Value

-- ---- names above those before them go last

below_middle : (first : Pair) (done : List Pair) (e : Pair) (more : List Pair) → AllByRecursion (λ y. slice_cmp nat_cmp first.0 y ≡ Less) (keys_of (done ++ e ∷ more)) → slice_cmp nat_cmp first.0 e.0 ≡ Less
below_middle first [] e more h = h.0
below_middle first (x ∷ done) e more h = below_middle first done e more h.1

above_first : (first : Pair) (done : List Pair) (e : Pair) (more : List Pair) → AllByRecursion (λ y. slice_cmp nat_cmp first.0 y ≡ Less) (keys_of (done ++ e ∷ more)) → slice_cmp nat_cmp e.0 first.0 ≡ Greater
above_first first done e more h = nat_list_cmp_total.antisymm e.0 first.0 ∙ ap ordering_reverse (below_middle first done e more h)

pub insert_pair_last : (done : List Pair) (e : Pair) (more : List Pair) → IsStrictlySortedBy (slice_cmp nat_cmp) (keys_of (done ++ e ∷ more))
    → insert_entry (slice_cmp nat_cmp) done e.0 e.1 ≡ done ++ e ∷ []
unfolding IsStrictlySortedBy
insert_pair_last [] e more h = refl
insert_pair_last (first ∷ done) e more h = rw (above_first first done e more h.0) (ap (λ ms. first ∷ ms) (insert_pair_last done e more h.1))

put_pair_last : (done : List Pair) (e : Pair) (more : List Pair) → IsStrictlySortedBy (slice_cmp nat_cmp) (keys_of (done ++ e ∷ more))
    → put e.0 (data_of e.1) (members_of (fields_of done)) ≡ members_of (fields_of (done ++ e ∷ []))
unfolding IsStrictlySortedBy
put_pair_last [] e more h = refl
put_pair_last (first ∷ done) e more h = rw (above_first first done e more h.0) (ap (member first.0 (data_of first.1)) (put_pair_last done e more h.1))

one_on : (done : List Pair) (e : Pair) (more : List Pair) → IsStrictlySortedBy (slice_cmp nat_cmp) (keys_of (done ++ e ∷ more)) → IsStrictlySortedBy (slice_cmp nat_cmp) (keys_of ((done ++ e ∷ []) ++ more))
one_on done e more h = subst (λ ms. IsStrictlySortedBy (slice_cmp nat_cmp) (keys_of ms)) (sym (append_assoc done (e ∷ []) more)) h

-- ---- lists and back

values_of-values_list : (vs : Values) → values_of (values_list vs) ≡ vs
values_of-values_list no_values = refl
values_of-values_list (value v vs) = ap (value v) (values_of-values_list vs)

fields_of-fields_list : (fs : Fields) → fields_of (fields_list fs) ≡ fs
fields_of-fields_list no_fields = refl
fields_of-fields_list (field k v fs) = ap (field k v) (fields_of-fields_list fs)

-- ---- the value of the data of a value

mutual
  pub value_again : (v : Value) → IsJson v → value_in (data_of v) ≡ Some v
  value_again nothing h = refl
  value_again (flag b) h = refl
  value_again (whole z) h = ap (option_map whole) (whole_again z h.0 h.1)
  value_again (text s) h = refl
  value_again (list vs) h = ap (option_map (λ ws. list (values_of ws))) (values_again vs h) ∙ ap (λ ws. Some (list ws)) (values_of-values_list vs)
  value_again (members fs) h = ap (option_map (λ ms. members (fields_of ms))) (fields_again fs [] h.0 h.1) ∙ ap (λ gs. Some (members gs)) (fields_of-fields_list fs)

  values_again : (vs : Values) → AreJson vs → items_in (items_of vs) ≡ Some (values_list vs)
  values_again no_values h = refl
  values_again (value v vs) h = rw (value_again v h.0, values_again vs h.1) refl

  fields_again : (fs : Fields) (done : List Pair) → IsStrictlySortedBy (slice_cmp nat_cmp) (keys_of (done ++ fields_list fs)) → HaveJson fs
      → members_into (members_of fs) done ≡ Some (done ++ fields_list fs)
  fields_again no_fields done sorted h = ap Some (sym (append-nil done))
  fields_again (field k v fs) done sorted h =
      rw (value_again v h.1, insert_pair_last done (k, v) (fields_list fs) sorted)
      (fields_again fs (done ++ (k, v) ∷ []) (one_on done (k, v) (fields_list fs) sorted) h.2 ∙ ap Some (append_assoc done ((k, v) ∷ []) (fields_list fs)))

-- ---- the data of the outline of a value

mutual
  outline_again : (v : Value) → IsJson v → of_json (outline (data_of v)) ≡ Some (data_of v)
  outline_again nothing h = refl
  outline_again (flag b) h = refl
  outline_again (whole (pos n)) h = ap (option_map number) (number_of-decimal n (grind (arith, h.1)))
  outline_again (whole (negsuc n)) h = ap (option_map number) (number_of-negative n (grind (arith, h.0)))
  outline_again (text s) h = refl
  outline_again (list vs) h = ap (option_map array) (items_again vs h)
  outline_again (members fs) h = ap (option_map object) (members_again fs [] h.0 h.1) ∙ ap (λ gs. Some (object (members_of gs))) (fields_of-fields_list fs)

  items_again : (vs : Values) → AreJson vs → of_items (items_outline (items_of vs)) ≡ Some (items_of vs)
  items_again no_values h = refl
  items_again (value v vs) h = rw (outline_again v h.0, items_again vs h.1) refl

  members_again : (fs : Fields) (done : List Pair) → IsStrictlySortedBy (slice_cmp nat_cmp) (keys_of (done ++ fields_list fs)) → HaveJson fs
      → of_members (members_outline (members_of fs)) (members_of (fields_of done)) ≡ Some (members_of (fields_of (done ++ fields_list fs)))
  members_again no_fields done sorted h = ap (λ ms. Some (members_of (fields_of ms))) (sym (append-nil done))
  members_again (field k v fs) done sorted h =
      rw (outline_again v h.1, put_pair_last done (k, v) (fields_list fs) sorted)
      (members_again fs (done ++ (k, v) ∷ []) (one_on done (k, v) (fields_list fs) sorted) h.2 ∙ ap (λ ms. Some (members_of (fields_of ms))) (append_assoc done ((k, v) ∷ []) (fields_list fs)))

-- ---- its tokens can be written

printable-append : (ts us : List Token) → ArePrintable ts → ArePrintable us → ArePrintable (ts ++ us)
unfolding ArePrintable
printable-append [] us h k = k
printable-append (t ∷ ts) us h k = (h.0, printable-append ts us h.1 k)

mutual
  unfolding ArePrintable

  printable : (v : Value) → IsJson v → ArePrintable (tree.json_tokens (outline (data_of v)))
  printable nothing h = (tt, tt)
  printable (flag b) h = (tt, tt)
  printable (whole (pos n)) h = (IsNumber-decimal n (grind (arith, h.1)), tt)
  printable (whole (negsuc n)) h = (IsNumber-signed_decimal (negsuc n) (grind (arith, h.0)), tt)
  printable (text s) h = (tt, tt)
  printable (list vs) h = (tt, items_printable vs h)
  printable (members fs) h = (tt, members_printable fs h.1)

  items_printable : (vs : Values) → AreJson vs → ArePrintable (tree.items_tokens (items_outline (items_of vs)))
  items_printable no_values h = (tt, tt)
  items_printable (value v vs) h = printable-append _ _ (printable v h.0) (items_printable vs h.1)

  members_printable : (fs : Fields) → HaveJson fs → ArePrintable (tree.members_tokens (members_outline (members_of fs)))
  members_printable no_fields h = (tt, tt)
  members_printable (field k v fs) h = (tt, printable-append _ _ (printable v h.1) (members_printable fs h.2))

-- ---- depths

mutual
  depth-outline : (v : Value) → tree.depth (outline (data_of v)) ≡ depth v
  depth-outline nothing = refl
  depth-outline (flag b) = refl
  depth-outline (whole z) = refl
  depth-outline (text s) = refl
  depth-outline (list vs) = ap suc (depth-items vs)
  depth-outline (members fs) = ap suc (depth-members fs)

  depth-items : (vs : Values) → tree.items_depth (items_outline (items_of vs)) ≡ values_depth vs
  depth-items no_values = refl
  depth-items (value v vs) = rw (depth-outline v, depth-items vs) refl

  depth-members : (fs : Fields) → tree.members_depth (members_outline (members_of fs)) ≡ fields_depth fs
  depth-members no_fields = refl
  depth-members (field k v fs) = rw (depth-outline v, depth-members fs) refl

mutual
  depth-data_of : (v : Value) → data_depth (data_of v) ≡ depth v
  depth-data_of nothing = refl
  depth-data_of (flag b) = refl
  depth-data_of (whole z) = refl
  depth-data_of (text s) = refl
  depth-data_of (list vs) = ap suc (depth-items_of vs)
  depth-data_of (members fs) = ap suc (depth-members_of fs)

  depth-items_of : (vs : Values) → items_depth (items_of vs) ≡ values_depth vs
  depth-items_of no_values = refl
  depth-items_of (value v vs) = rw (depth-data_of v, depth-items_of vs) refl

  depth-members_of : (fs : Fields) → members_depth (members_of fs) ≡ fields_depth fs
  depth-members_of no_fields = refl
  depth-members_of (field k v fs) = rw (depth-data_of v, depth-members_of fs) refl

-- ---- the text

-- what `read` makes of a value and the tokens behind it
abbrev last : Option (json.Json × List Token) → Option Data
last o = option_and_then of_json (option_and_then (λ p. json.if_last p.0 p.1) o)

tokens_of_text : (v : Value) → IsJson v → tokens (text_of v) ≡ tree.json_tokens (outline (data_of v))
tokens_of_text v h = ap tokens (sym (print-outline (data_of v))) ∙ tokens-print _ (printable v h)

read_text : (v : Value) → IsJson v → depth v ≤ 60 → read (text_of v) ≡ Some (data_of v)
read_text v h shallow =
    ap last (ap (json.value max_depth) (tokens_of_text v h ∙ sym (append-nil _)) ∙ value-json_tokens (outline (data_of v)) max_depth [] (omega (arith, depth-outline v, shallow)))
    ∙ outline_again v h

not_below : (x y : ℕ) → x ≤ y → nat_lt y x ≡ false
not_below x y h = search rules

pub text_again : (v : Value) → IsJson v → IsUtf8 (text_of v) → depth v ≤ 60 → value_of_text (text_of v) ≡ Ok v
text_again v h utf8 shallow =
    rw (data_read (text_of v) (data_of v) utf8 (read_text v h shallow), depth-data_of v, not_below (depth v) 60 shallow, value_again v h) refl
