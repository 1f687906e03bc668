-- A value that was read is no deeper than the levels of a frame.
use Rattle.std.proofs.Common.{◌≡◌, ◌≤◌, ℕ, suc, max, true, false, cond, nat_lt, List, [], ◌∷◌, Option, Some, None, option_map, option_and_then, Ordering, Less, Equal, Greater, Ok, Err, refl, subst, arith}
use Rattle.std.specs.Prelude.{Bool, ok_or, Result}
use Rattle.std.proofs.lemmas.Bool.Decides.{nat_tests}
use Rattle.std.specs.BTreeMap.{insert_entry}
use Rattle.std.specs.Cmp.Lexicographic.{slice_cmp}
use Rattle.std.specs.Ordering.{nat_cmp, match_ordering}
use Rattle.serde_json.specs.Data as read
use Rattle.room_json.specs.Fields.{and_then}
use Rattle.room_json.specs.Reading.{Refusal, not_json, too_deep, bad_number, value_in, items_in, members_into, whole_in, data_in, profile_in, value_of_text}
use Rattle.room_msg.specs.Frame.{frame_value_in, refused}
use Rattle.room_json.specs.Value.{Value, depth, values_depth, fields_depth, values_of, fields_of, nothing, flag, whole, text, list, members}

abbrev Entry : Type 0
Entry = List ℕ × Value

abbrev deep : List Entry → ℕ
deep fs = fields_depth (fields_of fs)

by_order : (o : Ordering) (n : ℕ) (a b c : List Entry) → deep a ≤ n → deep b ≤ n → deep c ≤ n → deep (match_ordering o a b c) ≤ n
by_order Less n a b c x y z = x
by_order Equal n a b c x y z = y
by_order Greater n a b c x y z = z

inserted : (fs : List Entry) (k : List ℕ) (v : Value) (n : ℕ) → deep fs ≤ n → depth v ≤ n → deep (insert_entry (slice_cmp nat_cmp) fs k v) ≤ n
inserted [] k v n h d = omega (arith, d)
inserted (f ∷ fs) k v n h d =
    by_order (slice_cmp nat_cmp k f.0) n ((k, v) ∷ f ∷ fs) ((f.0, v) ∷ fs) (f ∷ insert_entry (slice_cmp nat_cmp) fs k v)
    (omega (arith, h, d)) (omega (arith, h, d)) (omega (arith, h, inserted fs k v n (omega (arith, h)) d))

map_some : {A B : Type 0} (f : A → B) (o : Option A) (y : B) → option_map f o ≡ Some y → (x : A) × (o ≡ Some x) × (f x ≡ y)
map_some f None y e = cc
map_some f (Some x) y e = (x, refl, cc)

then_some : {A B : Type 0} (f : A → Option B) (o : Option A) (y : B) → option_and_then f o ≡ Some y → (x : A) × (o ≡ Some x) × (f x ≡ Some y)
then_some f None y e = cc
then_some f (Some x) y e = (x, refl, e)

some_is : {A : Type 0} (x y : A) → Some x ≡ Some y → x ≡ y
some_is x y e = cc

scalar : (w v : Value) (n : ℕ) → depth w ≡ 0 → w ≡ v → depth v ≤ n
scalar w v n z e = subst (λ (u : Value). depth u ≤ n) e (omega (arith, z))

mutual
  value_depth : (d : read.Data) (v : Value) → value_in d ≡ Some v → depth v ≤ read.depth d
  value_depth read.null v e = scalar nothing v 0 refl (some_is nothing v e)
  value_depth (read.boolean b) v e = scalar (flag b) v 0 refl (some_is (flag b) v e)
  value_depth (read.number n) v e =
      let m = map_some whole (whole_in n) v e in
      scalar (whole m.0) v 0 refl m.2
  value_depth (read.string s) v e = scalar (text s) v 0 refl (some_is (text s) v e)
  value_depth (read.array ds) v e =
      let m = map_some (λ (vs : List Value). list (values_of vs)) (items_in ds) v e in
      subst (λ (u : Value). depth u ≤ suc (read.items_depth ds)) m.2 (omega (arith, items_deep ds m.0 m.1))
  value_depth (read.object ms) v e =
      let m = map_some (λ (fs : List Entry). members (fields_of fs)) (members_into ms []) v e in
      subst (λ (u : Value). depth u ≤ suc (read.members_depth ms)) m.2
      (omega (arith, members_deep ms [] m.0 (read.members_depth ms) (omega arith) (omega arith) m.1))

  items_deep : (ds : read.Items) (vs : List Value) → items_in ds ≡ Some vs → values_depth (values_of vs) ≤ read.items_depth ds
  items_deep read.no_items vs e = subst (λ (us : List Value). values_depth (values_of us) ≤ 0) (some_is [] vs e) (omega arith)
  items_deep (read.item d ds) vs e =
      let t = then_some (λ (v : Value). option_map (λ (us : List Value). v ∷ us) (items_in ds)) (value_in d) vs e in
      let m = map_some (λ (us : List Value). t.0 ∷ us) (items_in ds) vs t.2 in
      subst (λ (us : List Value). values_depth (values_of us) ≤ max (read.depth d) (read.items_depth ds)) m.2
      (omega (arith, value_depth d t.0 t.1, items_deep ds m.0 m.1))

  members_deep : (ms : read.Members) (found fs : List Entry) (n : ℕ) → deep found ≤ n → read.members_depth ms ≤ n → members_into ms found ≡ Some fs → deep fs ≤ n
  members_deep read.no_members found fs n h k e = subst (λ (gs : List Entry). deep gs ≤ n) (some_is found fs e) h
  members_deep (read.member key d ms) found fs n h k e =
      let t = then_some (λ (v : Value). members_into ms (insert_entry (slice_cmp nat_cmp) found key v)) (value_in d) fs e in
      members_deep ms (insert_entry (slice_cmp nat_cmp) found key t.0) fs n
      (inserted found key t.0 n h (omega (arith, k, value_depth d t.0 t.1))) (omega (arith, k)) t.2

-- a value that a text spells has at most 60 levels

ok_some : (o : Option Value) (v : Value) → ok_or o bad_number ≡ Ok v → o ≡ Some v
ok_some None v e = cc
ok_some (Some w) v e = cc

by_depth : (b : Bool) (d : read.Data) (v : Value) → nat_lt 60 (read.depth d) ≡ b → cond b (Err (too_deep (read.depth d))) (ok_or (value_in d) bad_number) ≡ Ok v → depth v ≤ 60
by_depth true d v t e = cc
by_depth false d v t e =
    let h : read.depth d ≤ 60 = grind (arith, nat_tests, t) in
    omega (arith, h, value_depth d v (ok_some (value_in d) v e))

by_data : (o : Option read.Data) (v : Value) → and_then (ok_or o not_json) profile_in ≡ Ok v → depth v ≤ 60
by_data None v e = cc
by_data (Some d) v e = by_depth (nat_lt 60 (read.depth d)) d v refl e

by_reading : (r : Result Value Refusal) (v : Value) → refused r ≡ Ok v → r ≡ Ok v
by_reading (Ok w) v e = cc
by_reading (Err x) v e = cc

pub text_depth : (t : List ℕ) (v : Value) → value_of_text t ≡ Ok v → depth v ≤ 60
text_depth t v e = by_data (data_in t) v e

pub frame_depth : (t : List ℕ) (v : Value) → frame_value_in t ≡ Ok v → depth v ≤ 60
frame_depth t v e = by_data (data_in t) v (by_reading (value_of_text t) v e)
