-- Members that are put in one after another.
use Rattle.std.proofs.Common.{◌≡◌, ◌≤◌, ◌+◌, ℕ, List, [], ◌∷◌, Ordering, Less, Equal, Greater, nat_cmp, IsUtf8, refl, sym, ap, ◌∙◌, subst, arith}
use Rattle.std.specs.BTreeMap.{insert_entry}
use Rattle.std.specs.Cmp.Lexicographic.{slice_cmp}
use Rattle.std.specs.List.{AllByRecursion}
use Rattle.std.specs.List.Sorted.{IsStrictlySortedBy}
use Rattle.std.specs.Map.{keys_of}
use Rattle.std.specs.Ordering.{match_ordering, ordering_reverse}
use Rattle.std.proofs.lemmas.Cmp.{nat_list_cmp_total}
use Rattle.room_json.proofs.Values.{fields_list-fields_of}
use Rattle.room_json.specs.Profile.{IsJson, HaveJson}
use Rattle.room_json.specs.Value.{Value, fields_of, depth, fields_depth, merged, object_of}

-- in byte order of their names

abbrev pub Pair : Type 0
Pair = List ℕ × Value

abbrev IsAbove : List ℕ → List Pair → Type 0
IsAbove k fs = AllByRecursion (λ j. slice_cmp nat_cmp k j ≡ Less) (keys_of fs)

above_insert : (j : List ℕ) (fs : List Pair) (k : List ℕ) (v : Value) → IsAbove j fs → slice_cmp nat_cmp j k ≡ Less → IsAbove j (insert_entry (slice_cmp nat_cmp) fs k v)
above_insert j [] k v h less = (less, tt)
above_insert j (f ∷ fs) k v h less = by (slice_cmp nat_cmp k f.0) (above_insert j fs k v h.1 less)
  where
    by : (o : Ordering) → IsAbove j (insert_entry (slice_cmp nat_cmp) fs k v) → IsAbove j (match_ordering o ((k, v) ∷ f ∷ fs) ((f.0, v) ∷ fs) (f ∷ insert_entry (slice_cmp nat_cmp) fs k v))
    by Less rest = (less, h)
    by Equal rest = h
    by Greater rest = (h.0, rest)

above_all : (j k : List ℕ) (fs : List Pair) → slice_cmp nat_cmp j k ≡ Less → IsAbove k fs → IsAbove j fs
above_all j k [] less h = tt
above_all j k (f ∷ fs) less h = (nat_list_cmp_total.trans j k f.0 less h.0, above_all j k fs less h.1)

abbrev AreOrdered : List Pair → Type 0
AreOrdered fs = IsStrictlySortedBy (slice_cmp nat_cmp) (keys_of fs)

none_ordered : AreOrdered []
unfolding IsStrictlySortedBy
none_ordered = tt

insert_ordered : (fs : List Pair) (k : List ℕ) (v : Value) → AreOrdered fs → AreOrdered (insert_entry (slice_cmp nat_cmp) fs k v)
unfolding IsStrictlySortedBy
insert_ordered [] k v h = (tt, tt)
insert_ordered (f ∷ fs) k v h = by (slice_cmp nat_cmp k f.0) refl (insert_ordered fs k v h.1)
  where
    by : (o : Ordering) → slice_cmp nat_cmp k f.0 ≡ o → AreOrdered (insert_entry (slice_cmp nat_cmp) fs k v) → AreOrdered (match_ordering o ((k, v) ∷ f ∷ fs) ((f.0, v) ∷ fs) (f ∷ insert_entry (slice_cmp nat_cmp) fs k v))
    by Less e rest = ((e, above_all k f.0 fs e h.0), h)
    by Equal e rest = h
    by Greater e rest = (above_insert f.0 fs k v h.0 (nat_list_cmp_total.antisymm f.0 k ∙ ap ordering_reverse e), rest)

json_ordering : (o : Ordering) (a b c : List Pair) → HaveJson (fields_of a) → HaveJson (fields_of b) → HaveJson (fields_of c) → HaveJson (fields_of (match_ordering o a b c))
json_ordering Less a b c x y z = x
json_ordering Equal a b c x y z = y
json_ordering Greater a b c x y z = z

insert_json : (fs : List Pair) (k : List ℕ) (v : Value) → HaveJson (fields_of fs) → IsUtf8 k → IsJson v → HaveJson (fields_of (insert_entry (slice_cmp nat_cmp) fs k v))
insert_json [] k v h name new = (name, new, tt)
insert_json (f ∷ fs) k v h name new =
    json_ordering (slice_cmp nat_cmp k f.0) ((k, v) ∷ f ∷ fs) ((f.0, v) ∷ fs) (f ∷ insert_entry (slice_cmp nat_cmp) fs k v) (name, new, h) (h.0, new, h.2) (h.0, h.1, insert_json fs k v h.2 name new)

-- at most so deep

depth_ordering : (n : ℕ) (o : Ordering) (a b c : List Pair) → fields_depth (fields_of a) ≤ n → fields_depth (fields_of b) ≤ n → fields_depth (fields_of c) ≤ n → fields_depth (fields_of (match_ordering o a b c)) ≤ n
depth_ordering n Less a b c x y z = x
depth_ordering n Equal a b c x y z = y
depth_ordering n Greater a b c x y z = z

insert_depth : (n : ℕ) (fs : List Pair) (k : List ℕ) (v : Value) → depth v ≤ n → fields_depth (fields_of fs) ≤ n → fields_depth (fields_of (insert_entry (slice_cmp nat_cmp) fs k v)) ≤ n
insert_depth n [] k v new h = omega (arith, new)
insert_depth n (f ∷ fs) k v new h =
    depth_ordering n (slice_cmp nat_cmp k f.0) ((k, v) ∷ f ∷ fs) ((f.0, v) ∷ fs) (f ∷ insert_entry (slice_cmp nat_cmp) fs k v) (omega (arith, new, h)) (omega (arith, new, h)) (omega (arith, h, insert_depth n fs k v new (omega (arith, h))))

-- a list of them

abbrev pub EachJson : List Pair → Type 0
EachJson ms = HaveJson (fields_of ms)

merged_json : (found ms : List Pair) → AreOrdered found → EachJson found → EachJson ms → AreOrdered (merged found ms) × EachJson (merged found ms)
merged_json found [] ordered json new = (ordered, json)
merged_json found (m ∷ ms) ordered json new =
    merged_json (insert_entry (slice_cmp nat_cmp) found m.0 m.1) ms (insert_ordered found m.0 m.1 ordered) (insert_json found m.0 m.1 json new.0 new.1) new.2

-- an object of values of the profile is one
pub object_json : (ms : List Pair) → EachJson ms → IsJson (object_of ms)
object_json ms new =
    let made = merged_json [] ms none_ordered tt new in
    (subst AreOrdered (sym (fields_list-fields_of (merged [] ms))) made.0, made.1)

merged_depth : (n : ℕ) (found ms : List Pair) → fields_depth (fields_of found) ≤ n → fields_depth (fields_of ms) ≤ n → fields_depth (fields_of (merged found ms)) ≤ n
merged_depth n found [] h new = h
merged_depth n found (m ∷ ms) h new =
    merged_depth n (insert_entry (slice_cmp nat_cmp) found m.0 m.1) ms (insert_depth n found m.0 m.1 (omega (arith, new)) h) (omega (arith, new))

pub object_depth : (n : ℕ) (ms : List Pair) → fields_depth (fields_of ms) ≤ n → depth (object_of ms) ≤ n + 1
object_depth n ms h = omega (arith, merged_depth n [] ms (omega arith) h)
