-- Presences: members merged into others, and the patch that takes a patch back.
use Rattle.std.proofs.Common.{◌≡◌, ◌≤◌, ℕ, Bool, true, false, cond, List, [], ◌∷◌, Option, Some, Ordering, Less, Equal, Greater, refl, sym, ap, ◌∙◌, subst, arith}
use Rattle.std.specs.Prelude.{IsUtf8}
use Rattle.std.specs.Ordering.{nat_cmp, eq_by_cmp, match_ordering}
use Rattle.std.specs.Cmp.Lexicographic.{slice_cmp}
use Rattle.std.specs.List.Sorted.{IsStrictlySortedBy}
use Rattle.std.specs.Map.{keys_of}
use Rattle.std.specs.BTreeMap.{insert_entry}
use Rattle.std.specs.FinMap.{find, put}
use Rattle.std.specs.FinMap.Entries.{by_order}
use Rattle.std.proofs.Math.Nat.{le-max_left, le-max_right, max-le}
use Rattle.room_json.specs.Value.{Value, depth, fields_of, merged}
use Rattle.room_json.specs.Profile.{IsJson, HaveJson, AreSoundMembers}
use Rattle.room_nodes.specs.Ordered.{AreOrdered}
use Rattle.room_nodes.specs.Steps.{with_fields}
use Rattle.room_steps.proofs.Fields.{ordered_with}
use Rattle.room_model.specs.Edits.{fields_most}
use Rattle.room_model.specs.Presence.{or_null, back_of}
use Rattle.room_model.specs.Sound.{IsValidPatch}

abbrev pub Members : Type 0
Members = List (List ℕ × Value)

-- merging puts one member after another

put_by : (o : Ordering) (a b c d : Members) → c ≡ d → match_ordering o a b c ≡ by_order o a b d
put_by Less a b c d e = refl
put_by Equal a b c d e = refl
put_by Greater a b c d e = e

put_is : (k : List ℕ) (v : Value) (fs : Members) → insert_entry (slice_cmp nat_cmp) fs k v ≡ put (slice_cmp nat_cmp) k v fs
put_is k v [] = refl
put_is k v (f ∷ fs) = put_by (slice_cmp nat_cmp k f.0) ((k, v) ∷ f ∷ fs) ((f.0, v) ∷ fs) _ _ (ap (λ (gs : Members). f ∷ gs) (put_is k v fs))

merged_is : (fs es : Members) → merged fs es ≡ with_fields es fs
merged_is fs [] = refl
merged_is fs (e ∷ es) = ap (λ (gs : Members). merged gs es) (put_is e.0 e.1 fs) ∙ merged_is (put (slice_cmp nat_cmp) e.0 e.1 fs) es

ordered_merged : (fs es : Members) → AreOrdered fs → AreOrdered (merged fs es)
ordered_merged fs es h = subst AreOrdered (sym (merged_is fs es)) (ordered_with es fs h)

-- values of the profile

have_by : (o : Ordering) (k : List ℕ) (v : Value) (e : List ℕ × Value) (es more : Members) → IsUtf8 k → IsJson v → HaveJson (fields_of (e ∷ es)) → HaveJson (fields_of more)
    → HaveJson (fields_of (match_ordering o ((k, v) ∷ e ∷ es) ((e.0, v) ∷ es) (e ∷ more)))
have_by Less k v e es more name json h m = (name, json, h)
have_by Equal k v e es more name json h m = (h.0, json, h.2)
have_by Greater k v e es more name json h m = (h.0, h.1, m)

have_inserted : (k : List ℕ) (v : Value) (fs : Members) → IsUtf8 k → IsJson v → HaveJson (fields_of fs) → HaveJson (fields_of (insert_entry (slice_cmp nat_cmp) fs k v))
have_inserted k v [] name json h = (name, json, tt)
have_inserted k v (f ∷ fs) name json h = have_by (slice_cmp nat_cmp k f.0) k v f fs (insert_entry (slice_cmp nat_cmp) fs k v) name json h (have_inserted k v fs name json h.2)

have_merged : (fs es : Members) → HaveJson (fields_of fs) → HaveJson (fields_of es) → HaveJson (fields_of (merged fs es))
have_merged fs [] h k = h
have_merged fs (e ∷ es) h k = have_merged (insert_entry (slice_cmp nat_cmp) fs e.0 e.1) es (have_inserted e.0 e.1 fs k.0 k.1 h) k.2

pub sound_merged : (fs es : Members) → AreSoundMembers fs → AreSoundMembers es → AreSoundMembers (merged fs es)
sound_merged fs es h k = record { ordered = ordered_merged fs es h.ordered; json = have_merged fs es h.json k.json }

-- depths

most_head : (f : List ℕ × Value) (fs : Members) (m : ℕ) → fields_most (f ∷ fs) ≤ m → depth f.1 ≤ m
most_head f fs m h = omega (arith, h, le-max_left (depth f.1) (fields_most fs))

most_tail : (f : List ℕ × Value) (fs : Members) (m : ℕ) → fields_most (f ∷ fs) ≤ m → fields_most fs ≤ m
most_tail f fs m h = omega (arith, h, le-max_right (depth f.1) (fields_most fs))

low_by : (o : Ordering) (k : List ℕ) (v : Value) (e : List ℕ × Value) (es more : Members) (m : ℕ) → depth v ≤ m → fields_most (e ∷ es) ≤ m → fields_most more ≤ m
    → fields_most (match_ordering o ((k, v) ∷ e ∷ es) ((e.0, v) ∷ es) (e ∷ more)) ≤ m
low_by Less k v e es more m d h l = max-le d h
low_by Equal k v e es more m d h l = max-le d (most_tail e es m h)
low_by Greater k v e es more m d h l = max-le (most_head e es m h) l

low_inserted : (k : List ℕ) (v : Value) (fs : Members) (m : ℕ) → depth v ≤ m → fields_most fs ≤ m → fields_most (insert_entry (slice_cmp nat_cmp) fs k v) ≤ m
low_inserted k v [] m d h = max-le d (omega arith)
low_inserted k v (f ∷ fs) m d h = low_by (slice_cmp nat_cmp k f.0) k v f fs (insert_entry (slice_cmp nat_cmp) fs k v) m d h (low_inserted k v fs m d (most_tail f fs m h))

low_merged : (fs es : Members) (m : ℕ) → fields_most fs ≤ m → fields_most es ≤ m → fields_most (merged fs es) ≤ m
low_merged fs [] m h k = h
low_merged fs (e ∷ es) m h k = low_merged (insert_entry (slice_cmp nat_cmp) fs e.0 e.1) es m (low_inserted e.0 e.1 fs m (most_head e es m k) h) (most_tail e es m k)

pub valid_merged : (me patch : Members) → IsValidPatch me → IsValidPatch patch → IsValidPatch (merged me patch)
valid_merged me patch h k = record { sound = sound_merged me patch h.sound k.sound; shallow = low_merged me patch 50 h.shallow k.shallow }

-- the patch that takes a patch back

null_by : (b : Bool) (v : Value) (o : Option Value) → IsJson v → IsJson (or_null o) → IsJson (or_null (cond b (Some v) o))
null_by true v o j h = j
null_by false v o j h = h

found_json : (k : List ℕ) (fs : Members) → HaveJson (fields_of fs) → IsJson (or_null (find (slice_cmp nat_cmp) k fs))
found_json k [] h = tt
found_json k (f ∷ fs) h = null_by (eq_by_cmp (slice_cmp nat_cmp) k f.0) f.1 (find (slice_cmp nat_cmp) k fs) h.1 (found_json k fs h.2)

depth_by : (b : Bool) (v : Value) (o : Option Value) (m : ℕ) → depth v ≤ m → depth (or_null o) ≤ m → depth (or_null (cond b (Some v) o)) ≤ m
depth_by true v o m d h = d
depth_by false v o m d h = h

found_low : (k : List ℕ) (fs : Members) (m : ℕ) → fields_most fs ≤ m → depth (or_null (find (slice_cmp nat_cmp) k fs)) ≤ m
found_low k [] m h = omega arith
found_low k (f ∷ fs) m h = depth_by (eq_by_cmp (slice_cmp nat_cmp) k f.0) f.1 (find (slice_cmp nat_cmp) k fs) m (most_head f fs m h) (found_low k fs m (most_tail f fs m h))

back_keys : (me patch : Members) → keys_of (back_of me patch) ≡ keys_of patch
back_keys me [] = refl
back_keys me (f ∷ fs) = ap (λ (ks : List (List ℕ)). f.0 ∷ ks) (back_keys me fs)

back_json : (me patch : Members) → HaveJson (fields_of me) → HaveJson (fields_of patch) → HaveJson (fields_of (back_of me patch))
back_json me [] h k = tt
back_json me (f ∷ fs) h k = (k.0, found_json f.0 me h, back_json me fs h k.2)

back_low : (me patch : Members) (m : ℕ) → fields_most me ≤ m → fields_most (back_of me patch) ≤ m
back_low me [] m h = omega arith
back_low me (f ∷ fs) m h = max-le (found_low f.0 me m h) (back_low me fs m h)

pub valid_back : (me patch : Members) → IsValidPatch me → AreSoundMembers patch → IsValidPatch (back_of me patch)
valid_back me patch h k = record {
  sound = record { ordered = subst (IsStrictlySortedBy (slice_cmp nat_cmp)) (sym (back_keys me patch)) k.ordered; json = back_json me patch h.sound.json k.json };
  shallow = back_low me patch 50 h.shallow;
}
