-- Members that stand in order, put in one after another.
use Rattle.std.proofs.Common.{◌≡◌, ℕ, Bool, true, false, cond, ◌&&◌, not, List, [], ◌∷◌, ◌++◌, Less, refl, sym, ap, ◌∙◌}
use Rattle.std.proofs.Common.{subst, append_assoc, append-nil}
use Rattle.std.specs.Ordering.{nat_cmp}
use Rattle.std.specs.Cmp.Lexicographic.{slice_cmp}
use Rattle.std.specs.List.{AllByRecursion}
use Rattle.std.specs.List.Sorted.{IsStrictlySortedBy}
use Rattle.std.specs.Map.{keys_of}
use Rattle.room_json.specs.Value.{Value, merged}
use Rattle.room_json.proofs.Spelled.{insert_pair_last}
use Rattle.room_model.specs.Presence.{back_of, is_among, unsent_members}

abbrev Members : Type 0
Members = List (List ℕ × Value)

abbrev IsOrdered : Members → Type 0
IsOrdered fs = IsStrictlySortedBy (slice_cmp nat_cmp) (keys_of fs)

abbrev IsAbove : List ℕ → Members → Type 0
IsAbove k fs = AllByRecursion (λ j. slice_cmp nat_cmp k j ≡ Less) (keys_of fs)

merged_on : (done rest : Members) → IsOrdered (done ++ rest) → merged done rest ≡ done ++ rest
merged_on done [] h = sym (append-nil done)
merged_on done (e ∷ rest) h =
    ap (λ es. merged es rest) (insert_pair_last done e rest h)
    ∙ merged_on (done ++ e ∷ []) rest (subst IsOrdered (sym (append_assoc done (e ∷ []) rest)) h)
    ∙ append_assoc done (e ∷ []) rest

-- old values of a patch

back_keys : (me fs : Members) → keys_of (back_of me fs) ≡ keys_of fs
back_keys me [] = refl
back_keys me (f ∷ fs) = ap (λ ks. f.0 ∷ ks) (back_keys me fs)

pub back_merged : (me fs : Members) → IsStrictlySortedBy (slice_cmp nat_cmp) (keys_of fs)
    → merged [] (back_of me fs) ≡ back_of me fs
back_merged me fs h =
    merged_on [] (back_of me fs) (subst (IsStrictlySortedBy (slice_cmp nat_cmp)) (sym (back_keys me fs)) h)

-- members that are left out

above_by : (k : List ℕ) (f : List ℕ × Value) (b : Bool) (fs : Members) → slice_cmp nat_cmp k f.0 ≡ Less → IsAbove k fs
    → IsAbove k (cond b (f ∷ fs) fs)
above_by k f true fs l h = (l, h)
above_by k f false fs l h = h

left_above : (k : List ℕ) (unsent held : List (List ℕ)) (fs : Members) → IsAbove k fs
    → IsAbove k (unsent_members unsent held fs)
left_above k unsent held [] h = tt
left_above k unsent held (f ∷ fs) h =
    above_by k f (is_among f.0 unsent && not (is_among f.0 held)) (unsent_members unsent held fs) h.0
    (left_above k unsent held fs h.1)

ordered_by : (f : List ℕ × Value) (b : Bool) (fs : Members) → IsAbove f.0 fs → IsOrdered fs
    → IsOrdered (cond b (f ∷ fs) fs)
unfolding IsStrictlySortedBy
ordered_by f true fs a h = (a, h)
ordered_by f false fs a h = h

left_ordered : (unsent held : List (List ℕ)) (fs : Members) → IsOrdered fs → IsOrdered (unsent_members unsent held fs)
unfolding IsStrictlySortedBy
left_ordered unsent held [] h = tt
left_ordered unsent held (f ∷ fs) h =
    ordered_by f (is_among f.0 unsent && not (is_among f.0 held)) (unsent_members unsent held fs)
    (left_above f.0 unsent held fs h.0) (left_ordered unsent held fs h.1)

pub unsent_merged : (unsent held : List (List ℕ)) (fs : Members) → IsStrictlySortedBy (slice_cmp nat_cmp) (keys_of fs)
    → merged [] (unsent_members unsent held fs) ≡ unsent_members unsent held fs
unsent_merged unsent held fs h = merged_on [] (unsent_members unsent held fs) (left_ordered unsent held fs h)
