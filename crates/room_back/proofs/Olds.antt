-- The old fields of an update, gathered one by one.
use Rattle.std.proofs.Common.{◌≡◌, ℕ, cond, List, [], ◌∷◌, ◌++◌, Option, Some, None, Less, refl, sym, ap, ◌∙◌, subst}
use Rattle.std.proofs.Common.{append_assoc, append-nil}
use Rattle.std.specs.BTreeMap.{is_at}
use Rattle.std.specs.FinMap.{find}
use Rattle.std.specs.Ordering.{nat_cmp, eq_by_cmp}
use Rattle.std.specs.Cmp.Lexicographic.{slice_cmp}
use Rattle.std.specs.List.{AllByRecursion}
use Rattle.std.specs.List.Sorted.{IsStrictlySortedBy}
use Rattle.std.specs.Map.{keys_of, lookup}
use Rattle.room_json.specs.Value.{Value, merged}
use Rattle.room_json.proofs.Spelled.{insert_pair_last}
use Rattle.room_nodes.specs.declared.nodes.Node.{Node}
use Rattle.room_nodes.specs.Reversal.{field_of_node, old_field, old_fields}

abbrev Members : Type 0
Members = List (List ℕ × Value)

abbrev IsOrdered : Members → Type 0
IsOrdered fs = IsStrictlySortedBy (slice_cmp nat_cmp) (keys_of fs)

abbrev IsAbove : List ℕ → Members → Type 0
IsAbove k fs = AllByRecursion (λ j. slice_cmp nat_cmp k j ≡ Less) (keys_of fs)

-- a look-up in members is one in fields
pub lookup_find : (k : List ℕ) (fs : Members)
    → lookup (is_at (slice_cmp nat_cmp k)) fs ≡ find (slice_cmp nat_cmp) k fs
lookup_find k [] = refl
lookup_find k (f ∷ fs) = ap (cond (eq_by_cmp (slice_cmp nat_cmp) k f.0) (Some f.1)) (lookup_find k fs)

-- names in order are merged one behind the other

merged_on : (done rest : Members) → IsOrdered (done ++ rest) → merged done rest ≡ done ++ rest
merged_on done [] h = sym (append-nil done)
merged_on done (e ∷ rest) h =
    ap (λ es. merged es rest) (insert_pair_last done e rest h)
    ∙ merged_on (done ++ e ∷ []) rest (subst IsOrdered (sym (append_assoc done (e ∷ []) rest)) h)
    ∙ append_assoc done (e ∷ []) rest

-- the old fields stand in order, as names of the update do

above_by : (k j : List ℕ) (o : Option Value) (fs : Members) → slice_cmp nat_cmp k j ≡ Less → IsAbove k fs
    → IsAbove k (old_field j o ++ fs)
above_by k j None fs l h = h
above_by k j (Some v) fs l h = (l, h)

old_above : (k : List ℕ) (n : Option Node) (fs : Members) → IsAbove k fs → IsAbove k (old_fields n fs)
old_above k n [] h = tt
old_above k n (f ∷ fs) h = above_by k f.0 (field_of_node f.0 n) (old_fields n fs) h.0 (old_above k n fs h.1)

ordered_by : (k : List ℕ) (o : Option Value) (fs : Members) → IsAbove k fs → IsOrdered fs
    → IsOrdered (old_field k o ++ fs)
unfolding IsStrictlySortedBy
ordered_by k None fs b h = h
ordered_by k (Some v) fs b h = (b, h)

old_ordered : (n : Option Node) (fs : Members) → IsOrdered fs → IsOrdered (old_fields n fs)
unfolding IsStrictlySortedBy
old_ordered n [] h = tt
old_ordered n (f ∷ fs) h =
    ordered_by f.0 (field_of_node f.0 n) (old_fields n fs) (old_above f.0 n fs h.0) (old_ordered n fs h.1)

pub olds_merged : (n : Option Node) (fs : Members) → IsOrdered fs → merged [] (old_fields n fs) ≡ old_fields n fs
olds_merged n fs h = merged_on [] (old_fields n fs) (old_ordered n fs h)
