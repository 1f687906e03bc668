-- Fields removed and set, by calls and by the definitions.
use Rattle.std.proofs.Common.{◌≡◌, ℕ, Bool, true, false, cond, not, List, [], ◌∷◌, Some, None, is_some}
use Rattle.std.proofs.Common.{Ordering, Less, Equal, Greater, refl, sym, ap, ◌∙◌}
use Rattle.std.specs.Ordering.{nat_cmp, eq_by_cmp, is_eq, match_ordering}
use Rattle.std.specs.Cmp.Lexicographic.{slice_cmp}
use Rattle.std.specs.FinMap.{find, put}
use Rattle.std.specs.FinMap.Entries.{by_order}
use Rattle.std.specs.BTreeMap.{insert_entry, is_at}
use Rattle.std.specs.Map.{lookup, remove_entry, keys_of}
use Rattle.std.specs.List.{AllByRecursion}
use Rattle.std.specs.List.Sorted.{IsStrictlySortedBy}
use Rattle.room_json.specs.Value.{Value, merged}
use Rattle.room_nodes.specs.Steps.{with_fields, without_field}
use Rattle.room_apply.specs.Ways.{set_by}
use Rattle.room_nodes.proofs.Children.{text_exact}
use Rattle.room_nodes.proofs.Listing.{is_equal}

abbrev pub Members : Type 0
Members = List (List ℕ × Value)

pub lookup_find : (k : List ℕ) (fs : Members) → lookup (is_at (slice_cmp nat_cmp k)) fs ≡ find (slice_cmp nat_cmp) k fs
lookup_find k [] = refl
lookup_find k (f ∷ fs) = ap (cond (eq_by_cmp (slice_cmp nat_cmp) k f.0) (Some f.1)) (lookup_find k fs)

-- setting

ordered : (o : Ordering) (a b c : Members) → match_ordering o a b c ≡ by_order o a b c
ordered Less a b c = refl
ordered Equal a b c = refl
ordered Greater a b c = refl

pub insert_put : (k : List ℕ) (v : Value) (fs : Members)
    → insert_entry (slice_cmp nat_cmp) fs k v ≡ put (slice_cmp nat_cmp) k v fs
insert_put k v [] = refl
insert_put k v (f ∷ fs) = ordered (slice_cmp nat_cmp k f.0) _ _ _
    ∙ ap (λ gs. by_order (slice_cmp nat_cmp k f.0) ((k, v) ∷ f ∷ fs) ((f.0, v) ∷ fs) (f ∷ gs)) (insert_put k v fs)

pub merged_fields : (es fs : Members) → merged fs es ≡ with_fields es fs
merged_fields [] fs = refl
merged_fields (e ∷ es) fs = ap (λ gs. merged gs es) (insert_put e.0 e.1 fs)
    ∙ merged_fields es (put (slice_cmp nat_cmp) e.0 e.1 fs)

-- removing

kept_step : (k : List ℕ) (f : List ℕ × Value) (fs : Members) (b : Bool)
    → is_some (cond b (Some f.1) (find (slice_cmp nat_cmp) k fs)) ≡ false
    → (is_some (find (slice_cmp nat_cmp) k fs) ≡ false → without_field k fs ≡ fs)
    → cond (not b) (f ∷ without_field k fs) (without_field k fs) ≡ f ∷ fs
kept_step k f fs true e more = cc
kept_step k f fs false e more = ap (λ gs. f ∷ gs) (more e)

-- a field that isn't there
pub kept_fields : (k : List ℕ) (fs : Members) → is_some (find (slice_cmp nat_cmp) k fs) ≡ false
    → without_field k fs ≡ fs
kept_fields k [] e = refl
kept_fields k (f ∷ fs) e = kept_step k f fs (eq_by_cmp (slice_cmp nat_cmp) k f.0) e (kept_fields k fs)

above_step : (k : List ℕ) (f : List ℕ × Value) (fs : Members) (o : Ordering) → o ≡ Less
    → is_some (find (slice_cmp nat_cmp) k fs) ≡ false
    → is_some (cond (is_eq o) (Some f.1) (find (slice_cmp nat_cmp) k fs)) ≡ false
above_step k f fs Less e h = h
above_step k f fs Equal e h = cc
above_step k f fs Greater e h = cc

-- keys above k are not k
above_none : (k : List ℕ) (fs : Members) → AllByRecursion (λ y. slice_cmp nat_cmp k y ≡ Less) (keys_of fs)
    → is_some (find (slice_cmp nat_cmp) k fs) ≡ false
above_none k [] h = refl
above_none k (f ∷ fs) h = above_step k f fs (slice_cmp nat_cmp k f.0) h.0 (above_none k fs h.1)

gone_step : (k : List ℕ) (f : List ℕ × Value) (fs : Members) (b : Bool) → eq_by_cmp (slice_cmp nat_cmp) k f.0 ≡ b
    → AllByRecursion (λ y. slice_cmp nat_cmp f.0 y ≡ Less) (keys_of fs)
    → remove_entry (is_at (slice_cmp nat_cmp k)) fs ≡ without_field k fs
    → cond b fs (f ∷ remove_entry (is_at (slice_cmp nat_cmp k)) fs) ≡ cond (not b) (f ∷ without_field k fs)
    (without_field k fs)
gone_step k f fs true e h more = sym (ap (λ j. without_field j fs) (text_exact k f.0 (is_equal _ e))
    ∙ kept_fields f.0 fs (above_none f.0 fs h))
gone_step k f fs false e h more = ap (λ gs. f ∷ gs) more

pub removed_field : (k : List ℕ) (fs : Members) → IsStrictlySortedBy (slice_cmp nat_cmp) (keys_of fs)
    → remove_entry (is_at (slice_cmp nat_cmp k)) fs ≡ without_field k fs
unfolding IsStrictlySortedBy
removed_field k [] h = refl
removed_field k (f ∷ fs) h = gone_step k f fs _ refl h.0 (removed_field k fs h.1)

-- a name with the value that it has in other fields, or none

pub set_found : (k j : List ℕ) (v w : Value) (old all : Members) → j ≡ k → w ≡ v
    → Some v ≡ lookup (is_at (slice_cmp nat_cmp k)) old
    → insert_entry (slice_cmp nat_cmp) all j w ≡ set_by (find (slice_cmp nat_cmp) k old) k all
set_found k j v w old all a b e =
    ap (λ i. insert_entry (slice_cmp nat_cmp) all i w) a ∙ ap (insert_entry (slice_cmp nat_cmp) all k) b
    ∙ insert_put k v all
    ∙ ap (λ o. set_by o k all) (e ∙ lookup_find k old)

pub set_missing : (k : List ℕ) (old all : Members) → None ≡ lookup (is_at (slice_cmp nat_cmp k)) old
    → IsStrictlySortedBy (slice_cmp nat_cmp) (keys_of all)
    → remove_entry (is_at (slice_cmp nat_cmp k)) all ≡ set_by (find (slice_cmp nat_cmp) k old) k all
set_missing k old all e sorted = removed_field k all sorted ∙ ap (λ o. set_by o k all) (e ∙ lookup_find k old)
