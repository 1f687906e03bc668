-- Members by name: those of children beside an object's fields.
use Rattle.std.proofs.Common.{◌≡◌, inl, inr, ℕ, Bool, true, false, cond, not, T, List, [], ◌∷◌, map, Option, Some, None, option_map, Ordering, Less, Equal, Greater, refl, sym, ap, ◌∙◌}
use Rattle.std.specs.Ordering.{nat_cmp, eq_by_cmp, is_eq, match_ordering}
use Rattle.std.specs.Cmp.Lexicographic.{slice_cmp}
use Rattle.std.proofs.lemmas.Cmp.{nat_list_cmp_total}
use Rattle.std.specs.BTreeMap.{insert_entry, is_at}
use Rattle.std.specs.Map.{lookup, remove_entry}
use Rattle.std.specs.FinMap.{find, put, is_sorted}
use Rattle.std.specs.FinMap.Entries.{below_all, by_order, find-put, same_entries}
use Rattle.room_json.specs.Value.{Value, merged}
use Rattle.room_ids.specs.declared.ids.NodeId.{NodeId}
use Rattle.room_nodes.specs.Steps.{with_fields, without_field}
use Rattle.room_nodes.proofs.Children.{text_exact}
use Rattle.room_nodes.proofs.Listing.{less_of, parts}
use Rattle.room_nodes.proofs.StepForm.{FieldsOf}
use Rattle.room_steps.proofs.Fields.{Named, key_self, same_name, without_none}

abbrev pub Sorted : FieldsOf → Type 0
Sorted fs = T (is_sorted (slice_cmp nat_cmp) fs)

abbrev pub at : List ℕ → FieldsOf → Option Value
at q fs = find (slice_cmp nat_cmp) q fs

-- the words of maps and those of nodes

ordered_same : {A : Type 0} (o : Ordering) (a b c : A) → match_ordering o a b c ≡ by_order o a b c
ordered_same Less a b c = refl
ordered_same Equal a b c = refl
ordered_same Greater a b c = refl

pub entry_put : (fs : FieldsOf) (k : List ℕ) (v : Value) → insert_entry (slice_cmp nat_cmp) fs k v ≡ put (slice_cmp nat_cmp) k v fs
entry_put [] k v = refl
entry_put (f ∷ fs) k v =
    ap (λ more. match_ordering (slice_cmp nat_cmp k f.0) ((k, v) ∷ f ∷ fs) ((f.0, v) ∷ fs) (f ∷ more)) (entry_put fs k v)
    ∙ ordered_same (slice_cmp nat_cmp k f.0) _ _ _

pub merged_with : (fs ms : FieldsOf) → merged fs ms ≡ with_fields ms fs
merged_with fs [] = refl
merged_with fs (m ∷ ms) = ap (λ gs. merged gs ms) (entry_put fs m.0 m.1) ∙ merged_with (put (slice_cmp nat_cmp) m.0 m.1 fs) ms

pub lookup_at : (q : List ℕ) (fs : FieldsOf) → lookup (is_at (slice_cmp nat_cmp q)) fs ≡ at q fs
lookup_at q [] = refl
lookup_at q (f ∷ fs) = ap (cond (eq_by_cmp (slice_cmp nat_cmp) q f.0) (Some f.1)) (lookup_at q fs)

none_among : (j : List ℕ) (fs : FieldsOf) → T (below_all (slice_cmp nat_cmp) j fs) → at j fs ≡ None
none_among j [] h = refl
none_among j (f ∷ fs) h =
    let p = less_of (slice_cmp nat_cmp j f.0) _ h in
    ap (λ o. cond (is_eq o) (Some f.1) (at j fs)) p.0 ∙ none_among j fs p.1

gone_by : (b : Bool) (k : List ℕ) (f : List ℕ × Value) (fs : FieldsOf) → eq_by_cmp (slice_cmp nat_cmp) k f.0 ≡ b → T (below_all (slice_cmp nat_cmp) f.0 fs)
    → remove_entry (is_at (slice_cmp nat_cmp k)) fs ≡ without_field k fs
    → cond b fs (f ∷ remove_entry (is_at (slice_cmp nat_cmp k)) fs) ≡ cond (not b) (f ∷ without_field k fs) (without_field k fs)
gone_by true k f fs is h more = sym (without_none k fs (ap (λ j. at j fs) (same_name k f.0 is) ∙ none_among f.0 fs h))
gone_by false k f fs is h more = ap (λ gs. f ∷ gs) more

-- a name that goes out
pub entry_gone : (k : List ℕ) (fs : FieldsOf) → Sorted fs → remove_entry (is_at (slice_cmp nat_cmp k)) fs ≡ without_field k fs
entry_gone k [] h = refl
entry_gone k (f ∷ fs) h =
    let p = parts (below_all (slice_cmp nat_cmp) f.0 fs) _ h in
    gone_by (eq_by_cmp (slice_cmp nat_cmp) k f.0) k f fs refl p.0 (entry_gone k fs p.1)

-- what is found of members beside fields

abbrev pub first_of : Option Value → Option Value → Option Value
first_of None o = o
first_of (Some v) o = Some v

pub first_none : (o : Option Value) → first_of o None ≡ o
first_none None = refl
first_none (Some v) = refl

with_by : (b : Bool) (e : List ℕ × Value) (o p : Option Value) → (b ≡ true → o ≡ None) → first_of o (cond b (Some e.1) p) ≡ first_of (cond b (Some e.1) o) p
with_by true e o p none = ap (λ x. first_of x (Some e.1)) (none refl)
with_by false e o p none = refl

pub found_with : (q : List ℕ) (ms fs : FieldsOf) → Sorted ms → at q (with_fields ms fs) ≡ first_of (at q ms) (at q fs)
found_with q [] fs h = refl
found_with q (m ∷ ms) fs h =
    let p = parts (below_all (slice_cmp nat_cmp) m.0 ms) _ h in
    found_with q ms (put (slice_cmp nat_cmp) m.0 m.1 fs) p.1
    ∙ ap (first_of (at q ms)) (find-put (slice_cmp nat_cmp) nat_list_cmp_total q m.0 m.1 fs)
    ∙ with_by (eq_by_cmp (slice_cmp nat_cmp) q m.0) m (at q ms) (at q fs) (λ is. ap (λ j. at j ms) (same_name q m.0 is) ∙ none_among m.0 ms p.0)

put_alike : (q k : List ℕ) (v : Value) (fs gs : FieldsOf) → at q fs ≡ at q gs → at q (put (slice_cmp nat_cmp) k v fs) ≡ at q (put (slice_cmp nat_cmp) k v gs)
put_alike q k v fs gs e =
    find-put (slice_cmp nat_cmp) nat_list_cmp_total q k v fs ∙ ap (cond (eq_by_cmp (slice_cmp nat_cmp) q k) (Some v)) e
    ∙ sym (find-put (slice_cmp nat_cmp) nat_list_cmp_total q k v gs)

put_own : (q k : List ℕ) (v : Value) (fs gs : FieldsOf) → k ≡ q → at q (put (slice_cmp nat_cmp) k v fs) ≡ at q (put (slice_cmp nat_cmp) k v gs)
put_own q k v fs gs e =
    let is : eq_by_cmp (slice_cmp nat_cmp) q k ≡ true = ap (eq_by_cmp (slice_cmp nat_cmp) q) e ∙ key_self q in
    find-put (slice_cmp nat_cmp) nat_list_cmp_total q k v fs ∙ ap (λ b. cond b (Some v) (at q fs)) is
    ∙ sym (find-put (slice_cmp nat_cmp) nat_list_cmp_total q k v gs ∙ ap (λ b. cond b (Some v) (at q gs)) is)

pub with_alike : (q : List ℕ) (ms fs gs : FieldsOf) → at q fs ≡ at q gs → at q (with_fields ms fs) ≡ at q (with_fields ms gs)
with_alike q [] fs gs e = e
with_alike q (m ∷ ms) fs gs e = with_alike q ms (put (slice_cmp nat_cmp) m.0 m.1 fs) (put (slice_cmp nat_cmp) m.0 m.1 gs) (put_alike q m.0 m.1 fs gs e)

-- a name that is set has what is set, whatever was there
pub found_set : (q : List ℕ) (ms fs gs : FieldsOf) → Named q ms → at q (with_fields ms fs) ≡ at q (with_fields ms gs)
found_set q [] fs gs m = absurd m
found_set q (m ∷ ms) fs gs h = elim h [
  | inl is ↦ with_alike q ms (put (slice_cmp nat_cmp) m.0 m.1 fs) (put (slice_cmp nat_cmp) m.0 m.1 gs) (put_own q m.0 m.1 fs gs is)
  | inr h ↦ found_set q ms (put (slice_cmp nat_cmp) m.0 m.1 fs) (put (slice_cmp nat_cmp) m.0 m.1 gs) h
]

pub same_members : (fs gs : FieldsOf) → Sorted fs → Sorted gs → ((q : List ℕ) → at q fs ≡ at q gs) → fs ≡ gs
same_members fs gs h k is = same_entries (slice_cmp nat_cmp) nat_list_cmp_total text_exact fs gs h k is

-- members of children

pub found_map : (g : NodeId → Value) (q : List ℕ) (cs : List (List ℕ × NodeId)) → at q (map (λ (e : List ℕ × NodeId). (e.0, g e.1)) cs) ≡ option_map g (find (slice_cmp nat_cmp) q cs)
found_map g q [] = refl
found_map g q (c ∷ cs) = map_by (eq_by_cmp (slice_cmp nat_cmp) q c.0) c.1 _ (found_map g q cs)
  where
    map_by : (b : Bool) (x : NodeId) (o : Option NodeId) {p : Option Value} → p ≡ option_map g o → cond b (Some (g x)) p ≡ option_map g (cond b (Some x) o)
    map_by true x o e = refl
    map_by false x o e = e
