-- Members merged, found by name.
use Rattle.std.proofs.Common.{◌≡◌, ℕ, Bool, true, false, cond, List, [], ◌∷◌, map, Option, Some, None, option_map, Ordering, Less, Equal, Greater, refl, sym, ap, ◌∙◌, subst}
use Rattle.std.specs.BTreeMap.{insert_entry}
use Rattle.std.specs.Cmp.Lexicographic.{slice_cmp}
use Rattle.std.specs.FinMap.{find, put}
use Rattle.std.specs.FinMap.Entries.{find-put}
use Rattle.std.specs.List.{AllByRecursion}
use Rattle.std.specs.List.Sorted.{IsStrictlySortedBy}
use Rattle.std.specs.Map.{keys_of}
use Rattle.std.specs.Ordering.{nat_cmp, eq_by_cmp, is_eq, match_ordering}
use Rattle.std.proofs.lemmas.Cmp.{nat_list_cmp_total}
use Rattle.room_ids.specs.declared.ids.NodeId.{NodeId}
use Rattle.room_json.specs.Value.{Value, merged}
use Rattle.room_nodes.specs.Ordered.{AreOrdered}
use Rattle.room_nodes.specs.Steps.{with_fields}
use Rattle.room_steps.proofs.Fields.{ordered_put, same_name}
use Rattle.room_effect.proofs.Local.{Kid, Pair}

abbrev pub or_else : {A : Type 0} → Option A → Option A → Option A
or_else None o = o
or_else (Some v) o = Some v

-- an entry in its place, by two names

insert_by : (o : Ordering) (k : List ℕ) (v : Value) (e : Pair) (us vs es : List Pair) → us ≡ vs → match_ordering o ((k, v) ∷ e ∷ es) ((e.0, v) ∷ es) (e ∷ us) ≡ match_ordering o ((k, v) ∷ e ∷ es) ((e.0, v) ∷ es) (e ∷ vs)
insert_by o k v e us vs es h = ap (λ ws. match_ordering o ((k, v) ∷ e ∷ es) ((e.0, v) ∷ es) (e ∷ ws)) h

pub insert_put : (fs : List Pair) (k : List ℕ) (v : Value) → insert_entry (slice_cmp nat_cmp) fs k v ≡ put (slice_cmp nat_cmp) k v fs
insert_put [] k v = refl
insert_put (e ∷ es) k v = insert_by (slice_cmp nat_cmp k e.0) k v e _ _ es (insert_put es k v)

pub find_insert : (q : List ℕ) (fs : List Pair) (k : List ℕ) (v : Value) → find (slice_cmp nat_cmp) q (insert_entry (slice_cmp nat_cmp) fs k v) ≡ cond (eq_by_cmp (slice_cmp nat_cmp) q k) (Some v) (find (slice_cmp nat_cmp) q fs)
find_insert q fs k v = ap (find (slice_cmp nat_cmp) q) (insert_put fs k v) ∙ find-put (slice_cmp nat_cmp) nat_list_cmp_total q k v fs

pub merged_with : (fs gs : List Pair) → merged fs gs ≡ with_fields gs fs
merged_with fs [] = refl
merged_with fs (g ∷ gs) = merged_with (insert_entry (slice_cmp nat_cmp) fs g.0 g.1) gs ∙ ap (with_fields gs) (insert_put fs g.0 g.1)

pub ordered_merged : (fs gs : List Pair) → AreOrdered fs → AreOrdered (merged fs gs)
ordered_merged fs [] h = h
ordered_merged fs (g ∷ gs) h = ordered_merged (insert_entry (slice_cmp nat_cmp) fs g.0 g.1) gs (subst AreOrdered (sym (insert_put fs g.0 g.1)) (ordered_put g.0 g.1 fs h))

-- what stands above a name hasn't it

not_less : (o : Ordering) → o ≡ Less → is_eq o ≡ false
not_less Less e = refl
not_less Equal e = cc
not_less Greater e = cc

pub none_above : {V : Type 0} (k : List ℕ) (gs : List (List ℕ × V)) → AllByRecursion (λ n. slice_cmp nat_cmp k n ≡ Less) (keys_of gs) → find (slice_cmp nat_cmp) k gs ≡ None
none_above k [] h = refl
none_above k (g ∷ gs) h = ap (λ b. cond b (Some g.1) (find (slice_cmp nat_cmp) k gs)) (not_less (slice_cmp nat_cmp k g.0) h.0) ∙ none_above k gs h.1

pub tail_ordered : (g : Pair) (gs : List Pair) → AreOrdered (g ∷ gs) → AllByRecursion (λ n. slice_cmp nat_cmp g.0 n ≡ Less) (keys_of gs) × AreOrdered gs
unfolding IsStrictlySortedBy
tail_ordered g gs h = (h.0, h.1)

-- the later ones stand before the earlier ones

merge_by : (q : List ℕ) (g : Pair) (gs : List Pair) (o : Option Value) (b : Bool) → eq_by_cmp (slice_cmp nat_cmp) q g.0 ≡ b → (b ≡ true → find (slice_cmp nat_cmp) q gs ≡ None)
    → or_else (find (slice_cmp nat_cmp) q gs) (cond b (Some g.1) o) ≡ or_else (cond b (Some g.1) (find (slice_cmp nat_cmp) q gs)) o
merge_by q g gs o true e none = ap (λ z. or_else z (Some g.1)) (none refl)
merge_by q g gs o false e none = refl

pub find_merged : (q : List ℕ) (fs gs : List Pair) → AreOrdered gs → find (slice_cmp nat_cmp) q (merged fs gs) ≡ or_else (find (slice_cmp nat_cmp) q gs) (find (slice_cmp nat_cmp) q fs)
find_merged q fs [] h = refl
find_merged q fs (g ∷ gs) h =
    let t = tail_ordered g gs h in
    find_merged q (insert_entry (slice_cmp nat_cmp) fs g.0 g.1) gs t.1
    ∙ ap (or_else (find (slice_cmp nat_cmp) q gs)) (find_insert q fs g.0 g.1)
    ∙ merge_by q g gs (find (slice_cmp nat_cmp) q fs) (eq_by_cmp (slice_cmp nat_cmp) q g.0) refl (λ e. ap (λ k. find (slice_cmp nat_cmp) k gs) (same_name q g.0 e) ∙ none_above g.0 gs t.0)

-- values in the places of ids

map_by : (f : NodeId → Value) (b : Bool) (y : NodeId) (o : Option NodeId) → cond b (Some (f y)) (option_map f o) ≡ option_map f (cond b (Some y) o)
map_by f true y o = refl
map_by f false y o = refl

pub find_map : (f : NodeId → Value) (q : List ℕ) (es : List Kid) → find (slice_cmp nat_cmp) q (map (λ (e : Kid). (e.0, f e.1)) es) ≡ option_map f (find (slice_cmp nat_cmp) q es)
find_map f q [] = refl
find_map f q (e ∷ es) = ap (cond (eq_by_cmp (slice_cmp nat_cmp) q e.0) (Some (f e.1))) (find_map f q es) ∙ map_by f (eq_by_cmp (slice_cmp nat_cmp) q e.0) e.1 (find (slice_cmp nat_cmp) q es)
