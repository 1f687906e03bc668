-- Entries by number, in order, beside the map that they make.
use Rattle.std.proofs.Common.{◌≡◌, ℕ, ◌+◌, ◌<◌, List, [], ◌∷◌, Bool, true, false, cond, ◌&&◌, not, nat_eq, length, filter, slice_get, get_or, drop, Option, Some, None, T, Less, Equal, Greater, Ordering, refl, sym, ap, ◌∙◌, subst, nat_cmp, true≢false, arith}
use Rattle.std.specs.Prelude.{Result, Ok, Err, OnOk, OnErr}
use Rattle.std.specs.Ordering.{eq_by_cmp, is_lt, is_eq}
use Rattle.std.specs.Cmp.{nat_cmp_total, eq_by_cmp_equiv, unsigned_ties, nat_cmp_is, ranked}
use Rattle.std.specs.FinMap.{FinMap, from_entries, from_sorted, entries, get, insert, remove, retain_keys, find, is_sorted, get-insert, get-remove, get-retain_keys, get-entries, get-from_entries, get-from_sorted, entries-from_sorted, same_map, nat_cmp-IsAntisymmetric, entries_sorted}
use Rattle.std.specs.FinMap.Entries.{below_all, where_key, is_sorted-where_key, find-where_key}
use Rattle.std.specs.Map.{lookup, keys_of, remove_entry}
use Rattle.std.specs.List.{AllByRecursion, IsDistinct}
use Rattle.std.specs.List.Sorted.{IsStrictlySortedBy, IsSorted}
use Rattle.std.proofs.lemmas.Map.Keys.{sorted_from_all_adjacent, Less-from_sorted, apart_from_distinct}
use Rattle.std.proofs.lemmas.Bool.{eqb-true}
use Rattle.std.proofs.lemmas.List.{drop_more}
use Rattle.std.proofs.lemmas.Option.{slice_get_within, get_or_from_slice_get}
use Rattle.room_model.specs.Server.{Link, holds, not_held_by, without_actor}

abbrev pub at : {X : Type 0} → List (ℕ × X) → ℕ → Option X
at es q = lookup (nat_eq q) es

less : (o : Ordering) → o ≡ Less → T (is_lt o)
less o e = subst (λ p. T (is_lt p)) (sym e) tt

both : (a b : Bool) → T a → T b → T (a && b)
both true b p q = q
both false b p q = p

pick : {A : Type 0} (b : Bool) (x y : A) (Q : A → Type 0) → Q x → Q y → Q (cond b x y)
pick true x y Q p q = p
pick false x y Q p q = q

-- numbers in order

flipped : (x y : ℕ) → nat_cmp x y ≡ Less → is_lt (nat_cmp y x) ≡ false
flipped x y e = ap is_lt (sym (nat_cmp_is y x Greater (ranked x y Less (sym e))))

less_of : (x y : ℕ) → is_lt (nat_cmp y x) ≡ false → nat_eq x y ≡ false → nat_cmp x y ≡ Less
less_of x y a b = by (nat_cmp x y) refl
  where
    by : (o : Ordering) → nat_cmp x y ≡ o → nat_cmp x y ≡ Less
    by Less e = e
    by Equal e = absurd (true≢false (sym (unsigned_ties x y ∙ ap is_eq e) ∙ b))
    by Greater e = absurd (true≢false (ap is_lt (nat_cmp_is y x Less (ranked x y Greater (sym e))) ∙ a))

pub sorted_of_strict : (ks : List ℕ) → IsStrictlySortedBy nat_cmp ks → IsSorted nat_cmp ks
sorted_of_strict ks s k d from within =
    flipped (get_or ks k d) (get_or ks (k + 1) d) (Less-from_sorted nat_cmp ks k (k + 1) d s (omega arith) within)

pub strict_of_sorted : (ks : List ℕ) → IsSorted nat_cmp ks → IsDistinct nat_eq ks → IsStrictlySortedBy nat_cmp ks
strict_of_sorted ks s u = sorted_from_all_adjacent nat_cmp_total ks 0 (λ k l.
    less_of (get_or ks k 0) (get_or ks (k + 1) 0) (s k 0 (omega arith) l) (apart_from_distinct nat_eq ks k (k + 1) 0 u (omega arith) l))

module _ {X : Type 0} where
  found : (es : List (ℕ × X)) (q : ℕ) → find nat_cmp q es ≡ at es q
  found [] q = refl
  found (e ∷ es) q =
      ap (λ b. cond b (Some e.1) (find nat_cmp q es)) (sym (unsigned_ties q e.0))
      ∙ ap (cond (nat_eq q e.0) (Some e.1)) (found es q)

  pub looked : (es : List (ℕ × X)) (q : ℕ) → get (from_entries {R = nat_cmp} es) q ≡ at es q
  looked es q = get-from_entries nat_cmp_total es q ∙ found es q

  turned : (k q : ℕ) (w o : Option X) → cond (nat_eq k q) w o ≡ cond (eq_by_cmp nat_cmp q k) w o
  turned k q w o = ap (λ b. cond b w o) (unsigned_ties k q ∙ (eq_by_cmp_equiv nat_cmp_total).symm k q)

  pub put_view : (k : ℕ) (v : X) (es fs : List (ℕ × X)) → ((q : ℕ) → at fs q ≡ cond (nat_eq k q) (Some v) (at es q))
      → from_entries {R = nat_cmp} fs ≡ insert (from_entries es) k v
  put_view k v es fs up = same_map nat_cmp_total nat_cmp-IsAntisymmetric _ _ (λ q.
      looked fs q ∙ up q ∙ turned k q (Some v) (at es q)
      ∙ sym (get-insert nat_cmp_total (from_entries es) k v q ∙ ap (cond (eq_by_cmp nat_cmp q k) (Some v)) (looked es q)))

  pub without_view : (k : ℕ) (es fs : List (ℕ × X)) → ((q : ℕ) → at fs q ≡ cond (nat_eq k q) None (at es q))
      → from_entries {R = nat_cmp} fs ≡ remove (from_entries es) k
  without_view k es fs up = same_map nat_cmp_total nat_cmp-IsAntisymmetric _ _ (λ q.
      looked fs q ∙ up q ∙ turned k q None (at es q)
      ∙ sym (get-remove nat_cmp_total (from_entries es) k q ∙ ap (cond (eq_by_cmp nat_cmp q k) None) (looked es q)))

  below_of : (k : ℕ) (es : List (ℕ × X)) → AllByRecursion (λ j. nat_cmp k j ≡ Less) (keys_of es) → T (below_all nat_cmp k es)
  below_of k [] h = tt
  below_of k (e ∷ es) h = both (is_lt (nat_cmp k e.0)) (below_all nat_cmp k es) (less _ h.0) (below_of k es h.1)

  sorted_of : (es : List (ℕ × X)) → IsStrictlySortedBy nat_cmp (keys_of es) → T (is_sorted nat_cmp es)
  unfolding IsStrictlySortedBy
  sorted_of [] h = tt
  sorted_of (e ∷ es) h = both (below_all nat_cmp e.0 es) (is_sorted nat_cmp es) (below_of e.0 es h.0) (sorted_of es h.1)

  -- the entries of the map are those in order
  pub entries_are : (es : List (ℕ × X)) → IsStrictlySortedBy nat_cmp (keys_of es) → entries (from_entries {R = nat_cmp} es) ≡ es
  entries_are es h =
      ap entries (same_map nat_cmp_total nat_cmp-IsAntisymmetric (from_entries es) (from_sorted es) (λ q.
      get-from_entries nat_cmp_total es q ∙ sym (get-from_sorted nat_cmp es q (sorted_of es h))))
      ∙ entries-from_sorted nat_cmp es (sorted_of es h)

  -- what goes out leaves the others in order

  below_removed : (P : ℕ → Type 0) (test : ℕ → Bool) (es : List (ℕ × X)) → AllByRecursion P (keys_of es)
      → AllByRecursion P (keys_of (remove_entry test es))
  below_removed P test [] h = h
  below_removed P test (e ∷ es) h =
      pick (test e.0) es (e ∷ remove_entry test es) (λ l. AllByRecursion P (keys_of l)) h.1 (h.0, below_removed P test es h.1)

  pub strict_removed : (test : ℕ → Bool) (es : List (ℕ × X)) → IsStrictlySortedBy nat_cmp (keys_of es)
      → IsStrictlySortedBy nat_cmp (keys_of (remove_entry test es))
  unfolding IsStrictlySortedBy
  strict_removed test [] h = h
  strict_removed test (e ∷ es) h =
      pick (test e.0) es (e ∷ remove_entry test es) (λ l. IsStrictlySortedBy nat_cmp (keys_of l)) h.1
      (below_removed (λ y. nat_cmp e.0 y ≡ Less) test es h.0, strict_removed test es h.1)

  below_kept : (P : ℕ → Type 0) (test : ℕ × X → Bool) (es : List (ℕ × X)) → AllByRecursion P (keys_of es)
      → AllByRecursion P (keys_of (filter test es))
  below_kept P test [] h = h
  below_kept P test (e ∷ es) h =
      let rest = below_kept P test es h.1 in
      pick (test e) (e ∷ filter test es) (filter test es) (λ l. AllByRecursion P (keys_of l)) (h.0, rest) rest

  pub strict_kept : (test : ℕ × X → Bool) (es : List (ℕ × X)) → IsStrictlySortedBy nat_cmp (keys_of es)
      → IsStrictlySortedBy nat_cmp (keys_of (filter test es))
  unfolding IsStrictlySortedBy
  strict_kept test [] h = h
  strict_kept test (e ∷ es) h =
      let rest = strict_kept test es h.1 in
      pick (test e) (e ∷ filter test es) (filter test es) (λ l. IsStrictlySortedBy nat_cmp (keys_of l))
      (below_kept (λ y. nat_cmp e.0 y ≡ Less) test es h.0, rest) rest

  -- the entries without one key
  pub entries_without : (m : FinMap nat_cmp X) (k : ℕ)
      → entries (remove m k) ≡ where_key nat_cmp (λ x. not (eq_by_cmp nat_cmp k x)) (entries m)
  entries_without m k =
      let p : ℕ → Bool = λ x. not (eq_by_cmp nat_cmp k x) in
      let sorted = is_sorted-where_key nat_cmp p (entries m) (entries_sorted m) in
      ap entries (same_map nat_cmp_total nat_cmp-IsAntisymmetric (remove m k) (from_sorted (where_key nat_cmp p (entries m))) (λ q.
      get-remove nat_cmp_total m k q ∙ without k q (get m q)
      ∙ ap (λ o. cond (p q) o None) (get-entries m q)
      ∙ sym (get-from_sorted nat_cmp _ q sorted
      ∙ find-where_key nat_cmp p q (λ x t. ap p (sym (nat_cmp-IsAntisymmetric q x t))) (entries m))))
      ∙ entries-from_sorted nat_cmp _ sorted
    where
      flip : (b : Bool) (o : Option X) → cond b None o ≡ cond (not b) o None
      flip true o = refl
      flip false o = refl

      without : (k q : ℕ) (o : Option X) → cond (eq_by_cmp nat_cmp q k) None o ≡ cond (not (eq_by_cmp nat_cmp k q)) o None
      without k q o = flip _ o ∙ ap (λ b. cond (not b) o None) ((eq_by_cmp_equiv nat_cmp_total).symm q k)

-- those that are kept, where a test goes by the connection

absent : (k : ℕ) (es : List (ℕ × Link)) → AllByRecursion (λ j. nat_cmp k j ≡ Less) (keys_of es) → at es k ≡ None
absent k [] h = refl
absent k (e ∷ es) h =
    ap (λ b. cond b (Some e.1) (at es k)) (unsigned_ties k e.0 ∙ ap is_eq h.0) ∙ absent k es h.1

abbrev pub stays : ℕ → ℕ × Link → Bool
stays a e = not (holds a e.1)

abbrev pub still : ℕ → Option Link → Option Link
still a o = cond (not_held_by a o) o None

same : (x y : ℕ) → nat_eq x y ≡ true → x ≡ y
same x y e = eqb-true x y e

kept_one : (a q : ℕ) (e : ℕ × Link) (es : List (ℕ × Link)) (b c : Bool) → nat_eq q e.0 ≡ b → stays a e ≡ c
    → (q ≡ e.0 → at es q ≡ None) → at (filter (stays a) es) q ≡ still a (at es q)
    → at (cond c (e ∷ filter (stays a) es) (filter (stays a) es)) q ≡ still a (cond b (Some e.1) (at es q))
kept_one a q e es true true is stay none rest = ap (λ b. cond b (Some e.1) (at (filter (stays a) es) q)) is
    ∙ sym (ap (λ b. cond b (Some e.1) None) stay)
kept_one a q e es true false is stay none rest =
    rest ∙ ap (still a) (none (same q e.0 is)) ∙ sym (ap (λ b. cond b (Some e.1) None) stay)
kept_one a q e es false true is stay none rest = ap (λ b. cond b (Some e.1) (at (filter (stays a) es) q)) is ∙ rest
kept_one a q e es false false is stay none rest = rest

pub kept_at : (a : ℕ) (es : List (ℕ × Link)) → IsStrictlySortedBy nat_cmp (keys_of es) → (q : ℕ)
    → at (filter (stays a) es) q ≡ still a (at es q)
unfolding IsStrictlySortedBy
kept_at a [] h q = refl
kept_at a (e ∷ es) h q =
    kept_one a q e es (nat_eq q e.0) (stays a e) refl refl (λ is. subst (λ k. at es k ≡ None) (sym is) (absent e.0 es h.0))
    (kept_at a es h.1 q)

pub kept_view : (a : ℕ) (es : List (ℕ × Link)) → IsStrictlySortedBy nat_cmp (keys_of es)
    → from_entries {R = nat_cmp} (filter (stays a) es) ≡ without_actor (from_entries es) a
kept_view a es h = same_map nat_cmp_total nat_cmp-IsAntisymmetric _ _ (λ q.
    looked (filter (stays a) es) q ∙ kept_at a es h q
    ∙ sym (get-retain_keys (from_entries es) (λ j. not_held_by a (get (from_entries es) j)) q
    (λ x t. ap (λ j. not_held_by a (get (from_entries {R = nat_cmp} es) j)) (sym (nat_cmp-IsAntisymmetric q x t)))
    ∙ ap (still a) (looked es q)))

-- a list from a place on begins with what stands there
pub from_place : {X : Type 0} (xs : List X) (i : ℕ) (x : X) → slice_get xs i ≡ Some x → drop i xs ≡ x ∷ drop (i + 1) xs
from_place xs i x e =
    drop_more xs i x (slice_get_within xs i x e) ∙ ap (λ y. y ∷ drop (i + 1) xs) (get_or_from_slice_get xs i x x e)

pub ruleset views = (put_view, without_view, kept_view, looked, entries_are, strict_removed, strict_kept)

pub strict_none : {X : Type 0} (es : List (ℕ × X)) → es ≡ [] → IsStrictlySortedBy nat_cmp (keys_of es)
unfolding IsStrictlySortedBy
strict_none es e = subst (λ fs. IsStrictlySortedBy nat_cmp (keys_of fs)) (sym e) tt

-- after an insertion in order, or none
pub strict_set : {X A E : Type 0} (r : Result A E) (es fs : List (ℕ × X)) → IsStrictlySortedBy nat_cmp (keys_of es)
    → OnOk r (IsSorted nat_cmp (keys_of es) → IsSorted nat_cmp (keys_of fs)) → OnErr r (fs ≡ es)
    → IsDistinct nat_eq (keys_of fs) → IsStrictlySortedBy nat_cmp (keys_of fs)
strict_set (Ok x) es fs s ok err u = strict_of_sorted (keys_of fs) (ok (sorted_of_strict (keys_of es) s)) u
strict_set (Err x) es fs s ok err u = subst (λ gs. IsStrictlySortedBy nat_cmp (keys_of gs)) (sym err) s
