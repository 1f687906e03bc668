-- Maps from numbers as lists of their entries.
use Rattle.std.proofs.Common.{◌≡◌, ℕ, Bool, true, false, cond, not, List, [], ◌∷◌, refl, sym, ap, ◌∙◌}
use Rattle.std.specs.Prelude.{Option, Some, None}
use Rattle.std.specs.Ordering.{nat_cmp, eq_by_cmp}
use Rattle.std.specs.Cmp.{nat_cmp_total}
use Rattle.std.specs.FinMap.{FinMap, get, insert, remove, retain_keys, entries, empty, from_entries, from_sorted, find, put, same_map, nat_cmp-IsAntisymmetric, get-empty, get-from_entries, get-from_sorted, get-insert, get-remove, get-retain_keys, entries-insert, entries-from_sorted}
use Rattle.std.specs.FinMap.Entries.{where_key, find-put, find-where_key}
use Rattle.std.specs.declared.cmp.Ordering.TheVariants.{Equal}

module _ {X : Type 0} where
  -- the map of these entries
  abbrev pub M : List (ℕ × X) → FinMap nat_cmp X
  M es = from_entries {R = nat_cmp} es

  same : (m n : FinMap nat_cmp X) → ((q : ℕ) → get m q ≡ get n q) → m ≡ n
  same m n h = same_map nat_cmp_total nat_cmp-IsAntisymmetric m n h

  pub get_M : (es : List (ℕ × X)) (k : ℕ) → get (M es) k ≡ find nat_cmp k es
  get_M es k = get-from_entries nat_cmp_total es k

  pub insert_M : (es : List (ℕ × X)) (k : ℕ) (v : X) → insert (M es) k v ≡ M (put nat_cmp k v es)
  insert_M es k v = same _ _ (λ q.
      get-insert nat_cmp_total (M es) k v q ∙ ap (λ (o : Option X). cond (eq_by_cmp nat_cmp q k) (Some v) o) (get_M es q)
      ∙ sym (get_M (put nat_cmp k v es) q ∙ find-put nat_cmp nat_cmp_total q k v es))

  -- in order
  abbrev pub sorted : List (ℕ × X) → List (ℕ × X)
  sorted [] = []
  sorted (e ∷ es) = put nat_cmp e.0 e.1 (sorted es)

  entries_none : entries (empty {X = X} {R = nat_cmp}) ≡ []
  entries_none =
      ap entries (same empty (from_sorted []) (λ q. get-empty nat_cmp q ∙ sym (get-from_sorted nat_cmp [] q tt)))
      ∙ entries-from_sorted nat_cmp [] tt

  pub entries_M : (es : List (ℕ × X)) → entries (M es) ≡ sorted es
  entries_M [] = entries_none
  entries_M (e ∷ es) = entries-insert nat_cmp_total (M es) e.0 e.1 ∙ ap (put nat_cmp e.0 e.1) (entries_M es)

  pub retain_M : (es : List (ℕ × X)) (p : ℕ → Bool) → retain_keys (M es) p ≡ M (where_key nat_cmp p es)
  retain_M es p = same _ _ (λ q.
      get-retain_keys (M es) p q (alike q) ∙ ap (λ (o : Option X). cond (p q) o None) (get_M es q)
      ∙ sym (get_M (where_key nat_cmp p es) q ∙ find-where_key nat_cmp p q (alike q) es))
    where
      alike : (q x : ℕ) → nat_cmp q x ≡ Equal → p x ≡ p q
      alike q x e = ap p (sym (nat_cmp-IsAntisymmetric q x e))

  abbrev pub without : ℕ → List (ℕ × X) → List (ℕ × X)
  without k es = where_key nat_cmp (λ x. not (eq_by_cmp nat_cmp x k)) es

  turned : (b : Bool) (o : Option X) → cond (not b) o None ≡ cond b None o
  turned true o = refl
  turned false o = refl

  pub remove_M : (es : List (ℕ × X)) (k : ℕ) → remove (M es) k ≡ M (without k es)
  remove_M es k = same _ _ (λ q.
      get-remove nat_cmp_total (M es) k q ∙ sym (turned (eq_by_cmp nat_cmp q k) (get (M es) q))
      ∙ ap (λ (o : Option X). cond (not (eq_by_cmp nat_cmp q k)) o None) (get_M es q)
      ∙ sym (get_M (without k es) q ∙ find-where_key nat_cmp (λ x. not (eq_by_cmp nat_cmp x k)) q (alike q) es))
    where
      alike : (q x : ℕ) → nat_cmp q x ≡ Equal → not (eq_by_cmp nat_cmp x k) ≡ not (eq_by_cmp nat_cmp q k)
      alike q x e = ap (λ (y : ℕ). not (eq_by_cmp nat_cmp y k)) (sym (nat_cmp-IsAntisymmetric q x e))
