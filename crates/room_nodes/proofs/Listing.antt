-- Entries in order, and those that stand among them.
use Rattle.std.proofs.Common.{◌≡◌, ◌⊎◌, inl, inr, Bool, true, false, cond, ◌&&◌, List, [], ◌∷◌, Option, Some, None, Ordering, Less, Equal, Greater, T, ℕ, refl, sym, ap, ◌∙◌, subst}
use Rattle.std.specs.Ordering.{eq_by_cmp, is_eq, is_lt, ordering_reverse}
use Rattle.std.specs.Cmp.{IsTotalOrder}
use Rattle.std.specs.FinMap.{find, put, is_sorted, IsAntisymmetric}
use Rattle.std.specs.FinMap.Entries.{by_order, below_all}
use Rattle.room_nodes.specs.Shape.{next_of}
use Rattle.room_nodes.proofs.Gets.{some_inj, some_none}
use Rattle.std.proofs.lemmas.Cmp.{tied_itself}

abbrev pub Has : {A : Type 0} → A → List A → Type 0
Has x [] = ⊥
Has x (y ∷ ys) = (y ≡ x) ⊎ Has x ys

pub is_equal : (o : Ordering) → is_eq o ≡ true → o ≡ Equal
is_equal Less e = cc
is_equal Equal e = refl
is_equal Greater e = cc

pub less_of : (o : Ordering) (b : Bool) → T (is_lt o && b) → (o ≡ Less) × T b
less_of Less b h = (refl, h)
less_of Equal b h = absurd h
less_of Greater b h = absurd h

pub parts : (a b : Bool) → T (a && b) → T a × T b
parts true b h = (tt, h)
parts false b h = absurd h

module _ {K X : Type 0} (R : K → K → Ordering) (exact : IsAntisymmetric R) where
  find_step : (q : K) (v w : X) (k : K) (es : List (K × X)) (b : Bool) → eq_by_cmp R q k ≡ b → cond b (Some w) (find R q es) ≡ Some v → (find R q es ≡ Some v → Has (q, v) es) → (◌≡◌ {A = K × X} (k, w) (q, v)) ⊎ Has (q, v) es
  find_step q v w k es true t e more = inl (λ i. (sym (exact q k (is_equal _ t)) i, some_inj w v e i))
  find_step q v w k es false t e more = inr (more e)

  -- what is found stands there
  pub find_has : (q : K) (v : X) (es : List (K × X)) → find R q es ≡ Some v → Has (q, v) es
  find_has q v [] e = absurd (some_none v (sym e))
  find_has q v (f ∷ es) e = find_step q v f.1 f.0 es _ refl e (find_has q v es)

  put_step : (o : Ordering) (k : K) (v : X) (e g : K × X) (es : List (K × X)) → R k e.0 ≡ o → Has g (by_order o ((k, v) ∷ e ∷ es) ((e.0, v) ∷ es) (e ∷ put R k v es)) → (Has g (put R k v es) → ((k, v) ≡ g) ⊎ Has g es) → ((k, v) ≡ g) ⊎ Has g (e ∷ es)
  put_step Less k v e g es is h more = h
  put_step Equal k v e g es is h more = elim h [
    | inl p ↦ inl (ap (λ (c : K). ((c, v))) (exact k e.0 is) ∙ p)
    | inr p ↦ inr (inr p)
  ]
  put_step Greater k v e g es is h more = elim h [
    | inl p ↦ inr (inl p)
    | inr p ↦ elim (more p) [ inl q ↦ inl q | inr q ↦ inr (inr q) ]
  ]

  -- an entry after a put is the new one or an old one
  pub put_has : (k : K) (v : X) (g : K × X) (es : List (K × X)) → Has g (put R k v es) → ((k, v) ≡ g) ⊎ Has g es
  put_has k v g [] h = h
  put_has k v g (e ∷ es) h = put_step (R k e.0) k v e g es refl h (put_has k v g es)

  module _ (total : IsTotalOrder R) where
    pub has_above : (x : K) (e : K × X) (es : List (K × X)) → T (below_all R x es) → Has e es → R x e.0 ≡ Less
    has_above x e [] h m = absurd m
    has_above x e (f ∷ es) h m = let p = less_of (R x f.0) _ h in elim m [
      | inl is ↦ ap (λ (g : K × X). R x g.0) (sym is) ∙ p.0
      | inr m ↦ has_above x e es p.1 m
    ]

    -- what stands in order is found
    pub has_find : (e : K × X) (es : List (K × X)) → T (is_sorted R es) → Has e es → find R e.0 es ≡ Some e.1
    has_find e [] h m = absurd m
    has_find e (f ∷ es) h m = let p = parts (below_all R f.0 es) _ h in elim m [
      | inl is ↦ subst (λ (g : K × X). find R g.0 (f ∷ es) ≡ Some g.1) is (ap (λ b. cond b (Some f.1) (find R f.0 es)) (ap is_eq (tied_itself total f.0)))
      | inr m ↦ ap (λ o. cond (is_eq o) (Some f.1) (find R e.0 es)) (total.antisymm e.0 f.0 ∙ ap ordering_reverse (has_above f.0 e es p.0 m)) ∙ has_find e es p.1 m
    ]

next_step : {X : Type 0} (k : List ℕ) (f e : List ℕ × X) (es : List (List ℕ × X)) (b : Bool) → cond b (Some f) (next_of (Some k) es) ≡ Some e → (next_of (Some k) es ≡ Some e → Has e es) → (f ≡ e) ⊎ Has e es
next_step k f e es true is more = inl (some_inj f e is)
next_step k f e es false is more = inr (more is)

-- what comes next stands there
pub next_has : {X : Type 0} (k : Option (List ℕ)) (e : List ℕ × X) (es : List (List ℕ × X)) → next_of k es ≡ Some e → Has e es
next_has k e [] is = absurd (some_none e (sym is))
next_has None e (f ∷ es) is = inl (some_inj f e is)
next_has (Some k) e (f ∷ es) is = next_step k f e es _ is (next_has (Some k) e es)
