-- The own operations as the shown tree has them: sealing keeps them, none stay none, and more go on top.
use Rattle.std.proofs.Common.{◌≡◌, ◌+◌, ◌-◌, ◌++◌, ◌∙◌, ℕ, Bool, true, false, if◌then◌else◌, nat_lt, List, [], ◌∷◌}
use Rattle.std.proofs.Common.{drop, Option, Some, None}
use Rattle.std.proofs.Common.{Result, Ok, Err, OnOk, OnErr, zero, suc, refl, sym, ap, subst}
use Rattle.std.proofs.lemmas.List.{append-nil, append_assoc}
use Rattle.room_nodes.specs.declared.nodes.Body.{Body}
use Rattle.room_nodes.specs.Shape.{Nodes}
use Rattle.room_nodes.specs.Steps.{fold, step}
use Rattle.room_model.specs.Account.{Batch, all_bodies, beyond, last_clock, rest_of}
use Rattle.room_overlay.specs.Own.{Own, acknowledged, added, batches_after, end_of, opened, own_bodies, sealed_at}
use Rattle.room_overlay.specs.Own.{sealed_own}

all_append : (xs ys : List Batch) → all_bodies (xs ++ ys) ≡ all_bodies xs ++ all_bodies ys
all_append [] ys = refl
all_append (x ∷ xs) ys =
    ap (λ bs. x.bodies ++ bs) (all_append xs ys) ∙ sym (append_assoc x.bodies (all_bodies xs) (all_bodies ys))

bodies_after : (c : ℕ) (bs : List Body) → all_bodies (batches_after c bs) ≡ bs
bodies_after c [] = refl
bodies_after c (b ∷ bs) = append-nil (b ∷ bs)

sealed_in : (s : Own) (o : Option (List Body)) → s.batch ≡ o
    → own_bodies (sealed_at s o) ≡ all_bodies s.issued ++ opened o
sealed_in s None e = ap (λ p. all_bodies s.issued ++ opened p) e
sealed_in s (Some bs) e =
    append-nil (all_bodies (s.issued ++ batches_after (end_of s) bs))
    ∙ all_append s.issued (batches_after (end_of s) bs)
    ∙ ap (λ xs. all_bodies s.issued ++ xs) (bodies_after (end_of s) bs)

pub sealed_bodies : (s : Own) → own_bodies (sealed_own s) ≡ own_bodies s
sealed_bodies s = sealed_in s s.batch refl

nothing_of : (xs ys : List Body) → xs ++ ys ≡ [] → (xs ≡ []) × (ys ≡ [])
nothing_of [] ys e = (refl, e)
nothing_of (x ∷ xs) ys e = absurd (some_not x (xs ++ ys) e)
  where
    some_not : (x : Body) (xs : List Body) → x ∷ xs ≡ [] → ⊥
    some_not x xs e = subst (λ l. elim l as (λ _. Type 0) [ [] ↦ ⊥ | ◌∷◌ y (ys → _) ↦ Unit {0} ]) e tt

drop_none : (n : ℕ) (bs : List Body) → bs ≡ [] → drop n bs ≡ []
drop_none zero bs e = e
drop_none (suc n) bs e = ap (drop (suc n)) e

rest_none : (c : ℕ) (xs : List Batch) → all_bodies xs ≡ [] → all_bodies (beyond c xs) ≡ []
rest_none c [] e = refl
rest_none c (x ∷ xs) e =
    let parts = nothing_of x.bodies (all_bodies xs) e in
    rest_first c x xs parts.0 (rest_none c xs parts.1) (nat_lt c (last_clock x))
  where
    rest_first : (c : ℕ) (x : Batch) (xs : List Batch) → x.bodies ≡ [] → all_bodies (beyond c xs) ≡ [] → (t : Bool)
        → all_bodies (if t then rest_of c x ∷ beyond c xs else beyond c xs) ≡ []
    rest_first c x xs none more true = λ i. drop_none (c + 1 - x.first) x.bodies none i ++ more i
    rest_first c x xs none more false = more

pub none_beyond : (s : Own) (c : ℕ) → own_bodies s ≡ [] → own_bodies (acknowledged s c) ≡ []
none_beyond s c e =
    let parts = nothing_of (all_bodies s.issued) (opened s.batch) e in
    λ i. rest_none c s.issued parts.0 i ++ parts.1 i

fold_append : (t : Nodes) (xs ys : List Body) → fold t (xs ++ ys) ≡ fold (fold t xs) ys
fold_append t [] ys = refl
fold_append t (x ∷ xs) ys = fold_append (step t x) xs ys

added_bodies : (s : Own) (bs : List Body) → own_bodies (added s bs) ≡ own_bodies s ++ bs
added_bodies s bs = sym (append_assoc (all_bodies s.issued) (opened s.batch) bs)

-- whether they were added or not
pub added_shown : {A E : Type 0} (r : Result A E) (t u v : Nodes) (s w : Own) (bs : List Body)
    → u ≡ fold t (own_bodies s)
    → OnOk r ((w ≡ added s bs) × (v ≡ fold u bs)) → OnErr r ((w ≡ s) × (v ≡ u)) → v ≡ fold t (own_bodies w)
added_shown (Ok x) t u v s w bs at ok err =
    ok.1
    ∙ ap (λ z. fold z bs) at
    ∙ sym (fold_append t (own_bodies s) bs)
    ∙ ap (fold t) (sym (added_bodies s bs) ∙ ap own_bodies (sym ok.0))
added_shown (Err e) t u v s w bs at ok err = err.1 ∙ at ∙ ap (λ z. fold t (own_bodies z)) (sym err.0)
