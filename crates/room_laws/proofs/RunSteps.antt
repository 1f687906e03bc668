-- A run after a step.
use Rattle.std.proofs.Common.{◌≡◌, ℕ, ◌==◌, Bool, true, false, cond, List, [], ◌∷◌, ◌++◌, refl, sym, ap, ◌∙◌, append-nil, ⊎_elim}
use Rattle.std.specs.Prelude.{Option, Some, None, not, ◌||◌, ◌&&◌}
use Rattle.std.proofs.lemmas.Bool.{cases_eq, eq-eqb, ne_eqb}
use Rattle.room_log.specs.Log.{Entry, Join, Updated, updates_of}
use Rattle.room_model.specs.Account.{Batch}
use Rattle.room_model.specs.World.{issued_by}
use Rattle.room_model.specs.Run.{issued_of, all_given, is_owner}

pub updates_of-append : (es fs : List Entry) → updates_of (es ++ fs) ≡ updates_of es ++ updates_of fs
updates_of-append [] fs = refl
updates_of-append (Join a key name ∷ es) fs = updates_of-append es fs
updates_of-append (Updated u ∷ es) fs = ap (λ us. u ∷ us) (updates_of-append es fs)

pub updates_of-nil : (es : List Entry) → updates_of (es ++ []) ≡ updates_of es
updates_of-nil es = ap updates_of (append-nil es)

pub issued_of-append : (c : ℕ) (xs ys : List (ℕ × Batch)) → issued_of c (xs ++ ys) ≡ issued_of c xs ++ issued_of c ys
issued_of-append c [] ys = refl
issued_of-append c (e ∷ es) ys = elim (e.0 == c) as (λ b. cond b (e.1 ∷ issued_of c (es ++ ys)) (issued_of c (es ++ ys)) ≡ cond b (e.1 ∷ issued_of c es) (issued_of c es) ++ issued_of c ys) [
  | true ↦ ap (λ bs. e.1 ∷ bs) (issued_of-append c es ys)
  | false ↦ issued_of-append c es ys
]

own : (c : ℕ) (bs : List Batch) → issued_of c (issued_by c bs) ≡ bs
own c [] = refl
own c (b ∷ bs) = rw (eq-eqb c c refl) (ap (λ ds. b ∷ ds) (own c bs))

others : (c d : ℕ) (bs : List Batch) → (d ≡ c → ⊥) → issued_of d (issued_by c bs) ≡ []
others c d [] e = refl
others c d (b ∷ bs) e = rw (ne_eqb c d (λ i. e (sym i))) (others c d bs e)

pub issued_own : (c : ℕ) (xs : List (ℕ × Batch)) (bs : List Batch) → issued_of c (xs ++ issued_by c bs) ≡ issued_of c xs ++ bs
issued_own c xs bs = issued_of-append c xs (issued_by c bs) ∙ ap (λ ds. issued_of c xs ++ ds) (own c bs)

pub issued_others : (c d : ℕ) (xs : List (ℕ × Batch)) (bs : List Batch) → (d ≡ c → ⊥) → issued_of d (xs ++ issued_by c bs) ≡ issued_of d xs
issued_others c d xs bs e = issued_of-append d xs (issued_by c bs) ∙ ap (λ ds. issued_of d xs ++ ds) (others c d bs e) ∙ append-nil (issued_of d xs)

and_left : (a b : Bool) → (a && b) ≡ true → a ≡ true
and_left true b e = refl
and_left false b e = cc

and_right : (a b : Bool) → (a && b) ≡ true → b ≡ true
and_right true b e = e
and_right false b e = cc

and_both : (a b : Bool) → a ≡ true → b ≡ true → (a && b) ≡ true
and_both a b p q = rw (p, q) refl

-- what connections were given only grows
pub given_before : (c a : ℕ) (xs ys : List (ℕ × Option ℕ)) → all_given c a (xs ++ ys) ≡ true → all_given c a xs ≡ true
given_before c a [] ys h = refl
given_before c a (x ∷ xs) ys h = and_both _ _ (and_left _ _ h) (given_before c a xs ys (and_right (not (x.0 == a) || is_owner c x.1) _ h))

pub given_last : (c a : ℕ) (xs ys : List (ℕ × Option ℕ)) → all_given c a (xs ++ ys) ≡ true → all_given c a ys ≡ true
given_last c a [] ys h = h
given_last c a (x ∷ xs) ys h = given_last c a xs ys (and_right (not (x.0 == a) || is_owner c x.1) _ h)

pub given_all : (c a : ℕ) (xs ys : List (ℕ × Option ℕ)) → all_given c a xs ≡ true → all_given c a ys ≡ true → all_given c a (xs ++ ys) ≡ true
given_all c a [] ys h k = k
given_all c a (x ∷ xs) ys h k = and_both _ _ (and_left _ _ h) (given_all c a xs ys (and_right (not (x.0 == a) || is_owner c x.1) _ h) k)

owner_is : (c : ℕ) (o : Option ℕ) → is_owner c o ≡ true → o ≡ Some c
owner_is c None h = cc
owner_is c (Some d) h = ⊎_elim (λ e. ap Some e) (λ e. absurd (no (sym (ne_eqb d c e) ∙ h))) (cases_eq d c)
  where
    no : false ≡ true → ⊥
    no i = cc

-- the last one was given to the client's own
pub given_owner : (c a : ℕ) (o : Option ℕ) → all_given c a ((a, o) ∷ []) ≡ true → o ≡ Some c
given_owner c a o h = owner_is c o (test (a == a) (is_owner c o) (eq-eqb a a refl) (and_left (not (a == a) || is_owner c o) true h))
  where
    test : (b d : Bool) → b ≡ true → (not b || d) ≡ true → d ≡ true
    test true d e i = i
    test false d e i = cc

-- an actor that is another
pub given_else : (c a b : ℕ) (o : Option ℕ) → (b ≡ a → ⊥) → all_given c a ((b, o) ∷ []) ≡ true
given_else c a b o e = rw (ne_eqb b a e) refl
