-- A number among others, which rise.
use Rattle.std.proofs.Common.{◌≡◌, ◌==◌, ℕ, suc, Bool, true, false, cond, nat_lt, nat_le, List, [], ◌∷◌, refl, sym, ap, ◌∙◌}
use Rattle.std.proofs.Common.{arith}
use Rattle.std.proofs.lemmas.Bool.Decides.{nat_tests}
use Rattle.std.specs.Prelude.{slice_get}
use Rattle.std.specs.List.{insert}
use Rattle.room_serving.specs.Serving.{with_lost}
use Rattle.room_turns.specs.Trying.{is_number, number_below}

by_true : {A : Type 0} (b : Bool) (x y : A) → b ≡ true → cond b x y ≡ x
by_true true x y e = refl
by_true false x y e = cc

by_false : {A : Type 0} (b : Bool) (x y : A) → b ≡ false → cond b x y ≡ y
by_false false x y e = refl
by_false true x y e = cc

same_way : (j k : ℕ) → (j == k) ≡ true → (k == j) ≡ true
same_way j k e = grind (arith, nat_tests)

other_way : (j k : ℕ) → (j == k) ≡ false → (k == j) ≡ false
other_way j k e = grind (arith, nat_tests)

below : (j k : ℕ) → nat_le k j ≡ true → (j == k) ≡ false → nat_lt k j ≡ true
below j k e n = grind (arith, nat_tests)

above : (j k : ℕ) → nat_le k j ≡ false → (k == j) ≡ false
above j k e = grind (arith, nat_tests)

not_below : (j k : ℕ) → nat_le k j ≡ false → nat_lt k j ≡ false
not_below j k e = grind (arith, nat_tests)

behind : (j k : ℕ) (js : List ℕ) → nat_le k j ≡ false → with_lost (j ∷ js) k ≡ j ∷ with_lost js k
behind j k js e =
    by_false (k == j) (j ∷ js) (cond (nat_lt k j) (k ∷ j ∷ js) (j ∷ with_lost js k)) (above j k e)
    ∙ by_false (nat_lt k j) (k ∷ j ∷ js) (j ∷ with_lost js k) (not_below j k e)

-- it is there

there_at : (j k : ℕ) (js : List ℕ) (b : Bool) → nat_le k j ≡ b
    → (is_number (slice_get js (number_below js k)) k ≡ true → with_lost js k ≡ js)
    → is_number (slice_get (j ∷ js) (cond b 0 (suc (number_below js k)))) k ≡ true → with_lost (j ∷ js) k ≡ j ∷ js
there_at j k js true is more e =
    by_true (k == j) (j ∷ js) (cond (nat_lt k j) (k ∷ j ∷ js) (j ∷ with_lost js k)) (same_way j k e)
there_at j k js false is more e = behind j k js is ∙ ap (λ (l : List ℕ). j ∷ l) (more e)

pub there : (js : List ℕ) (k : ℕ) → is_number (slice_get js (number_below js k)) k ≡ true → with_lost js k ≡ js
there [] k e = cc
there (j ∷ js) k e = there_at j k js (nat_le k j) refl (there js k) e

-- or it isn't

not_there_at : (j k : ℕ) (js : List ℕ) (b : Bool) → nat_le k j ≡ b
    → (is_number (slice_get js (number_below js k)) k ≡ false → insert js (number_below js k) k ≡ with_lost js k)
    → is_number (slice_get (j ∷ js) (cond b 0 (suc (number_below js k)))) k ≡ false
    → insert (j ∷ js) (cond b 0 (suc (number_below js k))) k ≡ with_lost (j ∷ js) k
not_there_at j k js true is more e = sym
    (by_false (k == j) (j ∷ js) (cond (nat_lt k j) (k ∷ j ∷ js) (j ∷ with_lost js k)) (other_way j k e)
    ∙ by_true (nat_lt k j) (k ∷ j ∷ js) (j ∷ with_lost js k) (below j k is e))
not_there_at j k js false is more e = ap (λ (l : List ℕ). j ∷ l) (more e) ∙ sym (behind j k js is)

pub not_there : (js : List ℕ) (k : ℕ) → is_number (slice_get js (number_below js k)) k ≡ false
    → insert js (number_below js k) k ≡ with_lost js k
not_there [] k e = refl
not_there (j ∷ js) k e = not_there_at j k js (nat_le k j) refl (not_there js k) e
