-- How many calls of the disk turns take, and when a compaction is due.
use Rattle.std.proofs.Common.{◌≡◌, ◌≤◌, ◌<◌, ◌+◌, ◌/◌, ◌%◌, ◌==◌, ◌||◌, ℕ, zero, suc, Bool, true, false, cond, List, [], ◌∷◌}
use Rattle.std.proofs.Common.{◌++◌, length, refl, sym, ap, ◌∙◌, subst, arith}
use Rattle.std.proofs.lemmas.Bool.Decides.{nat_tests}
use Rattle.room_log.specs.Log.{State, Entry, state_after, updates_of}
use Rattle.room_serving.specs.Serving.{group_of}
use Rattle.room_serving.specs.Turns.{has_round, is_round}
use Rattle.room_turns.specs.Holding.{after_turns, calls_of, calls_in}
use Rattle.room_turns.specs.Turning.{commit_calls, compact_calls}

-- one of the numbers is a multiple where the quotient rises

round_rises : (n : ℕ) → ((n + 1) % 1000 == 0) ≡ true → (n + 1) / 1000 ≡ n / 1000 + 1
round_rises n e = grind (arith, nat_tests)

round_stays : (n : ℕ) → ((n + 1) % 1000 == 0) ≡ false → (n + 1) / 1000 ≡ n / 1000
round_stays n e = grind (arith, nat_tests)

divides_more : (n k : ℕ) → n / 1000 ≤ (n + k) / 1000
divides_more n k = omega arith

moved : (n k : ℕ) → n + 1 + k ≡ n + suc k
moved n k = omega arith

either : (a b : Bool) → a ≡ false → b ≡ false → (a || b) ≡ false
either false false e f = refl
either true b e f = cc
either false true e f = cc

or_true : (a b : Bool) → (a ≡ false → b ≡ true) → (a || b) ≡ true
or_true true b h = refl
or_true false b h = h refl

no_step : (n k : ℕ) → n / 1000 ≡ (n + suc k) / 1000 → (b : Bool) → is_round (n + 1) ≡ b
    → ((n + 1) / 1000 ≡ (n + 1 + k) / 1000 → has_round (n + 1) k ≡ false) → has_round n (suc k) ≡ false
no_step n k e true is rest =
    let more = divides_more (n + 1) k in
    let same : (n + 1 + k) / 1000 ≡ (n + suc k) / 1000 = ap (λ (m : ℕ). m / 1000) (moved n k) in
    absurd (omega (arith, e, more, same, round_rises n is))
no_step n k e false is rest =
    let same : (n + 1 + k) / 1000 ≡ (n + suc k) / 1000 = ap (λ (m : ℕ). m / 1000) (moved n k) in
    either (is_round (n + 1)) (has_round (n + 1) k) is (rest (round_stays n is ∙ e ∙ sym same))

pub no_round : (n k : ℕ) → n / 1000 ≡ (n + k) / 1000 → has_round n k ≡ false
no_round n zero e = refl
no_round n (suc k) e = no_step n k e (is_round (n + 1)) refl (no_round (n + 1) k)

none_more : (n : ℕ) → n ≡ n + 0
none_more n = omega arith

pub some_round : (n k : ℕ) → (n / 1000 ≡ (n + k) / 1000 → ⊥) → has_round n k ≡ true
some_round n zero e = absurd (e (ap (λ (m : ℕ). m / 1000) (none_more n)))
some_round n (suc k) e = or_true (is_round (n + 1)) (has_round (n + 1) k)
    (λ is. some_round (n + 1) k (λ f. e (sym (round_stays n is) ∙ f ∙ ap (λ (m : ℕ). m / 1000) (moved n k))))

-- a multiple among the numbers

or_first : (a b : Bool) → a ≡ true → (a || b) ≡ true
or_first true b e = refl
or_first false b e = cc

pub among : (n k m : ℕ) → n < m → m ≤ n + k → is_round m ≡ true → has_round n k ≡ true
among n zero m low high is = absurd (omega (arith, low, high))
among n (suc k) m low high is = at (m == n + 1) refl (among (n + 1) k m)
  where
    at : (b : Bool) → (m == n + 1) ≡ b
        → (n + 1 < m → m ≤ n + 1 + k → is_round m ≡ true → has_round (n + 1) k ≡ true) → has_round n (suc k) ≡ true
    at true same rest =
        let eq : m ≡ n + 1 = grind (arith, nat_tests) in
        or_first (is_round (n + 1)) (has_round (n + 1) k) (subst (λ (j : ℕ). is_round j ≡ true) eq is)
    at false other rest =
        let above : n + 1 < m = grind (arith, nat_tests) in
        let most : m ≤ n + 1 + k = omega (arith, high) in
        or_true (is_round (n + 1)) (has_round (n + 1) k) (λ _. rest above most is)

-- the calls of one turn more

one_more : (s : State) (es : List Entry)
    → calls_in s (group_of es) ≡ commit_calls es + compact_calls s.count (length (updates_of es))
one_more s [] = refl
one_more s (e ∷ es) = sym (none_more (calls_of s (e ∷ es)))

pub calls_more : (s : State) (gs : List (List Entry)) (es : List Entry)
    → calls_in s (gs ++ group_of es)
    ≡ calls_in s gs + (commit_calls es + compact_calls (after_turns s gs).count (length (updates_of es)))
calls_more s [] es = one_more s es ∙ zero_plus (commit_calls es + compact_calls s.count (length (updates_of es)))
  where
    zero_plus : (n : ℕ) → n ≡ 0 + n
    zero_plus n = omega arith
calls_more s (g ∷ gs) es =
    let rest = calls_more (state_after s g) gs es in
    omega (arith, rest)

-- whether one is due

pub not_due : (m n k : ℕ) → has_round n k ≡ false → m ≡ m + compact_calls n k
not_due m n k is = subst (λ (b : Bool). m ≡ m + cond b 6 0) (sym is) (none_more m)

pub due : (m l n k : ℕ) → has_round n k ≡ true → l ≡ m + 6 → l ≡ m + compact_calls n k
due m l n k is e = subst (λ (b : Bool). l ≡ m + cond b 6 0) (sym is) e

pub due_most : (m l n k : ℕ) → has_round n k ≡ true → l ≤ m + 6 → l ≤ m + compact_calls n k
due_most m l n k is e = subst (λ (b : Bool). l ≤ m + cond b 6 0) (sym is) e
