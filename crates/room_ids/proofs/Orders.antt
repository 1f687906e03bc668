-- Where the made positions stand.
use Rattle.std.proofs.Common.{◌≡◌, ◌≢◌, ◌<◌, ◌≤◌, ◌+◌, ◌-◌, ◌/◌, ℕ, Bool, true, false, cond, List, [], ◌∷◌, length, Ordering, Less, Equal, Greater, nat_eq, nat_le, nat_lt, refl, sym, ap, ◌∙◌, subst, arith, ◌&&◌, ◌||◌, not}
use Rattle.std.specs.Ordering.{nat_cmp, ordering_then}
use Rattle.std.specs.Cmp.{nat_cmp_is, ranked}
use Rattle.std.specs.Cmp.Lexicographic.{slice_cmp}
use Rattle.std.proofs.lemmas.Bool.Decides.{nat_tests}
use Rattle.std.proofs.lemmas.Bool.{eqb-true, eqb-false, ltb-true, ltb-false}
use Rattle.room_ids.specs.Position.{IsBelow, is_pos, is_spelled, is_some_text, after, before, lowered, above, amid}

pub at_less : (a b : ℕ) (x y : List ℕ) → a < b → IsBelow (a ∷ x) (b ∷ y)
at_less a b x y h = ap (λ o. ordering_then o (slice_cmp nat_cmp x y)) (sym (nat_cmp_is a b Less h))

pub at_same : (a : ℕ) (x y : List ℕ) → IsBelow x y → IsBelow (a ∷ x) (a ∷ y)
at_same a x y h = ap (λ o. ordering_then o (slice_cmp nat_cmp x y)) (sym (nat_cmp_is a a Equal refl)) ∙ h

pub ruleset tests = (eqb-true, eqb-false, ltb-true, ltb-false)

-- what an order of two texts says of their first characters
split_below : (o : Ordering) (x y : List ℕ) → ordering_then o (slice_cmp nat_cmp x y) ≡ Less → (o ≡ Equal → IsBelow x y) × (o ≢ Greater)
split_below Less x y h = (λ e. cc, λ e. cc)
split_below Equal x y h = (λ e. h, λ e. cc)
split_below Greater x y h = (λ e. cc, λ e. cc)

no_more : (o : Ordering) (a b : ℕ) → o ≡ nat_cmp a b → o ≢ Greater → a ≤ b
no_more Less a b e n = let h : a < b = ranked a b Less e in omega arith
no_more Equal a b e n = let h : a ≡ b = ranked a b Equal e in omega arith
no_more Greater a b e n = absurd (n refl)

ordered : (a b : ℕ) (x y : List ℕ) → IsBelow (a ∷ x) (b ∷ y) → (a ≡ b → IsBelow x y) × (a ≤ b)
ordered a b x y h =
    let s = split_below (nat_cmp a b) x y h in
    (λ e. s.0 (sym (nat_cmp_is a b Equal e)), no_more (nat_cmp a b) a b refl s.1)

-- what the spelling says

pub record Spelled (c : ℕ) (cs : List ℕ) : Type 0 where
  pub low : 32 ≤ c
  pub high : c ≤ 126
  pub goes : c ≡ 32 → is_some_text cs ≡ true
  pub rest : is_spelled cs ≡ true

pub both : (a b : Bool) → (a && b) ≡ true → (a ≡ true) × (b ≡ true)
both true b e = (refl, e)
both false b e = cc

one_of : (a b : Bool) → (a || b) ≡ true → a ≡ false → b ≡ true
one_of true b e n = cc
one_of false b e n = e

pub spelled : (c : ℕ) (cs : List ℕ) → is_spelled (c ∷ cs) ≡ true → Spelled c cs
spelled c cs h =
    let parts = both (nat_le 32 c && nat_le c 126) _ h in
    let range = both (nat_le 32 c) (nat_le c 126) parts.0 in
    let behind = both (not (nat_eq c 32) || is_some_text cs) (is_spelled cs) parts.1 in
    record {
      low = grind (arith, nat_tests, range.0);
      high = grind (arith, nat_tests, range.1);
      goes = λ e. one_of _ _ behind.0 (ap not {y = true} (let h : nat_eq c 32 ≡ true = subst (λ (n : ℕ). nat_eq n 32 ≡ true) (sym e) refl in h));
      rest = behind.1;
    }

-- after

after_step : (c : ℕ) (cs : List ℕ) (b : Bool) → nat_lt c 126 ≡ b → IsBelow cs (after cs) → IsBelow (c ∷ cs) (cond b ((c + 1) ∷ []) (c ∷ after cs))
after_step c cs true t h = at_less c (c + 1) cs [] (omega arith)
after_step c cs false t h = at_same c cs (after cs) h

pub below-after : (x : List ℕ) → IsBelow x (after x)
below-after [] = refl
below-after (c ∷ cs) = after_step c cs _ refl (below-after cs)

-- before

lowered_step : (c : ℕ) (cs : List ℕ) (b : Bool) → nat_eq c 33 ≡ b → c ≢ 32 → 32 ≤ c → IsBelow (cond b (32 ∷ 126 ∷ []) ((c - 1) ∷ [])) (c ∷ cs)
lowered_step c cs true t n low = at_less 32 c (126 ∷ []) cs (omega (arith, tests))
lowered_step c cs false t n low = at_less (c - 1) c [] cs (omega (arith, tests))

below-lowered : (c : ℕ) (cs : List ℕ) → c ≢ 32 → 32 ≤ c → IsBelow (lowered c cs) (c ∷ cs)
below-lowered c [] n low = lowered_step c [] _ refl n low
below-lowered c (d ∷ ds) n low = at_same c [] (d ∷ ds) refl

before_step : (c : ℕ) (cs : List ℕ) (b : Bool) → nat_eq c 32 ≡ b → Spelled c cs → (is_some_text cs ≡ true → IsBelow (before cs) cs) → IsBelow (cond b (c ∷ before cs) (lowered c cs)) (c ∷ cs)
before_step c cs true t s more = at_same c (before cs) cs (more (s.goes (omega (arith, tests))))
before_step c cs false t s more = below-lowered c cs (omega (arith, tests)) s.low

pub before-below : (x : List ℕ) → is_spelled x ≡ true → is_some_text x ≡ true → IsBelow (before x) x
before-below [] h some = cc
before-below (c ∷ cs) h some = let s = spelled c cs h in before_step c cs _ refl s (before-below cs s.rest)

-- between

above_step : (a : ℕ) (x : List ℕ) (b : Bool) → nat_lt a 125 ≡ b → IsBelow x (above x) → IsBelow (a ∷ x) (cond b (((a + 126) / 2) ∷ []) (a ∷ above x))
above_step a x true t h = at_less a ((a + 126) / 2) x [] (omega (arith, tests))
above_step a x false t h = at_same a x (above x) h

pub below-above : (x : List ℕ) → IsBelow x (above x)
below-above [] = refl
below-above (a ∷ x) = above_step a x _ refl (below-above x)

-- the made text at a place where x has a and y has b
split_step : (a b : ℕ) (x y same next : List ℕ) (p q : Bool) → nat_eq a b ≡ p → nat_eq (a + 1) b ≡ q → a ≤ b
    → (a ≡ b → IsBelow x same × IsBelow same y) → IsBelow x next
    → IsBelow (a ∷ x) (cond p (a ∷ same) (cond q (a ∷ next) (((a + b) / 2) ∷ []))) × IsBelow (cond p (a ∷ same) (cond q (a ∷ next) (((a + b) / 2) ∷ []))) (b ∷ y)
split_step a b x y same next true q t u le more up =
    let e : a ≡ b = omega (arith, tests) in
    let m = more e in
    (at_same a x same m.0, subst (λ (c : ℕ). IsBelow (a ∷ same) (c ∷ y)) e (at_same a same y m.1))
split_step a b x y same next false true t u le more up = (at_same a x next up, at_less a b next y (omega (arith, tests)))
split_step a b x y same next false false t u le more up = (at_less a ((a + b) / 2) x [] (omega (arith, tests)), at_less ((a + b) / 2) b [] y (omega (arith, tests)))

-- an absent place of x reads as a space
from_nothing : (b : ℕ) (same next : List ℕ) (p q : Bool) → IsBelow [] (cond p (32 ∷ same) (cond q (32 ∷ next) (((32 + b) / 2) ∷ [])))
from_nothing b same next true q = refl
from_nothing b same next false true = refl
from_nothing b same next false false = refl

pub nothing_below : (y : List ℕ) → is_some_text y ≡ true → IsBelow [] y
nothing_below [] h = cc
nothing_below (b ∷ y) h = refl

pub amid-between : (x y : List ℕ) → is_spelled x ≡ true → is_spelled y ≡ true → IsBelow x y → IsBelow x (amid x y) × IsBelow (amid x y) y
amid-between [] [] g h less = cc
amid-between (a ∷ x) [] g h less = cc
amid-between [] (b ∷ y) g h less =
    let s = spelled b y h in (
      from_nothing b (amid [] y) (above []) (nat_eq 32 b) (nat_eq (32 + 1) b),
      (split_step 32 b [] y (amid [] y) (above []) _ _ refl refl s.low (λ e. amid-between [] y refl s.rest (nothing_below y (s.goes (sym e)))) (below-above [])).1,
    )
amid-between (a ∷ x) (b ∷ y) g h less =
    let r = spelled a x g in
    let s = spelled b y h in
    let o = ordered a b x y less in
    split_step a b x y (amid x y) (above x) _ _ refl refl o.1 (λ e. amid-between x y r.rest s.rest (o.0 e)) (below-above x)

-- what is made is spelled as a position

abbrev pub Good : List ℕ → Type 0
Good xs = (is_some_text xs ≡ true) × (is_spelled xs ≡ true)

spelling : (a b c d : Bool) → a ≡ true → b ≡ true → c ≡ true → d ≡ true → ((a && b) && (c && d)) ≡ true
spelling a b c d p q r s = rw (p, q, r, s) refl

or_true : (a b : Bool) → b ≡ true → (a || b) ≡ true
or_true true b e = refl
or_true false b e = e

le_test : (a b : ℕ) → a ≤ b → nat_le a b ≡ true
le_test a b h = grind (arith, nat_tests)

not_space : (c : ℕ) → 33 ≤ c → not (nat_eq c 32) ≡ true
not_space c h = let n : nat_eq c 32 ≡ false = grind (arith, nat_tests) in ap not {y = false} n

pub good_more : (c : ℕ) (cs : List ℕ) → 32 ≤ c → c ≤ 126 → Good cs → Good (c ∷ cs)
good_more c cs low high g = (refl, spelling (nat_le 32 c) (nat_le c 126) (not (nat_eq c 32) || is_some_text cs) (is_spelled cs) (le_test 32 c low) (le_test c 126 high) (or_true _ _ g.0) g.1)

pub good_end : (c : ℕ) → 33 ≤ c → c ≤ 126 → Good (c ∷ [])
good_end c low high = (refl, spelling (nat_le 32 c) (nat_le c 126) (not (nat_eq c 32) || false) true (le_test 32 c (omega arith)) (le_test c 126 high) (ap (λ b. b || false) (not_space c low)) refl)

good_above_step : (a : ℕ) (x : List ℕ) (b : Bool) → nat_lt a 125 ≡ b → Spelled a x → Good (above x) → Good (cond b (((a + 126) / 2) ∷ []) (a ∷ above x))
good_above_step a x true t s g = let low : 32 ≤ a = s.low in good_end ((a + 126) / 2) (omega (arith, tests)) (omega (arith, tests))
good_above_step a x false t s g = good_more a (above x) s.low s.high g

pub good-above : (x : List ℕ) → is_spelled x ≡ true → Good (above x)
good-above [] h = (refl, refl)
good-above (a ∷ x) h = let s = spelled a x h in good_above_step a x _ refl s (good-above x s.rest)

good_split : (a b : ℕ) (same next : List ℕ) (p q : Bool) → nat_eq a b ≡ p → nat_eq (a + 1) b ≡ q → 32 ≤ a → a ≤ b → b ≤ 126 → (a ≡ b → Good same) → Good next → Good (cond p (a ∷ same) (cond q (a ∷ next) (((a + b) / 2) ∷ [])))
good_split a b same next true q t u low le high more g = good_more a same low (omega arith) (more (omega (arith, tests)))
good_split a b same next false true t u low le high more g = good_more a next low (omega arith) g
good_split a b same next false false t u low le high more g = good_end ((a + b) / 2) (omega (arith, tests)) (omega (arith, tests))

pub good-amid : (x y : List ℕ) → is_spelled x ≡ true → is_spelled y ≡ true → IsBelow x y → Good (amid x y)
good-amid [] [] g h less = cc
good-amid (a ∷ x) [] g h less = cc
good-amid [] (b ∷ y) g h less =
    let s = spelled b y h in
    good_split 32 b (amid [] y) (above []) _ _ refl refl (omega arith) s.low s.high (λ e. good-amid [] y refl s.rest (nothing_below y (s.goes (sym e)))) (refl, refl)
good-amid (a ∷ x) (b ∷ y) g h less =
    let r = spelled a x g in
    let s = spelled b y h in
    let o = ordered a b x y less in
    good_split a b (amid x y) (above x) _ _ refl refl r.low o.1 s.high (λ e. good-amid x y r.rest s.rest (o.0 e)) (good-above x r.rest)

good_after_step : (c : ℕ) (cs : List ℕ) (b : Bool) → nat_lt c 126 ≡ b → Spelled c cs → Good (after cs) → Good (cond b ((c + 1) ∷ []) (c ∷ after cs))
good_after_step c cs true t s g = let low : 32 ≤ c = s.low in good_end (c + 1) (omega (arith, tests)) (omega (arith, tests))
good_after_step c cs false t s g = good_more c (after cs) s.low s.high g

pub good-after : (x : List ℕ) → is_spelled x ≡ true → Good (after x)
good-after [] h = (refl, refl)
good-after (c ∷ cs) h = let s = spelled c cs h in good_after_step c cs _ refl s (good-after cs s.rest)

pub is_pos-from : (x : List ℕ) → Good x → length x ≤ 4096 → is_pos x ≡ true
is_pos-from x g len = let l : nat_le (length x) 4096 ≡ true = le_test (length x) 4096 len in rw (g.0, l, g.1) refl

pub is_pos-spelled : (x : List ℕ) → is_pos x ≡ true → is_spelled x ≡ true
is_pos-spelled x h = (both (nat_le (length x) 4096) _ (both (is_some_text x) _ h).1).1
