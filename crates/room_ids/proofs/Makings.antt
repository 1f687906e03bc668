-- What is made is a position, and how long it is.
use Rattle.std.proofs.Common.{◌≡◌, ◌≢◌, ◌<◌, ◌≤◌, ◌+◌, ◌-◌, ◌/◌, ℕ, zero, suc, Bool, true, false, cond, List, [], ◌∷◌, ◌++◌, length, replicate, Option, Some, None, nat_eq, nat_le, refl, sym, ap, ◌∙◌, arith}
use Rattle.std.specs.Str.{IsAscii, IsUtf8}
use Rattle.std.proofs.lemmas.Str.{IsUtf8-from_ascii}
use Rattle.std.proofs.lemmas.Bool.Decides.{nat_tests}
use Rattle.room_ids.specs.Position.{is_pos, is_spelled, is_some_text, after, before, lowered, above, amid, between}
use Rattle.room_ids.specs.Laws.{AfterIsAbove, BeforeIsBelow, BetweenIsBetween, MadeArePositions, MadeAreShort, LowestIsLast, IsPair, IsPosUnlessLong}
use Rattle.room_ids.proofs.Orders.{Good, Spelled, spelled, both, good_more, good_end, good-after, good-above, good-amid, is_pos-from, is_pos-spelled, below-after, before-below, below-above, amid-between, tests}

-- ASCII

ascii : (x : List ℕ) → is_spelled x ≡ true → IsAscii x
ascii [] h i = omega arith
ascii (c ∷ cs) h zero = let s = spelled c cs h in omega (arith, s.high)
ascii (c ∷ cs) h (suc i) = let s = spelled c cs h in ascii cs s.rest i

pub utf8 : (x : List ℕ) → is_spelled x ≡ true → IsUtf8 x
utf8 x h = IsUtf8-from_ascii x (ascii x h)

pub is_pos-some : (x : List ℕ) → is_pos x ≡ true → is_some_text x ≡ true
is_pos-some x h = (both (is_some_text x) _ h).0

is_pos-short : (x : List ℕ) → is_pos x ≡ true → length x ≤ 4096
is_pos-short x h = let t : nat_le (length x) 4096 ≡ true = (both (nat_le (length x) 4096) _ (both (is_some_text x) _ h).1).0 in grind (arith, nat_tests, t)

-- before

good_lowered_step : (c : ℕ) (b : Bool) → nat_eq c 33 ≡ b → c ≢ 32 → 32 ≤ c → c ≤ 126 → Good (cond b (32 ∷ 126 ∷ []) ((c - 1) ∷ []))
good_lowered_step c true t n low high = (refl, refl)
good_lowered_step c false t n low high = good_end (c - 1) (omega (arith, tests)) (omega arith)

good_lowered : (c : ℕ) (cs : List ℕ) → c ≢ 32 → 32 ≤ c → c ≤ 126 → Good (lowered c cs)
good_lowered c [] n low high = good_lowered_step c _ refl n low high
good_lowered c (d ∷ ds) n low high = good_end c (omega arith) high

good_before_step : (c : ℕ) (cs : List ℕ) (b : Bool) → nat_eq c 32 ≡ b → Spelled c cs → (is_some_text cs ≡ true → Good (before cs)) → Good (cond b (c ∷ before cs) (lowered c cs))
good_before_step c cs true t s more = good_more c (before cs) s.low s.high (more (s.goes (omega (arith, tests))))
good_before_step c cs false t s more = good_lowered c cs (omega (arith, tests)) s.low s.high

pub good-before : (x : List ℕ) → is_spelled x ≡ true → is_some_text x ≡ true → Good (before x)
good-before [] h some = cc
good-before (c ∷ cs) h some = let s = spelled c cs h in good_before_step c cs _ refl s (good-before cs s.rest)

-- lengths

length-after_step : (c : ℕ) (cs : List ℕ) (b : Bool) → length (after cs) ≤ length cs + 1 → length (cond b ((c + 1) ∷ []) (c ∷ after cs)) ≤ length (c ∷ cs) + 1
length-after_step c cs true h = omega arith
length-after_step c cs false h = omega arith

length-after : (x : List ℕ) → length (after x) ≤ length x + 1
length-after [] = omega arith
length-after (c ∷ cs) = length-after_step c cs _ (length-after cs)

length-lowered : (c : ℕ) (cs : List ℕ) (b : Bool) → nat_eq c 33 ≡ b → length (lowered c cs) ≤ length (c ∷ cs) + 1
length-lowered c (d ∷ ds) b t = omega arith
length-lowered c [] true t = rw t (omega arith)
length-lowered c [] false t = rw t (omega arith)

length-before_step : (c : ℕ) (cs : List ℕ) (b : Bool) → length (before cs) ≤ length cs + 1 → length (cond b (c ∷ before cs) (lowered c cs)) ≤ length (c ∷ cs) + 1
length-before_step c cs true h = omega arith
length-before_step c cs false h = length-lowered c cs _ refl

length-before : (x : List ℕ) → length (before x) ≤ length x + 1
length-before [] = omega arith
length-before (c ∷ cs) = length-before_step c cs _ (length-before cs)

length-above_step : (a : ℕ) (x : List ℕ) (b : Bool) → length (above x) ≤ length x + 1 → length (cond b (((a + 126) / 2) ∷ []) (a ∷ above x)) ≤ length (a ∷ x) + 1
length-above_step a x true h = omega arith
length-above_step a x false h = omega arith

length-above : (x : List ℕ) → length (above x) ≤ length x + 1
length-above [] = omega arith
length-above (a ∷ x) = length-above_step a x _ (length-above x)

length-split : (a b n : ℕ) (same next : List ℕ) (p q : Bool) → length same ≤ n → length next ≤ n → length (cond p (a ∷ same) (cond q (a ∷ next) (((a + b) / 2) ∷ []))) ≤ n + 1
length-split a b n same next true q h k = omega arith
length-split a b n same next false true h k = omega arith
length-split a b n same next false false h k = omega arith

length-amid : (n : ℕ) (x y : List ℕ) → length x ≤ n → length y ≤ n → length (amid x y) ≤ n + 1
length-amid n x [] h k = omega (arith, length-amid_end n x h)
  where
    length-amid_end : (n : ℕ) (x : List ℕ) → length x ≤ n → length (amid x []) ≤ n + 1
    length-amid_end n [] h = omega (arith, length-above [])
    length-amid_end n (a ∷ x) h = omega (arith, length-above (a ∷ x))
length-amid zero [] (b ∷ y) h k = absurd (omega arith)
length-amid zero (a ∷ x) (b ∷ y) h k = absurd (omega arith)
length-amid (suc n) [] (b ∷ y) h k =
    let short : length (amid [] y) ≤ suc n = omega (arith, length-amid n [] y (omega arith) (omega arith)) in
    length-split 32 b (suc n) (amid [] y) (above []) _ _ short (omega (arith, length-above []))
length-amid (suc n) (a ∷ x) (b ∷ y) h k =
    let short : length (amid x y) ≤ suc n = omega (arith, length-amid n x y (omega arith) (omega arith)) in
    length-split a b (suc n) (amid x y) (above x) _ _ short (omega (arith, length-above x))

-- the lowest position

low_ended : (c : ℕ) (b : Bool) → nat_eq c 33 ≡ b → 1 < length (cond b (32 ∷ 126 ∷ []) ((c - 1) ∷ [])) → c ≡ 33
low_ended c true t long = omega (arith, tests)
low_ended c false t long = absurd (omega arith)

lowest_end : (c : ℕ) (cs : List ℕ) → length (c ∷ cs) < length (lowered c cs) → c ∷ cs ≡ 33 ∷ []
lowest_end c (d ∷ ds) long = absurd (omega arith)
lowest_end c [] long = ap (λ (k : ℕ). k ∷ []) (low_ended c _ refl long)

lowest_step : (c n : ℕ) (cs : List ℕ) (b : Bool) → nat_eq c 32 ≡ b → length cs ≡ n → (length cs < length (before cs) → cs ≡ replicate (n - 1) 32 ++ 33 ∷ [])
    → length (c ∷ cs) < length (cond b (c ∷ before cs) (lowered c cs)) → c ∷ cs ≡ replicate n 32 ++ 33 ∷ []
lowest_step c zero [] true t e more long = absurd (omega arith)
lowest_step c zero (d ∷ ds) true t e more long = absurd (omega arith)
lowest_step c (suc n) cs true t e more long = let space : c ≡ 32 = omega (arith, tests) in ap (λ (k : ℕ). k ∷ cs) space ∙ ap (λ (xs : List ℕ). 32 ∷ xs) (more (omega arith) ∙ ap (λ (k : ℕ). replicate k 32 ++ 33 ∷ []) (omega arith))
lowest_step c n cs false t e more long =
    let is = lowest_end c cs long in
    let none : n ≡ 0 = omega (arith, e, ap length is) in
    is ∙ ap (λ (k : ℕ). replicate k 32 ++ 33 ∷ []) (sym none)

pub lowest : (x : List ℕ) → length x < length (before x) → x ≡ replicate (length x - 1) 32 ++ 33 ∷ []
lowest [] long = absurd (omega arith)
lowest (c ∷ cs) long = lowest_step c (length cs) cs _ refl refl (lowest cs) long ∙ ap (λ (k : ℕ). replicate k 32 ++ 33 ∷ []) (omega arith)

-- the laws

pub made_positions : MadeArePositions
made_positions = (
  refl,
  λ x h. (λ len. is_pos-from (after x) (good-after x (is_pos-spelled x h)) len, λ len. is_pos-from (before x) (good-before x (is_pos-spelled x h) (is_pos-some x h)) len),
  λ x y p. elim y as (λ (y : Option (List ℕ)). IsPair x y → IsPosUnlessLong (between x y)) [
    | None ↦ λ p len. is_pos-from (above x) (good-above x (is_pos-spelled x p.0)) len
    | Some b ↦ λ p len. is_pos-from (amid x b) (good-amid x b (is_pos-spelled x p.0) (is_pos-spelled b p.1.0) p.1.1) len
  ] p,
)

pub made_short : MadeAreShort
made_short x h =
    let short = is_pos-short x h in (
      omega (arith, length-after x),
      omega (arith, length-before x),
      λ y p. elim y as (λ (y : Option (List ℕ)). IsPair x y → length (between x y) ≤ 4097) [
        | None ↦ λ p. omega (arith, length-above x)
        | Some b ↦ λ p. omega (arith, length-amid 4096 x b short (is_pos-short b p.1.0))
      ] p,
    )

pub lowest_last : LowestIsLast
lowest_last x h long =
    let short = is_pos-short x h in
    let all : length x ≡ 4096 = omega (arith, length-before x) in
    lowest x (omega (arith, long)) ∙ ap (λ (k : ℕ). replicate (k - 1) 32 ++ 33 ∷ []) all

pub after_above : AfterIsAbove
after_above x h = below-after x

pub before_below : BeforeIsBelow
before_below x h = before-below x (is_pos-spelled x h) (is_pos-some x h)

pub between_between : BetweenIsBetween
between_between x None p = (below-above x, tt)
between_between x (Some b) p = amid-between x b (is_pos-spelled x p.0) (is_pos-spelled b p.1.0) p.1.1
