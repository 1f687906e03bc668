-- What a string of a text holds is UTF-8, where the text is.
use Rattle.std.proofs.Common.{◌≡◌, ◌<◌, ◌+◌, ℕ, Bool, true, false, cond, ◌&&◌, ◌==◌, nat_lt}
use Rattle.std.proofs.Common.{List, [], ◌∷◌, ◌++◌, length, drop, get_or, Option, Some, None}
use Rattle.std.proofs.Common.{IsUtf8, encode_utf8, refl, sym, ap, ◌∙◌, subst, arith, append_assoc}
use Rattle.std.proofs.Common.{append-nil, length-append, take_at, drop_at, get_or-append-add}
use Rattle.std.specs.Char.{digit_value, is_digit, IsScalar}
use Rattle.std.proofs.lemmas.Bool.Decides.{nat_tests}
use Rattle.std.proofs.lemmas.Str.{IsUtf8-append, IsUtf8-encode, IsUtf8-take, IsUtf8-drop, encode_ascii}
use Rattle.std.proofs.lemmas.Str.{IsCharBoundary-before_ascii, IsCharBoundary-after_ascii}
use Rattle.json.specs.Text.{Within, plain, after_backslash, after_u, after_high, content, code_unit, short_escape}
use Rattle.json.specs.Text.{prepend}
use Rattle.json.specs.Text.{is_high_surrogate, is_low_surrogate, surrogate_pair}
use Rattle.room_valid.proofs.Options.{both, by_cond, stepped}

-- a text is cut before an ASCII byte and behind it

module _ (done : List ℕ) (x : ℕ) (xs : List ℕ) (low : x < 128) (u : IsUtf8 (done ++ x ∷ xs)) where
  within : length done < length (done ++ x ∷ xs)
  within = omega (arith, length-append done (x ∷ xs))

  here : get_or (done ++ x ∷ xs) (length done) 0 < 128
  here =
      let k : length done + 0 ≡ length done = omega arith in
      let e : get_or (done ++ x ∷ xs) (length done) 0 ≡ x = ap (λ (n : ℕ). get_or (done ++ x ∷ xs) n 0) (sym k)
      ∙ get_or-append-add done (x ∷ xs) 0 0 in
      omega (arith, low, e)

  pub before : IsUtf8 done
  before =
      subst IsUtf8 (take_at done (x ∷ xs) (length done) refl)
      (IsUtf8-take (done ++ x ∷ xs) (length done) u
      (IsCharBoundary-before_ascii (done ++ x ∷ xs) (length done) within here))

  pub behind : IsUtf8 xs
  behind =
      let same : length (done ++ x ∷ []) ≡ length done + 1 = omega (arith, length-append done (x ∷ [])) in
      subst IsUtf8
      (ap (drop (length done + 1)) (sym (append_assoc done (x ∷ []) xs))
      ∙ drop_at (done ++ x ∷ []) xs (length done + 1) same)
      (IsUtf8-drop (done ++ x ∷ xs) (length done + 1) u
      (IsCharBoundary-after_ascii (done ++ x ∷ xs) (length done) u within here))

-- what an escape stands for

low_escape : (y c : ℕ) → short_escape y ≡ Some c → (y < 128) × (c < 128)
unfolding short_escape
low_escape y c e = (grind (arith, nat_tests, e), grind (arith, nat_tests, e))

low_digit : (a : ℕ) → is_digit a 16 ≡ true → (a < 128) × (digit_value a < 16)
low_digit a e = (grind (arith, nat_tests, e), grind (arith, nat_tests, e))

low_pair : (h l : ℕ) → is_high_surrogate h ≡ true → is_low_surrogate l ≡ true → IsScalar (surrogate_pair h l)
low_pair h l high low = grind (arith, nat_tests, high, low)

low_unit : (u : ℕ) → u < 65536 → is_high_surrogate u ≡ false → is_low_surrogate u ≡ false → IsScalar u
low_unit u small high low = grind (arith, nat_tests, small, high, low)

unit_by : (w x y z : Bool) (n u : ℕ) → cond (w && x && y && z) (Some n) None ≡ Some u
    → (w ≡ true) × (x ≡ true) × (y ≡ true) × (z ≡ true) × (n ≡ u)
unit_by true true true true n u e = (refl, refl, refl, refl, cc)
unit_by true true true false n u e = cc
unit_by true true false z n u e = cc
unit_by true false y z n u e = cc
unit_by false x y z n u e = cc

record Unit4 (a b c d u : ℕ) : Type 0 where
  a_low : a < 128
  b_low : b < 128
  c_low : c < 128
  d_low : d < 128
  small : u < 65536

unit_of : (a b c d u : ℕ) → code_unit a b c d ≡ Some u → Unit4 a b c d u
unfolding code_unit
unit_of a b c d u e =
    let t = unit_by (is_digit a 16) (is_digit b 16) (is_digit c 16) (is_digit d 16) _ u e in
    let i = low_digit a t.0 in
    let j = low_digit b t.1 in
    let k = low_digit c t.2 in
    let l = low_digit d t.3 in
    record {
      a_low = i.0;
      b_low = j.0;
      c_low = k.0;
      d_low = l.0;
      small = omega (arith, i.1, j.1, k.1, l.1, t.4);
    }

-- what is left behind four digits
behind4 : (a b c d u : ℕ) (xs : List ℕ) → Unit4 a b c d u → IsUtf8 (a ∷ b ∷ c ∷ d ∷ xs) → IsUtf8 xs
behind4 a b c d u xs k h =
    behind [] d xs k.d_low (behind [] c (d ∷ xs) k.c_low (behind [] b (c ∷ d ∷ xs) k.b_low
    (behind [] a (b ∷ c ∷ d ∷ xs) k.a_low h)))

-- bytes put in front

put_front : (done bytes s : List ℕ) (r : Option (List ℕ))
    → ((t : List ℕ) → r ≡ Some t → IsUtf8 ((done ++ bytes) ++ t)) → prepend bytes r ≡ Some s → IsUtf8 (done ++ s)
put_front done bytes s None k e = cc
put_front done bytes s (Some t) k e =
    let is : bytes ++ t ≡ s = cc in
    subst (λ (l : List ℕ). IsUtf8 (done ++ l)) is (subst IsUtf8 (append_assoc done bytes t) (k t refl))

-- what was gathered, and what is left

abbrev Starts : Within → List ℕ → List ℕ → Type 0
Starts plain done left = IsUtf8 (done ++ left)
Starts after_backslash done left = IsUtf8 done × IsUtf8 left
Starts after_u done left = IsUtf8 done × IsUtf8 left
Starts (after_high h) done left = IsUtf8 done × IsUtf8 left × (is_high_surrogate h ≡ true)

is_eq : (x y : ℕ) → (x == y) ≡ true → x ≡ y
is_eq x y e = grind (arith, nat_tests, e)

pub eq_low : (x y : ℕ) → y < 128 → (x == y) ≡ true → x < 128
eq_low x y low e = omega (arith, low, is_eq x y e)

ends : (done : List ℕ) (x : ℕ) (xs s : List ℕ) → x < 128 → IsUtf8 (done ++ x ∷ xs) → Some [] ≡ Some s
    → IsUtf8 (done ++ s)
ends done x xs s low h e =
    let is : [] ≡ s = cc in
    subst (λ (l : List ℕ). IsUtf8 (done ++ l)) is (subst IsUtf8 (sym (append-nil done)) (before done x xs low h))

pub one_on : (done : List ℕ) (x : ℕ) (xs : List ℕ) → IsUtf8 (done ++ x ∷ xs) → IsUtf8 ((done ++ x ∷ []) ++ xs)
one_on done x xs h = subst IsUtf8 (sym (append_assoc done (x ∷ []) xs)) h

scalar_low : (c : ℕ) → c < 128 → IsScalar c
scalar_low c low = grind (arith, nat_tests, low)

one_low : (c : ℕ) → c < 128 → IsUtf8 (c ∷ [])
one_low c low = subst IsUtf8 (encode_ascii c low) (IsUtf8-encode c (scalar_low c low))

three : (done bytes xs : List ℕ) → IsUtf8 done → IsUtf8 bytes → IsUtf8 xs → IsUtf8 ((done ++ bytes) ++ xs)
three done bytes xs h k l = IsUtf8-append (done ++ bytes) xs (IsUtf8-append done bytes h k) l

contents : (w : Within) (left done s : List ℕ) → Starts w done left → content w left ≡ Some s → IsUtf8 (done ++ s)
unfolding content
contents plain [] done s h e = cc
contents plain (x ∷ xs) done s h e =
    by_cond (IsUtf8 (done ++ s)) (x == 34) _ _ s (λ t k. ends done x xs s (eq_low x 34 (omega arith) t) h k) (λ _ k.
    by_cond (IsUtf8 (done ++ s)) (x == 92) _ _ s (λ t k.
    let low = eq_low x 92 (omega arith) t in
    contents after_backslash xs done s (before done x xs low h, behind done x xs low h) k) (λ _ k.
    by_cond (IsUtf8 (done ++ s)) (nat_lt x 32) _ _ s (λ _ k. cc) (λ _ k.
    put_front done (x ∷ []) s (content plain xs) (λ t is. contents plain xs (done ++ x ∷ []) t (one_on done x xs h) is)
    k) k) k) e
contents after_backslash [] done s h e = cc
contents after_backslash (x ∷ xs) done s h e =
    by_cond (IsUtf8 (done ++ s)) (x == 117) _ _ s (λ t k.
    contents after_u xs done s (h.0, behind [] x xs (eq_low x 117 (omega arith) t) h.1) k) (λ _ k.
    stepped (IsUtf8 (done ++ s)) (short_escape x) _ s (λ c found k.
    let low = low_escape x c found in
    put_front done (c ∷ []) s (content plain xs) (λ t is.
    contents plain xs (done ++ c ∷ []) t
    (three done (c ∷ []) xs h.0 (one_low c low.1) (behind [] x xs low.0 h.1)) is) k) k) e
contents after_u [] done s h e = cc
contents after_u (a ∷ []) done s h e = cc
contents after_u (a ∷ b ∷ []) done s h e = cc
contents after_u (a ∷ b ∷ c ∷ []) done s h e = cc
contents after_u (a ∷ b ∷ c ∷ d ∷ xs) done s h e =
    stepped (IsUtf8 (done ++ s)) (code_unit a b c d) _ s (λ u found k.
    let digits = unit_of a b c d u found in
    let left = behind4 a b c d u xs digits h.1 in
    by_cond (IsUtf8 (done ++ s)) (is_high_surrogate u) _ _ s (λ high k.
    contents (after_high u) xs done s (h.0, left, high) k) (λ high k.
    by_cond (IsUtf8 (done ++ s)) (is_low_surrogate u) _ _ s (λ _ k. cc) (λ low k.
    put_front done (encode_utf8 u) s (content plain xs) (λ t is.
    contents plain xs (done ++ encode_utf8 u) t
    (three done (encode_utf8 u) xs h.0 (IsUtf8-encode u (low_unit u digits.small high low)) left) is) k) k) k) e
contents (after_high x) [] done s h e = cc
contents (after_high x) (y ∷ []) done s h e = cc
contents (after_high x) (y ∷ z ∷ []) done s h e = cc
contents (after_high x) (y ∷ z ∷ a ∷ []) done s h e = cc
contents (after_high x) (y ∷ z ∷ a ∷ b ∷ []) done s h e = cc
contents (after_high x) (y ∷ z ∷ a ∷ b ∷ c ∷ []) done s h e = cc
contents (after_high x) (y ∷ z ∷ a ∷ b ∷ c ∷ d ∷ xs) done s h e =
    by_cond (IsUtf8 (done ++ s)) ((y == 92) && (z == 117)) _ _ s (λ t k.
    let two = both (y == 92) (z == 117) t in
    let rest = behind [] z (a ∷ b ∷ c ∷ d ∷ xs) (eq_low z 117 (omega arith) two.1)
    (behind [] y (z ∷ a ∷ b ∷ c ∷ d ∷ xs) (eq_low y 92 (omega arith) two.0) h.1) in
    stepped (IsUtf8 (done ++ s)) (code_unit a b c d) _ s (λ l found k.
    let digits = unit_of a b c d l found in
    let left = behind4 a b c d l xs digits rest in
    by_cond (IsUtf8 (done ++ s)) (is_low_surrogate l) _ _ s (λ low k.
    let pair = encode_utf8 (surrogate_pair x l) in
    put_front done pair s (content plain xs) (λ t is.
    contents plain xs (done ++ pair) t
    (three done pair xs h.0 (IsUtf8-encode (surrogate_pair x l) (low_pair x l h.2 low)) left) is) k) (λ _ k. cc) k) k)
    (λ _ k. cc) e

-- the content of a string, behind its quote
pub string_utf8 : (xs s : List ℕ) → IsUtf8 xs → content plain xs ≡ Some s → IsUtf8 s
string_utf8 xs s h e = contents plain xs [] s h e
