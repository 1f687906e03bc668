-- Texts whose rows are lines, put together from left to right.
use Rattle.std.proofs.Common.{◌≡◌, ◌<◌, ◌≤◌, ◌+◌, ◌^◌, ◌&&◌, ◌==◌, not, ℕ, Bool, true, false, cond, List, [], ◌∷◌, ◌++◌, Option, Some, None, Result, Ok, Err, is_some, refl, sym, ap, ◌∙◌, subst, append_assoc, arith}
use Rattle.std.specs.Prelude.{⊤}
use Rattle.std.specs.Result.{is_ok}
use Rattle.std.specs.Char.{is_ascii_digit}
use Rattle.std.specs.Str.{all_ascii_digits}
use Rattle.std.specs.Fmt.{decimal}
use Rattle.std.proofs.lemmas.Bool.Decides.{nat_tests}
use Rattle.std.proofs.lemmas.Fmt.{digits_decimal}
use Rattle.std.proofs.lemmas.Str.Parse.{IsNumeralModel, numerals_by_value, tells_all_ascii_digits}
use Rattle.std.specs.Str.Parse.{digits_value}
use Rattle.room_model.specs.Lines.{Line}
use Rattle.room_script.specs.Grammar.{lines_from, line_then, is_skipped, rows, schedule_line}
use Rattle.room_script.specs.Generator.{line}
use Rattle.room_script.specs.Words.{word_of, rest_of}

-- each row is a line
abbrev pub AreLines : List (List ℕ) → Type 0
AreLines [] = ⊤
AreLines (r ∷ rs) = (is_some (schedule_line r) ≡ true) × AreLines rs

reads_on : (b : Bool) (k : ℕ) (o : Option Line) (more : Result (List (ℕ × Line)) ℕ) → is_some o ≡ true → is_ok more ≡ true → is_ok (cond b more (line_then k o more)) ≡ true
reads_on true k o more s h = h
reads_on false k None more s h = cc
reads_on false k (Some l) (Ok ls) s h = refl
reads_on false k (Some l) (Err bad) s h = cc

pub all_read : (k : ℕ) (rs : List (List ℕ)) → AreLines rs → is_ok (lines_from schedule_line k rs) ≡ true
all_read k [] h = refl
all_read k (r ∷ rs) h = reads_on (is_skipped r) k (schedule_line r) (lines_from schedule_line (k + 1) rs) h.0 (all_read (k + 1) rs h.1)

-- a text with which rows that are lines stay so
abbrev pub IsGood : List ℕ → Type 0
IsGood a = (more : List ℕ) → AreLines (rows more) → AreLines (rows (a ++ more))

pub good_nothing : IsGood []
good_nothing more h = h

pub good_both : (a b : List ℕ) → IsGood a → IsGood b → IsGood (a ++ b)
good_both a b x y more h = subst (λ t. AreLines (rows t)) (sym (append_assoc a b more)) (x (b ++ more) (y more h))

-- no line feed is in it
abbrev pub has_no_feed : List ℕ → Bool
has_no_feed [] = true
has_no_feed (b ∷ bs) = not (b == 10) && has_no_feed bs

pub both : (a b : Bool) → (a && b) ≡ true → (a ≡ true) × (b ≡ true)
both true b e = (refl, e)
both false b e = cc

is_false : (b : Bool) → not b ≡ true → b ≡ false
is_false true e = cc
is_false false e = refl

rows_line : (t more : List ℕ) → has_no_feed t ≡ true → rows (t ++ 10 ∷ more) ≡ t ∷ rows more
rows_line [] more h = refl
rows_line (b ∷ t) more h =
    let parts = both (not (b == 10)) (has_no_feed t) h in
    rw (is_false (b == 10) parts.0, rows_line t more parts.1) refl

pub good_line : (t : List ℕ) → has_no_feed t ≡ true → is_some (schedule_line t) ≡ true → IsGood (line t)
good_line t h s more lines =
    subst AreLines (sym (ap rows (append_assoc t (10 ∷ []) more) ∙ rows_line t more h)) (s, lines)

pub no_feed_both : (a b : List ℕ) → has_no_feed a ≡ true → has_no_feed b ≡ true → has_no_feed (a ++ b) ≡ true
no_feed_both [] b h k = k
no_feed_both (c ∷ a) b h k =
    let parts = both (not (c == 10)) (has_no_feed a) h in
    rw (is_false (c == 10) parts.0) (no_feed_both a b parts.1 k)

-- digits

pub own : IsNumeralModel (λ ds. all_ascii_digits ds ≡ true) (digits_value 10)
own = numerals_by_value _ tells_all_ascii_digits

pub are_digits : (n : ℕ) → n < 2 ^ 64 → all_ascii_digits (decimal n) ≡ true
are_digits n h = digits_decimal own n h

digit_low : (c : ℕ) → is_ascii_digit c ≡ true → 48 ≤ c
digit_low c h = grind (arith, nat_tests)

above : (c k : ℕ) → k < 48 → is_ascii_digit c ≡ true → (c == k) ≡ false
above c k small h = let low = digit_low c h in grind (arith, nat_tests)

pub digits_no_feed : (ds : List ℕ) → all_ascii_digits ds ≡ true → has_no_feed ds ≡ true
digits_no_feed [] h = refl
digits_no_feed (c ∷ cs) h =
    let parts = both (is_ascii_digit c) (all_ascii_digits cs) h in
    rw (above c 10 (omega arith) parts.0) (digits_no_feed cs parts.1)

pub word_of_digits : (ds rest : List ℕ) → all_ascii_digits ds ≡ true → word_of (ds ++ 32 ∷ rest) ≡ ds
word_of_digits [] rest h = refl
word_of_digits (c ∷ cs) rest h =
    let parts = both (is_ascii_digit c) (all_ascii_digits cs) h in
    rw (above c 32 (omega arith) parts.0) (ap (λ ds. c ∷ ds) (word_of_digits cs rest parts.1))

pub rest_of_digits : (ds rest : List ℕ) → all_ascii_digits ds ≡ true → rest_of (ds ++ 32 ∷ rest) ≡ Some rest
rest_of_digits [] rest h = refl
rest_of_digits (c ∷ cs) rest h =
    let parts = both (is_ascii_digit c) (all_ascii_digits cs) h in
    rw (above c 32 (omega arith) parts.0) (rest_of_digits cs rest parts.1)

pub word_of_all : (ds : List ℕ) → all_ascii_digits ds ≡ true → word_of ds ≡ ds
word_of_all [] h = refl
word_of_all (c ∷ cs) h =
    let parts = both (is_ascii_digit c) (all_ascii_digits cs) h in
    rw (above c 32 (omega arith) parts.0) (ap (λ ds. c ∷ ds) (word_of_all cs parts.1))

pub rest_of_all : (ds : List ℕ) → all_ascii_digits ds ≡ true → rest_of ds ≡ None
rest_of_all [] h = refl
rest_of_all (c ∷ cs) h =
    let parts = both (is_ascii_digit c) (all_ascii_digits cs) h in
    rw (above c 32 (omega arith) parts.0) (rest_of_all cs parts.1)
