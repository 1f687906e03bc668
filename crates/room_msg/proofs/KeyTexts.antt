-- Keys as texts.
use Rattle.std.proofs.Common.{◌≡◌, ◌≢◌, ◌<◌, ◌≤◌, ◌+◌, ◌-◌, ◌*◌, ◌/◌, ◌%◌, ◌^◌, ◌&&◌, ◌||◌, ◌⊎◌, ℕ, zero, suc, Bool, true, false, cond, List, [], ◌∷◌, ◌++◌, length, get_or, Some, Result, Ok, Err, nat_le, nat_lt, refl, sym, ap, ◌∙◌, subst, arith, inl, inr}
use Rattle.std.specs.Char.{digit_value, digit_char}
use Rattle.std.specs.Str.Parse.{digits_value, AllDigits, IsNumeral, ParsesUnsigned, without_leading_plus}
use Rattle.std.proofs.lemmas.Bool.Decides.{nat_tests}
use Rattle.std.proofs.lemmas.Int.Digits.{digits_value_push, digits_value-lt}
use Rattle.std.proofs.lemmas.List.{length-append}
use Rattle.std.proofs.lemmas.Str.{digit_value_digit, digit_value-digit_char}
use Rattle.std.proofs.lemmas.Str.Parse.{without_leading_plus_none}
use Rattle.std.proofs.Math.Nat.{pow-suc}
use Rattle.room_msg.specs.Keys.{hex_digit, hex_digits, is_hex_digit, are_hex_digits, key_in, key_text}

both : (a b : Bool) → (a && b) ≡ true → (a ≡ true) × (b ≡ true)
both true b e = (refl, e)
both false b e = cc

either : (a b : Bool) → (a || b) ≡ true → (a ≡ true) ⊎ (b ≡ true)
either true b e = inl refl
either false b e = inr e

pub from_le : (a b : ℕ) → nat_le a b ≡ true → a ≤ b
from_le a b t = grind (arith, nat_tests, t)

letter_char : (d : ℕ) → 10 ≤ d → digit_char d ≡ 87 + d
letter_char d h = let t : nat_lt d 10 ≡ false = grind (arith, nat_tests) in rw t refl

letter : (c : ℕ) → 97 ≤ c → c ≤ 102 → digit_value c < 16
letter c low high =
    let is : digit_char (c - 87) ≡ c = letter_char (c - 87) (omega arith) ∙ omega arith in
    let v : digit_value c ≡ c - 87 = ap digit_value (sym is) ∙ digit_value-digit_char (c - 87) (omega arith) in
    omega (arith, v)

record IsHex (c : ℕ) : Type 0 where
  value : digit_value c < 16
  no_plus : c ≢ 43

hex : (c : ℕ) → is_hex_digit c ≡ true → IsHex c
hex c h = elim (either (nat_le 48 c && nat_le c 57) _ h) as (λ _. IsHex c) [
  | inl d ↦ let p = both (nat_le 48 c) (nat_le c 57) d in let low = from_le 48 c p.0 in let high = from_le c 57 p.1 in record { value = omega (arith, digit_value_digit c (low, high)); no_plus = omega arith }
  | inr d ↦ let p = both (nat_le 97 c) (nat_le c 102) d in let low = from_le 97 c p.0 in let high = from_le c 102 p.1 in record { value = letter c low high; no_plus = omega arith }
]

pub all_hex : (t : List ℕ) → are_hex_digits t ≡ true → AllDigits 16 t
all_hex [] h = tt
all_hex (c ∷ cs) h = let p = both (is_hex_digit c) (are_hex_digits cs) h in ((hex c p.0).value, all_hex cs p.1)

no_plus_first : (t : List ℕ) → are_hex_digits t ≡ true → get_or t 0 0 ≢ 43
no_plus_first [] h = omega arith
no_plus_first (c ∷ cs) h = (hex c (both (is_hex_digit c) (are_hex_digits cs) h).0).no_plus

parsed : {E : Type 0} (t : List ℕ) (r : Result ℕ E) → IsNumeral 16 t → digits_value 16 t < 2 ^ 64 → without_leading_plus t ≡ t → ParsesUnsigned 64 16 t r → r ≡ Ok (digits_value 16 t)
parsed t (Ok x) n small e h = ap Ok (h.1 ∙ ap (digits_value 16) e)
parsed t (Err x) n small e h = absurd (h (subst (λ (u : List ℕ). IsNumeral 16 u × (digits_value 16 u < 2 ^ 64)) (sym e) (n, small)))

pub key_parsed : {E : Type 0} (t : List ℕ) (r : Result ℕ E) → length t ≡ 16 → are_hex_digits t ≡ true → ParsesUnsigned 64 16 t r → r ≡ Ok (digits_value 16 t)
key_parsed t r len h parses =
    let ds = all_hex t h in
    let small : digits_value 16 t < 2 ^ 64 = subst (λ (n : ℕ). digits_value 16 t < 16 ^ n) len (digits_value-lt 16 t ds) in
    parsed t r (omega (arith, len), ds) small (without_leading_plus_none t (no_plus_first t h)) parses

pub key_of : (t : List ℕ) → length t ≡ 16 → are_hex_digits t ≡ true → key_in t ≡ Some (digits_value 16 t)
unfolding key_in
key_of t len h = rw (len, h) refl

-- what is written is read again

digit_is_hex : (d : ℕ) (b : Bool) → nat_lt d 10 ≡ b → d < 16 → is_hex_digit (cond b (48 + d) (87 + d)) ≡ true
digit_is_hex d true t small = grind (arith, nat_tests, t)
digit_is_hex d false t small = grind (arith, nat_tests, t)

hex_append : (t : List ℕ) (c : ℕ) → are_hex_digits t ≡ true → is_hex_digit c ≡ true → are_hex_digits (t ++ c ∷ []) ≡ true
hex_append [] c h k = rw k refl
hex_append (b ∷ t) c h k = let p = both (is_hex_digit b) (are_hex_digits t) h in rw (p.0, hex_append t c p.1 k) refl

digits_are_hex : (n k : ℕ) → are_hex_digits (hex_digits n k) ≡ true
digits_are_hex zero k = refl
digits_are_hex (suc n) k = hex_append (hex_digits n (k / 16)) (hex_digit (k % 16)) (digits_are_hex n (k / 16)) (digit_is_hex (k % 16) _ refl (omega arith))

length-digits : (n k : ℕ) → length (hex_digits n k) ≡ n
length-digits zero k = refl
length-digits (suc n) k = omega (arith, length-append (hex_digits n (k / 16)) (hex_digit (k % 16) ∷ []), length-digits n (k / 16))

value-digits : (n k : ℕ) → k < 16 ^ n → digits_value 16 (hex_digits n k) ≡ k
value-digits zero k h = omega arith
value-digits (suc n) k h =
    let room : k < 16 ^ n * 16 = subst (λ (p : ℕ). k < p) (pow-suc 16 n) h in
    let front = value-digits n (k / 16) (omega arith) in
    let last : digit_value (hex_digit (k % 16)) ≡ k % 16 = digit_value-digit_char (k % 16) (omega arith) in
    digits_value_push 16 (hex_digits n (k / 16)) (hex_digit (k % 16)) ∙ omega (arith, front, last)

pub key_again : (k : ℕ) → k < 2 ^ 64 → key_in (key_text k) ≡ Some k
unfolding key_text
key_again k h = key_of (hex_digits 16 k) (length-digits 16 k) (digits_are_hex 16 k) ∙ ap Some (value-digits 16 k h)
