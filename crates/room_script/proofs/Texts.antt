-- Whether bytes are a text.
use Rattle.std.proofs.Common.{◌≡◌, ◌<◌, ◌&&◌, List, [], ◌∷◌, length, ℕ, Bool, true, false, nat_le, nat_eq, All, refl, arith}
use Rattle.std.specs.Prelude.{IsUtf8}
use Rattle.std.specs.Str.{is_utf8}
use Rattle.std.proofs.lemmas.Bool.Decides.{nat_tests}
use Rattle.std.proofs.lemmas.Str.{IsUtf8-from_is_utf8, is_utf8-from_IsUtf8, IsUtf8-from_ascii}
use Rattle.std.proofs.lemmas.List.Elements.{All-nil, All-cons}
use Rattle.std.proofs.lemmas.Str.Ascii.{IsAscii-from_all}
use Rattle.room_script.specs.Words.{is_printed, key_in, text_in}

pub is_text : (bytes : List ℕ) → IsUtf8 bytes → is_utf8 bytes ≡ true
is_text bytes text = is_utf8-from_IsUtf8 bytes text

none_by : (b : Bool) → (b ≡ true → ⊥) → b ≡ false
none_by true no_text = absurd (no_text refl)
none_by false no_text = refl

pub is_no_text : (bytes : List ℕ) → (IsUtf8 bytes → ⊥) → is_utf8 bytes ≡ false
is_no_text bytes no_text = none_by (is_utf8 bytes) (λ h. no_text (IsUtf8-from_is_utf8 bytes h))

pub ruleset texts = (is_text, is_no_text)

both : (a b : Bool) → (a && b) ≡ true → (a ≡ true) × (b ≡ true)
both true b e = (refl, e)
both false b e = cc

low : (b : ℕ) → nat_le b 126 ≡ true → b < 128
low b e = grind (arith, nat_tests)

printed_low : (w : List ℕ) → is_printed w ≡ true → All (λ b. b < 128) w
printed_low [] h = All-nil (λ b. b < 128)
printed_low (b ∷ bs) h =
    let above = both (nat_le 33 b) _ h in
    let below = both (nat_le b 126) _ above.1 in
    All-cons (λ c. c < 128) b bs (low b below.0) (printed_low bs below.1)

-- printed characters are a text
pub key_as_text : (w : List ℕ) → is_printed w ≡ true → nat_eq (length w) 0 ≡ false → key_in w ≡ text_in w
key_as_text [] h some = cc
key_as_text (b ∷ bs) h some =
    let text = is_utf8-from_IsUtf8 (b ∷ bs) (IsUtf8-from_ascii (b ∷ bs) (IsAscii-from_all (b ∷ bs) (printed_low (b ∷ bs) h))) in
    rw (h, text) refl
