-- Whether bytes are a text.
use Rattle.std.proofs.Common.{◌≡◌, List, ℕ, Bool, true, false, refl}
use Rattle.std.specs.Prelude.{IsUtf8}
use Rattle.std.specs.Str.{is_utf8}
use Rattle.std.proofs.lemmas.Str.{IsUtf8-from_is_utf8, is_utf8-from_IsUtf8}

pub is_text : (bytes : List ℕ) → IsUtf8 bytes → is_utf8 bytes ≡ true
is_text bytes text = is_utf8-from_IsUtf8 bytes text

none_by : (b : Bool) → (b ≡ true → ⊥) → b ≡ false
none_by true no_text = absurd (no_text refl)
none_by false no_text = refl

pub is_no_text : (bytes : List ℕ) → (IsUtf8 bytes → ⊥) → is_utf8 bytes ≡ false
is_no_text bytes no_text = none_by (is_utf8 bytes) (λ h. no_text (IsUtf8-from_is_utf8 bytes h))

pub ruleset texts = (is_text, is_no_text)
