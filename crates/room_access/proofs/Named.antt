-- A name is a text.
use Rattle.std.proofs.Common.{◌≡◌, ◌&&◌, List, [], ◌∷◌, length, ℕ, suc, Bool, true, false, nat_le, nat_eq, Some, refl, sym, ◌∙◌, arith}
use Rattle.std.proofs.lemmas.Bool.Decides.{nat_tests}
use Rattle.room_script.specs.Words.{is_printed, key_in, text_in}
use Rattle.room_script.proofs.Texts.{key_as_text}
use Rattle.room_access.specs.Grammar.{is_name_byte, is_name_start, are_name_bytes, is_name, name_in}

both : (a b : Bool) → (a && b) ≡ true → (a ≡ true) × (b ≡ true)
both true b e = (refl, e)
both false b e = cc

above : (b : ℕ) → is_name_byte b ≡ true → nat_le 33 b ≡ true
above b e = grind (arith, nat_tests)

below : (b : ℕ) → is_name_byte b ≡ true → nat_le b 126 ≡ true
below b e = grind (arith, nat_tests)

name_printed : (w : List ℕ) → are_name_bytes w ≡ true → is_printed w ≡ true
name_printed [] h = refl
name_printed (b ∷ bs) h =
    let hs = both (is_name_byte b) (are_name_bytes bs) h in
    rw (above b hs.0, below b hs.0, name_printed bs hs.1) refl

not_nothing : (n : ℕ) → nat_eq (suc n) 0 ≡ false
not_nothing n = grind (arith, nat_tests)

not_empty : (b : ℕ) (bs : List ℕ) → nat_eq (length (b ∷ bs)) 0 ≡ false
not_empty b bs = not_nothing (length bs)

pub name_as_text : (w : List ℕ) → is_name w ≡ true → name_in w ≡ text_in w
name_as_text [] h = cc
name_as_text (b ∷ bs) h =
    let start = both (is_name_start b) _ h in
    let rest = both (are_name_bytes (b ∷ bs)) _ start.1 in
    let printed : is_printed (b ∷ bs) ≡ true = name_printed (b ∷ bs) rest.0 in
    let key : key_in (b ∷ bs) ≡ Some (b ∷ bs) = rw printed refl in
    let some : nat_eq (length (b ∷ bs)) 0 ≡ false = not_empty b bs in
    let text : text_in (b ∷ bs) ≡ Some (b ∷ bs) = sym (key_as_text (b ∷ bs) printed some) ∙ key in
    rw (h, text) refl
