-- What the files say while one of them is made anew.
use Rattle.std.proofs.Common.{◌≡◌, ◌≢◌, ◌⊎◌, ⊎_elim, inl, inr, ℕ, ◌+◌, ◌<◌, List, [], ◌∷◌, length, take, drop, refl, sym, ◌∙◌, ap, subst, arith}
use Rattle.std.proofs.lemmas.Bool.{cases_eq}
use Rattle.room_disk.specs.Model.{WrittenInPart, Only}
use Rattle.room_journal.specs.Fresh.{IsShut, IsFreshening}
use Rattle.std.specs.Prelude.{Some, None, cond, nat_le, suc}
use Rattle.std.specs.Int.{w64, from_be_bytes}
use Rattle.room_journal.specs.declared.heading.Heading.{Heading}
use Rattle.room_journal.specs.declared.heading.Heading.TheVariants.{Wrong}
use Rattle.room_journal.specs.Records.{records}
use Rattle.room_journal.specs.Files.{holding, held_in, number_at, saying, says, Closed, format_of, generation_in, last_generation}
use Rattle.room_journal.specs.Rest.{IsReadyFile, IsRenewed}
use Rattle.room_journal.proofs.Onward.{nonzero}

shut_says : (c : List ℕ) → IsShut c → says c ≡ Closed
shut_says [] is = refl
shut_says (g ∷ []) is = refl
shut_says (g ∷ x ∷ rest) is = subst (λ (n : ℕ). says (n ∷ x ∷ rest) ≡ Closed) (sym is) refl

-- another open gate
behind_gate : (g n : ℕ) (l : List ℕ) → drop (25 + n) (g ∷ l) ≡ drop (24 + n) l
behind_gate g n l = let e : 25 + n ≡ suc (24 + n) = omega arith in ap (λ (m : ℕ). drop m (g ∷ l)) e

held_same : (g h : ℕ) (l : List ℕ) → held_in (h ∷ l) ≡ held_in (g ∷ l)
held_same g h l =
    let n = from_be_bytes w64 (take 8 (drop 16 l)) in
    ap (λ (d : List ℕ). cond (nat_le (25 + n) (suc (length l))) (Some (holding (take n (drop 24 l)) (records (25 + n) 0 d))) None) (behind_gate h n l ∙ sym (behind_gate g n l))

-- what a file says behind its gate
abbrev heading_in : List ℕ → Heading
heading_in file = cond (nat_le 17 (length file)) (generation_in (format_of (number_at 1 file)) (number_at 9 file)) Wrong

another : (g h x : ℕ) (rest : List ℕ) → g ≢ 0 → h ≢ 0 → says (h ∷ x ∷ rest) ≡ says (g ∷ x ∷ rest)
another g h x rest first second = rw (nonzero g first, nonzero h second) (ap (saying (heading_in (g ∷ x ∷ rest))) (held_same g h (x ∷ rest)))

first_byte : (file c : List ℕ) → (file ≡ 0 ∷ drop 1 file → ⊥) → WrittenInPart 0 1 file c → (says c ≡ says file) ⊎ (says c ≡ Closed)
first_byte file [] open_file torn = inr refl
first_byte file (h ∷ []) open_file torn = inr refl
first_byte [] (h ∷ x ∷ c) open_file torn = let e = torn.no_longer in absurd (omega (arith, e))
first_byte (g ∷ []) (h ∷ x ∷ c) open_file torn = let e = torn.no_longer in absurd (omega (arith, e))
first_byte (g ∷ y ∷ file) (h ∷ x ∷ c) open_file torn =
    let same : x ∷ c ≡ y ∷ file = torn.after in
    let gate : g ≢ 0 = λ is. open_file (ap (λ (n : ℕ). n ∷ y ∷ file) is) in
    elim (cases_eq h 0) [
      | inl shut ↦ inr (shut_says (h ∷ x ∷ c) shut)
      | inr opened ↦ inl (ap (λ (l : List ℕ). says (h ∷ l)) same ∙ another g h y file gate opened)
    ]

pub renewed : (file : List ℕ) (images : List ℕ → Type 0) (g : ℕ) (s bytes : List ℕ) → g < last_generation → IsReadyFile g s bytes
    → Only file images → (c : List ℕ) → IsFreshening file images bytes c → IsRenewed (says file) g s c
renewed file images g s bytes more ready only c (inl (inl left)) = inl (ap says (only c left))
renewed file images g s bytes more ready only c (inl (inr left)) =
    ⊎_elim (λ (is : says c ≡ says file). inl is) (λ (is : says c ≡ Closed). inr (more, inl is))
    (first_byte file c left.0 (subst (λ (d : List ℕ). WrittenInPart 0 1 d c) (only left.1.0 left.1.1) left.1.2))
renewed file images g s bytes more ready only c (inr (inl shut)) = inr (more, inl (shut_says c shut))
renewed file images g s bytes more ready only c (inr (inr opened)) =
    inr (more, inr (ap says opened.is ∙ (ready more).reads opened.gate opened.rest opened.open_gate))
