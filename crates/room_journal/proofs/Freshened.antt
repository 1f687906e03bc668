-- What a stop leaves while a file is made anew.
use Rattle.std.proofs.Common.{◌≡◌, ◌⊎◌, inl, inr, ℕ, ◌+◌, ◌≤◌, List, [], ◌∷◌, ◌++◌, length, take, drop, refl, sym, ◌∙◌, ap, subst, arith}
use Rattle.std.proofs.lemmas.Bool.{cases_eq}
use Rattle.room_disk.specs.Model.{written, WrittenInPart, Follows, Only, Images, OnFile, RunsBetween}
use Rattle.room_journal.specs.Fresh.{IsShut, IsOpenWith}

-- a byte may be written over itself
pub same_torn : (was : List ℕ → Type 0) (c : List ℕ) → was c → Follows (WrittenInPart 0 1) was c
same_torn was c left = (c, left, record { before = refl; after = refl; no_shorter = omega arith; no_longer = omega arith })

first_zero : (c rest : List ℕ) → take 1 c ≡ take 1 (0 ∷ rest) → IsShut c
first_zero [] rest is = tt
first_zero (g ∷ c) rest is = let e : g ∷ [] ≡ 0 ∷ [] = is in cc e

pub behind_shut : (file rest bytes : List ℕ) (images : List ℕ → Type 0) → file ≡ 0 ∷ rest → Only file images → (c : List ℕ) → Follows (WrittenInPart 1 (length bytes)) images c → IsShut c
behind_shut file rest bytes images is only c left = first_zero c rest (left.2.before ∙ ap (λ (l : List ℕ). take 1 l) (only left.0 left.1 ∙ is))

any_first : (c rest : List ℕ) → 1 ≤ length c → drop 1 c ≡ rest → (g : ℕ) × (c ≡ g ∷ rest)
any_first [] rest long is = absurd (omega (arith, long))
any_first (g ∷ c) rest long is = (g, ap (λ (l : List ℕ). g ∷ l) is)

pub opening : (file bytes rest : List ℕ) (images : List ℕ → Type 0) → file ≡ 0 ∷ (bytes ++ rest) → Only file images → (c : List ℕ) → Follows (WrittenInPart 0 1) images c → IsShut c ⊎ IsOpenWith bytes c
opening file bytes rest images is only c left =
    let was : left.0 ≡ 0 ∷ (bytes ++ rest) = only left.0 left.1 ∙ is in
    let tail : drop 1 c ≡ bytes ++ rest = left.2.after ∙ ap (λ (l : List ℕ). drop 1 l) was in
    let found = any_first c (bytes ++ rest) (omega (arith, left.2.no_shorter, ap length was)) tail in
    elim (cases_eq found.0 0) [
      | inl closed ↦ inl (subst IsShut (sym found.1) closed)
      | inr opened ↦ inr record { gate = found.0; open_gate = opened; rest = rest; is = found.1 }
    ]

-- what the second step leaves
pub laid : (file rest bytes new : List ℕ) → file ≡ 0 ∷ rest → new ≡ written 1 bytes file → new ≡ 0 ∷ (bytes ++ drop (1 + length bytes) file)
laid file rest bytes new is holds = holds ∙ ap (λ (l : List ℕ). l ++ bytes ++ drop (1 + length bytes) file) (ap (λ (l : List ℕ). take 1 l) is)

-- images that stay are, of one file, that file's, and of the others theirs
pub on_file : (file before now : ℕ) (was is : Images) → RunsBetween before now was is (was before)
    → RunsBetween before now was is (OnFile file (was before file) (was before))
on_file file before now was is run = record {
  later = run.later;
  keeps = run.keeps;
  each = λ m f c from till left.
      let here = run.each m f c from till left in
      (λ same. subst (λ (n : ℕ). was before n c) same here, λ far. here);
}
