-- The first call of a file in a list, the oldest first.
use Rattle.std.proofs.Common.{◌≡◌, ◌≢◌, inl, inr, ℕ, suc, ◌+◌, ◌==◌, ◌<◌, [], ◌∷◌, ◌++◌, length, take, drop, reverse, slice_index_or, append_assoc, length-append, cond, true, false, Bool, refl, sym, ◌∙◌, ap, subst, arith}
use Rattle.std.proofs.lemmas.List.{reverse-append, take_at, drop_at}
use Rattle.std.proofs.lemmas.Bool.{cases_eq, eqb-true}
use Rattle.std.proofs.lemmas.Bool.Decides.{nat_tests}
use Rattle.room_disk.proofs.Recorded.{same_test, other_test}
use Rattle.room_fuse.specs.Held.{first_of, Others, Rest}
use Rattle.room_fuse.specs.declared.held.Held.{Held}
use Rattle.room_fuse.proofs.Lists.{Calls}

pub record First (held : Calls) (file : ℕ) (d : Held) : Type 0 where
  pub earlier : Calls
  pub later : Calls
  pub split : held ≡ earlier ++ d ∷ later
  pub at : length earlier ≡ first_of held file
  pub file_is : d.file ≡ file
  pub others : Others file earlier

test_other : (a b : ℕ) → (a == b) ≡ false → a ≢ b
test_other a b is = grind (arith, nat_tests)

first_by : (b : Bool) (x : Held) (xs : Calls) (file : ℕ) (d : Held) → (x.file == file) ≡ b → (first_of xs file < length xs → d ≡ slice_index_or xs (first_of xs file) d → First xs file d)
    → cond b 0 (suc (first_of xs file)) < suc (length xs) → d ≡ slice_index_or (x ∷ xs) (cond b 0 (suc (first_of xs file))) d
    → (earlier : Calls) × (later : Calls) × (x ∷ xs ≡ earlier ++ d ∷ later) × (length earlier ≡ cond b 0 (suc (first_of xs file))) × (d.file ≡ file) × Others file earlier
first_by true x xs file d is more within there = ([], xs, ap (λ (e : Held). e ∷ xs) (sym there), refl, ap (λ (e : Held). e.file) there ∙ eqb-true x.file file is, tt)
first_by false x xs file d is more within there =
    let rest = more (omega (arith, within)) there in
    (x ∷ rest.earlier, rest.later, ap (λ (l : Calls). x ∷ l) rest.split, ap (λ (n : ℕ). suc n) rest.at, rest.file_is, (test_other x.file file is, rest.others))

first : (held : Calls) (file : ℕ) (d : Held) → first_of held file < length held → d ≡ slice_index_or held (first_of held file) d → First held file d
first [] file d within there = absurd (omega (arith, within))
first (x ∷ xs) file d within there =
    let found = first_by (x.file == file) x xs file d refl (first xs file d) within there in
    record { earlier = found.0; later = found.1; split = found.2; at = found.3; file_is = found.4; others = found.5 }

pub first_at : (held : Calls) (file i : ℕ) (d : Held) → i ≡ first_of held file → i < length held → d ≡ slice_index_or held i d → First held file d
first_at held file i d at within there = first held file d (subst (λ n. n < length held) at within) (there ∙ ap (λ n. slice_index_or held n d) at)

pub reverse_split : (earlier later : Calls) (d : Held) → reverse (earlier ++ d ∷ later) ≡ reverse later ++ d ∷ reverse earlier
reverse_split earlier later d =
    ap reverse (sym (append_assoc earlier (d ∷ []) later)) ∙ reverse-append (earlier ++ d ∷ []) later ∙ ap (λ (l : Calls). reverse later ++ l) (reverse-append earlier (d ∷ []))

removed : (held rest earlier later : Calls) (d : Held) (i : ℕ) → held ≡ earlier ++ d ∷ later → length earlier ≡ i → rest ≡ take i held ++ drop (i + 1) held → rest ≡ earlier ++ later
removed held rest earlier later d i split at is =
    let front : take i held ≡ earlier = ap (λ (l : Calls). take i l) split ∙ take_at earlier (d ∷ later) i at in
    let back : drop (i + 1) held ≡ later = ap (λ (l : Calls). drop (i + 1) l) (split ∙ sym (append_assoc earlier (d ∷ []) later)) ∙ drop_at (earlier ++ d ∷ []) later (i + 1) (omega (arith, at, length-append earlier (d ∷ []))) in
    is ∙ ap (λ (l : Calls). l ++ drop (i + 1) held) front ∙ ap (λ (l : Calls). earlier ++ l) back

-- the list without it
pub without : (held rest : Calls) (file i : ℕ) (d : Held) (at : First held file d) → i ≡ first_of held file → rest ≡ take i held ++ drop (i + 1) held → rest ≡ at.earlier ++ at.later
without held rest file i d at index is = removed held rest at.earlier at.later d i at.split (at.at ∙ sym index) is

-- no call is of the file
pub none_of : (xs : Calls) (f : ℕ) → first_of xs f ≡ length xs → Others f xs
none_of [] f at = tt
none_of (x ∷ xs) f at = elim (cases_eq x.file f) [
  | inl same ↦ absurd (let e : cond (x.file == f) 0 (suc (first_of xs f)) ≡ suc (length xs) = at in let z : 0 ≡ suc (length xs) = subst (λ b. cond b 0 (suc (first_of xs f)) ≡ suc (length xs)) (same_test x.file f same) e in omega (arith, z))
  | inr other ↦ (other, none_of xs f (let e : cond (x.file == f) 0 (suc (first_of xs f)) ≡ suc (length xs) = at in let z : suc (first_of xs f) ≡ suc (length xs) = subst (λ b. cond b 0 (suc (first_of xs f)) ≡ suc (length xs)) (other_test x.file f other) e in omega (arith, z)))
]

-- What is left of a list once calls of one file were taken out.

pub rest_same : (file : ℕ) (xs : Calls) → Rest file xs xs
rest_same file [] = refl
rest_same file (x ∷ xs) = inl (xs, refl, rest_same file xs)

rest_removed : (file : ℕ) (earlier later : Calls) (d : Held) → d.file ≡ file → Rest file (earlier ++ d ∷ later) (earlier ++ later)
rest_removed file [] later d is = inr (is, rest_same file later)
rest_removed file (x ∷ earlier) later d is = inl (earlier ++ later, refl, rest_removed file earlier later d is)

pub rest_without : (held rest : Calls) (file : ℕ) (d : Held) (at : First held file d) → rest ≡ at.earlier ++ at.later → Rest file held rest
rest_without held rest file d at is =
    subst (Rest file held) (sym is) (subst (λ (l : Calls). Rest file l (at.earlier ++ at.later)) (sym at.split) (rest_removed file at.earlier at.later d at.file_is))
