-- How records are read on.
use Rattle.std.proofs.Common.{◌≡◌, ◌≢◌, ℕ, zero, suc, ◌+◌, ◌<◌, ◌≤◌, ◌^◌, ◌==◌, List, [], ◌∷◌, ◌++◌, length, take, drop, true, false, refl, sym, ◌∙◌, ap, arith, drop-drop, append_assoc, length-append, get_or, subst, ◌-◌, length-drop, length-take}
use Rattle.std.specs.Prelude.{Bool, nat_le, cond, Option, Some, None, IfSome}
use Rattle.std.proofs.lemmas.Bool.Decides.{nat_tests}
use Rattle.std.proofs.lemmas.List.{take_at, drop_at, take_all}
use Rattle.room_journal.specs.Found.{IsRecordIn, IsRecordAt}
use Rattle.room_journal.proofs.SoFar.{IsSoFar}
use Rattle.room_journal.specs.Records.{Records, records, behind, one_more, ended, breaks, size_in, size_of, is_closed}

pub passed : (at k : ℕ) (xs : List ℕ) → k ≤ length xs → records at k xs ≡ records (at + k) 0 (drop k xs)
passed at zero xs le = ap (λ (n : ℕ). records n 0 xs) (omega arith)
passed at (suc k) [] le = absurd (omega (arith, le))
passed at (suc k) (x ∷ xs) le = passed (at + 1) k xs (omega (arith, le)) ∙ ap (λ (n : ℕ). records n 0 (drop k xs)) (omega arith)

open_of : (g : ℕ) → (g == 0) ≡ false → g ≢ 0
open_of g gate = grind (arith, nat_tests)

pub nonzero : (g : ℕ) → g ≢ 0 → (g == 0) ≡ false
nonzero g open_gate = grind (arith, nat_tests)

pub fits : (n m : ℕ) → n ≤ m → nat_le n m ≡ true
fits n m le = grind (arith, nat_tests)

fits_not : (n m : ℕ) → m < n → nat_le n m ≡ false
fits_not n m lt = grind (arith, nat_tests)

pub read_one : (at g a b c d : ℕ) (rest : List ℕ) → g ≢ 0 → size_in a b c d ≤ length rest
    → records at 0 (g ∷ a ∷ b ∷ c ∷ d ∷ rest) ≡ one_more (take (size_in a b c d) rest) (records (at + 5 + size_in a b c d) 0 (drop (size_in a b c d) rest))
read_one at g a b c d rest open_gate le =
    rw (nonzero g open_gate, fits (size_in a b c d) (length rest) le) (ap (one_more (take (size_in a b c d) rest)) (passed (at + 5) (size_in a b c d) rest le))

pub read_more : (at g a b c d : ℕ) (body rest : List ℕ) → g ≢ 0 → size_in a b c d ≡ length body
    → records at 0 (g ∷ a ∷ b ∷ c ∷ d ∷ body ++ rest) ≡ one_more body (records (at + 5 + length body) 0 rest)
read_more at g a b c d body rest open_gate is =
    let e : records at 0 (g ∷ a ∷ b ∷ c ∷ d ∷ body ++ rest) ≡ one_more (take (length body) (body ++ rest)) (records (at + 5 + length body) 0 (drop (length body) (body ++ rest))) =
    subst (λ (n : ℕ). records at 0 (g ∷ a ∷ b ∷ c ∷ d ∷ body ++ rest) ≡ one_more (take n (body ++ rest)) (records (at + 5 + n) 0 (drop n (body ++ rest)))) is
    (read_one at g a b c d (body ++ rest) open_gate (omega (arith, is, length-append body rest))) in
    e ∙ ap (λ (l : List ℕ). one_more l (records (at + 5 + length body) 0 (drop (length body) (body ++ rest)))) (take_at body rest (length body) refl)
    ∙ ap (λ (l : List ℕ). one_more body (records (at + 5 + length body) 0 l)) (drop_at body rest (length body) refl)

pub put_behind : (bs : List (List ℕ)) (b : List ℕ) (r : Records) → behind (bs ++ b ∷ []) r ≡ behind bs (one_more b r)
put_behind bs b r = ap (λ (l : List (List ℕ)). record { bodies = l; broken = r.broken }) (append_assoc bs (b ∷ []) r.bodies)

pub size_more : (bs : List (List ℕ)) (b : List ℕ) → size_of (bs ++ b ∷ []) ≡ size_of bs + 5 + length b
size_more [] b = omega arith
size_more (x ∷ bs) b = let e = size_more bs b in omega (arith, e)

-- where the reader stops
pub stopped : Bool → ℕ → Records
stopped true at = ended
stopped false at = breaks at

pub too_few : (at : ℕ) (rest : List ℕ) → length rest < 5 → records at 0 rest ≡ cond (is_closed rest) ended (breaks at)
too_few at [] lt = refl
too_few at (g ∷ []) lt = refl
too_few at (g ∷ a ∷ []) lt = refl
too_few at (g ∷ a ∷ b ∷ []) lt = refl
too_few at (g ∷ a ∷ b ∷ c ∷ []) lt = refl
too_few at (g ∷ a ∷ b ∷ c ∷ d ∷ rest) lt = absurd (omega (arith, lt))

pub closed_gate : (at : ℕ) (rest : List ℕ) → records at 0 (0 ∷ rest) ≡ ended
closed_gate at [] = refl
closed_gate at (a ∷ []) = refl
closed_gate at (a ∷ b ∷ []) = refl
closed_gate at (a ∷ b ∷ c ∷ []) = refl
closed_gate at (a ∷ b ∷ c ∷ d ∷ rest) = refl

pub too_long : (at g a b c d : ℕ) (rest : List ℕ) → length rest < size_in a b c d → records at 0 (g ∷ a ∷ b ∷ c ∷ d ∷ rest) ≡ cond (g == 0) ended (breaks at)
too_long at g a b c d rest lt = rw (fits_not (size_in a b c d) (length rest) lt) refl

pub whole : (rest : List ℕ) (n : ℕ) → 5 ≤ length rest → n ≡ size_in (get_or rest 1 0) (get_or rest 2 0) (get_or rest 3 0) (get_or rest 4 0) → (get_or rest 0 0 == 0) ≡ false → n ≤ length rest - 5 → IsRecordIn rest n
whole [] n long is gate le = absurd (omega (arith, long))
whole (g ∷ []) n long is gate le = absurd (omega (arith, long))
whole (g ∷ a ∷ []) n long is gate le = absurd (omega (arith, long))
whole (g ∷ a ∷ b ∷ []) n long is gate le = absurd (omega (arith, long))
whole (g ∷ a ∷ b ∷ c ∷ []) n long is gate le = absurd (omega (arith, long))
whole (g ∷ a ∷ b ∷ c ∷ d ∷ rest) n long is gate le = subst (IsRecordIn (g ∷ a ∷ b ∷ c ∷ d ∷ rest)) (sym is) record {
  fits = omega (arith, le, is);
  reads = λ k. read_one k g a b c d rest (open_of g gate) (omega (arith, le, is))
      ∙ ap (λ (l : List ℕ). one_more (take (size_in a b c d) rest) (records (k + 5 + size_in a b c d) 0 l)) (drop-drop (size_in a b c d) 5 (g ∷ a ∷ b ∷ c ∷ d ∷ rest));
}

pub moved : (file : List ℕ) (at n : ℕ) → at ≤ length file → IsRecordIn (drop at file) n → IsRecordAt file at n
moved file at n le is = record {
  fits = let f = is.fits in omega (arith, f, le, length-drop at file);
  reads = λ k. is.reads k ∙ ap (λ (l : List ℕ). one_more (take n l) (records (k + 5 + n) 0 (drop (5 + n) (drop at file)))) (drop-drop 5 at file)
      ∙ ap (λ (l : List ℕ). one_more (take n (drop (at + 5) file)) (records (k + 5 + n) 0 l)) (drop-drop (5 + n) at file ∙ ap (λ (m : ℕ). drop m file) (omega arith));
}

-- the next step of the reader
pub onward : (file : List ℕ) (start at n : ℕ) (bodies : List (List ℕ)) (r : Records) → behind bodies (records at 0 (drop at file)) ≡ r → IsRecordAt file at n
    → behind (bodies ++ take n (drop (at + 5) file) ∷ []) (records (at + 5 + n) 0 (drop (at + 5 + n) file)) ≡ r
onward file start at n bodies r left is = put_behind bodies (take n (drop (at + 5) file)) (records (at + 5 + n) 0 (drop (at + 5 + n) file)) ∙ ap (behind bodies) (sym (is.reads at)) ∙ left

pub if_some : (o : Option ℕ) (P Q : ℕ → Type 0) → ((n : ℕ) → P n → Q n) → IfSome o P → IfSome o Q
if_some (Some n) P Q to is = to n is
if_some None P Q to is = tt

pub to_the_end : (xs : List ℕ) (at : ℕ) → take (length xs - at) (drop at xs) ≡ drop at xs
to_the_end xs at = take_all (length xs - at) (drop at xs) (omega (arith, length-drop at xs))

pub to_the_end_of : (xs : List ℕ) (at n : ℕ) → n ≤ length (take (length xs - at) (drop at xs)) → n ≤ length xs - at
to_the_end_of xs at n le = omega (arith, le, length-drop at xs, ap length (to_the_end xs at))

pub so_far : (file : List ℕ) (start at n : ℕ) (bodies more : List (List ℕ)) → behind bodies (records at 0 (drop at file)) ≡ records start 0 (drop start file) → at ≡ start + size_of bodies → IsRecordAt file at n
    → more ≡ bodies ++ take n (drop (at + 5) file) ∷ [] → IsSoFar file start (at + (5 + n)) more
so_far file start at n bodies more left sizes is pushed =
    let lengths : length (take n (drop (at + 5) file)) ≡ n = let f = is.fits in omega (arith, f, length-take n (drop (at + 5) file), length-drop (at + 5) file) in
    let same : at + 5 + n ≡ at + (5 + n) = omega arith in
    record {
      left = subst (λ (m : ℕ). behind more (records m 0 (drop m file)) ≡ records start 0 (drop start file)) same
          (ap (λ (l : List (List ℕ)). behind l (records (at + 5 + n) 0 (drop (at + 5 + n) file))) pushed ∙ onward file start at n bodies (records start 0 (drop start file)) left is);
      sizes = let e = size_more bodies (take n (drop (at + 5) file)) in omega (arith, e, ap size_of pushed, lengths, sizes);
      within = let f = is.fits in omega (arith, f);
    }

-- a generation that isn't the last has a next
pub below_last : (n : ℕ) → n < 2 ^ 64 → n ≢ 2 ^ 64 - 1 → n < 2 ^ 64 - 1
below_last n lt e = omega (arith, lt, e)
