-- Lists of calls that are held back, the newest first.
use Rattle.std.proofs.Common.{◌≡◌, ℕ, ◌==◌, ◌≤◌, List, [], ◌∷◌, ◌++◌, length, reverse, cond, refl, sym, ap, subst}
use Rattle.std.proofs.lemmas.List.{reverse-append}
use Rattle.room_disk.specs.Model.{Follows}
use Rattle.room_disk.specs.Changes.{changed, ChangedInPart, place}
use Rattle.room_disk.specs.Record.{Chosen}
use Rattle.room_disk.proofs.Recorded.{other_test}
use Rattle.room_disk.proofs.Choices.{chosen_map, passed_over, pass_over}
use Rattle.room_fuse.specs.Held.{content_over, LeftOver, Fits, Others}
use Rattle.room_fuse.specs.declared.held.Held.{Held}

abbrev pub Calls : Type 0
Calls = List Held

abbrev pub Leaves : Type 1
Leaves = ℕ → List ℕ → Type 0

abbrev pub Reads : Type 0
Reads = ℕ → List ℕ

pub over-append : (B : Leaves) (us vs : Calls) → LeftOver B (us ++ vs) ≡ LeftOver (LeftOver B vs) us
over-append B [] vs = refl
over-append B (u ∷ us) vs = ap (λ (W : Leaves). λ f c. Chosen (u.file == f) (Follows (ChangedInPart u.change) (W f) c) (W f c)) (over-append B us vs)

pub content-append : (S : Reads) (us vs : Calls) → content_over S (us ++ vs) ≡ content_over (content_over S vs) us
content-append S [] vs = refl
content-append S (u ∷ us) vs = ap (λ (W : Reads). λ f. cond (u.file == f) (changed u.change (W f)) (W f)) (content-append S us vs)

pub over_more : (B W : Leaves) (xs : Calls) (f : ℕ) → ((c : List ℕ) → B f c → W f c) → (c : List ℕ) → LeftOver B xs f c → LeftOver W xs f c
over_more B W [] f to c left = to c left
over_more B W (x ∷ xs) f to c left =
    chosen_map (x.file == f) _ _ _ _ (λ from. (from.0, over_more B W xs f to from.0 from.1, from.2)) (over_more B W xs f to c) left

pub over_skip : (B : Leaves) (xs : Calls) (f : ℕ) → Others f xs → (c : List ℕ) → LeftOver B xs f c → B f c
over_skip B [] f others c left = left
over_skip B (x ∷ xs) f others c left = over_skip B xs f others.1 c (passed_over _ _ _ (other_test x.file f others.0) left)

pub over_skipped : (B : Leaves) (xs : Calls) (f : ℕ) → Others f xs → (c : List ℕ) → B f c → LeftOver B xs f c
over_skipped B [] f others c left = left
over_skipped B (x ∷ xs) f others c left = pass_over _ _ _ (other_test x.file f others.0) (over_skipped B xs f others.1 c left)

pub content_skip : (S : Reads) (xs : Calls) (f : ℕ) → Others f xs → content_over S xs f ≡ S f
content_skip S [] f others = refl
content_skip S (x ∷ xs) f others = rw (other_test x.file f others.0) (content_skip S xs f others.1)

pub content_same : (S T : Reads) (xs : Calls) (f : ℕ) → S f ≡ T f → content_over S xs f ≡ content_over T xs f
content_same S T [] f same = same
content_same S T (x ∷ xs) f same = ap (λ l. cond (x.file == f) (changed x.change l) l) (content_same S T xs f same)

-- the place of each call in what those before it leave
pub fits_split : (S : Reads) (us vs : Calls) → Fits S (us ++ vs) → Fits (content_over S vs) us × Fits S vs
fits_split S [] vs fits = (tt, fits)
fits_split S (u ∷ us) vs fits = let rest = fits_split S us vs fits.1 in ((subst (λ (V : Reads). place u.change ≤ length (V u.file)) (content-append S us vs) fits.0, rest.0), rest.1)

pub fits_join : (S : Reads) (us vs : Calls) → Fits (content_over S vs) us → Fits S vs → Fits S (us ++ vs)
fits_join S [] vs first last = last
fits_join S (u ∷ us) vs first last = (subst (λ (V : Reads). place u.change ≤ length (V u.file)) (sym (content-append S us vs)) first.0, fits_join S us vs first.1 last)

pub fits_same : (S T : Reads) (xs : Calls) → ((f : ℕ) → S f ≡ T f) → Fits S xs → Fits T xs
fits_same S T [] same fits = tt
fits_same S T (x ∷ xs) same fits = (subst (λ (l : List ℕ). place x.change ≤ length l) (content_same S T xs x.file (same x.file)) fits.0, fits_same S T xs same fits.1)

pub fits_others : (S T : Reads) (xs : Calls) (file : ℕ) → ((f : ℕ) → (f ≡ file → ⊥) → T f ≡ S f) → Others file xs → Fits S xs → Fits T xs
fits_others S T [] file there others fits = tt
fits_others S T (x ∷ xs) file there others fits =
    (subst (λ (l : List ℕ). place x.change ≤ length l) (content_same S T xs x.file (sym (there x.file others.0))) fits.0, fits_others S T xs file there others.1 fits.1)

others_append : (file : ℕ) (us vs : Calls) → Others file us → Others file vs → Others file (us ++ vs)
others_append file [] vs first last = last
others_append file (u ∷ us) vs first last = (first.0, others_append file us vs first.1 last)

pub others_reverse : (file : ℕ) (xs : Calls) → Others file xs → Others file (reverse xs)
others_reverse file [] others = tt
others_reverse file (x ∷ xs) others = subst (Others file) (sym (reverse-append (x ∷ []) xs)) (others_append file (reverse xs) (x ∷ []) (others_reverse file xs others.1) (others.0, tt))
