-- What settling writes through, and what it leaves.
use Rattle.std.proofs.Common.{◌≡◌, ⊎_elim, ℕ, ◌+◌, ◌≤◌, ◌<◌, ◌^◌, List, [], ◌∷◌, length, reverse, refl, sym, ◌∙◌, ap, subst, arith}
use Rattle.room_disk.specs.Model.{Images, Only, RunsBetween}
use Rattle.room_disk.specs.Changes.{reach}
use Rattle.room_disk.specs.Stops.{torn_bytes}
use Rattle.room_disk.specs.declared.disk.Stop.{Stop}
use Rattle.room_disk.specs.declared.disk.Stop.TheVariants.{Old, New, Torn}
use Rattle.room_disk.specs.declared.change.FileChange.{FileChange}
use Rattle.room_disk.specs.declared.change.FileChange.TheVariants.{Write, Cut}
use Rattle.room_disk.proofs.Moments.{up_to_or_past}
use Rattle.room_fuse.specs.Held.{content_over, LeftOver, Fits, StaysBelow, torn_change, torn_call, torn, ready, left_by}
use Rattle.room_fuse.specs.Past.{LeftNow, images_at, IsMarked}
use Rattle.room_fuse.specs.Laws.{inner_is_left, torn_fits, torn_is_left, length_torn, now_of, of_now, bare_images}
use Rattle.room_fuse.specs.declared.past.Mark.{Mark}
use Rattle.room_fuse.proofs.Lists.{Calls, Leaves, Reads}
use Rattle.room_fuse.proofs.Rests.{reverse_torn}
use Rattle.room_fuse.proofs.Holding.{past_stays, size_marked}
use Rattle.room_fuse.proofs.Passing.{still}

ready_reads : (how : Stop) (S : Reads) (xs : Calls) (f : ℕ) → content_over S (reverse (ready how xs)) f ≡ left_by how S (reverse xs) f
ready_reads Old S xs f = refl
ready_reads New S xs f = refl
ready_reads Torn S xs f = ap (λ (l : Calls). content_over S l f) (reverse_torn xs)

ready_fits : (how : Stop) (S : Reads) (xs : Calls) → Fits S (reverse xs) → Fits S (reverse (ready how xs))
ready_fits Old S xs fits = tt
ready_fits New S xs fits = fits
ready_fits Torn S xs fits = subst (Fits S) (sym (reverse_torn xs)) (torn_fits S (reverse xs) fits)

ready_left : (how : Stop) (B : Leaves) (xs : Calls) (f : ℕ) (c : List ℕ) → LeftOver B (reverse (ready how xs)) f c → LeftOver B (reverse xs) f c
ready_left Old B xs f c left = inner_is_left B (reverse xs) f c left
ready_left New B xs f c left = left
ready_left Torn B xs f c left = torn_is_left B (reverse xs) f c (subst (λ (l : Calls). LeftOver B l f c) (reverse_torn xs) left)

reach_torn : (x : FileChange) → reach (torn_change x) ≡ reach x
reach_torn (Write at bytes) = ap (λ n. at + n) (length_torn bytes)
reach_torn (Cut n) = refl

torn_below : (xs : Calls) → StaysBelow xs → StaysBelow (torn xs)
torn_below [] below = tt
torn_below (x ∷ xs) below = (subst (λ n. n < 2 ^ 62) (sym (reach_torn x.change)) below.0, torn_below xs below.1)

ready_below : (how : Stop) (xs : Calls) → StaysBelow xs → StaysBelow (ready how xs)
ready_below Old xs below = tt
ready_below New xs below = below
ready_below Torn xs below = torn_below xs below

torn_bytes_again : (bytes : List ℕ) → torn_bytes (torn_bytes bytes) ≡ torn_bytes bytes
torn_bytes_again [] = refl
torn_bytes_again (b ∷ bytes) = ap (λ (l : List ℕ). 255 ∷ l) (torn_bytes_again bytes)

torn_change_again : (x : FileChange) → torn_change (torn_change x) ≡ torn_change x
torn_change_again (Write at bytes) = ap (Write at) (torn_bytes_again bytes)
torn_change_again (Cut n) = refl

torn_again : (xs : Calls) → torn (torn xs) ≡ torn xs
torn_again [] = refl
torn_again (x ∷ xs) =
    ap (λ (y : FileChange). record { file = x.file; change = y } ∷ torn (torn xs)) (torn_change_again x.change) ∙ ap (λ (l : Calls). torn_call x ∷ l) (torn_again xs)

none_longer : (xs : Calls) → length xs ≤ 0 → xs ≡ []
none_longer [] le = refl
none_longer (x ∷ xs) le = absurd (omega (arith, le))

-- The calls ys that were made ready of xs.
module _ (how : Stop) (xs ys : Calls) (is : ys ≡ ready how xs) where
  pub reads_ready : (S : Reads) (f : ℕ) → content_over S (reverse ys) f ≡ left_by how S (reverse xs) f
  reads_ready S f = ap (λ (l : Calls). content_over S (reverse l) f) is ∙ ready_reads how S xs f

  pub fits_ready : (S : Reads) → Fits S (reverse xs) → Fits S (reverse ys)
  fits_ready S fits = subst (λ (l : Calls). Fits S (reverse l)) (sym is) (ready_fits how S xs fits)

  pub below_ready : StaysBelow xs → StaysBelow ys
  below_ready below = subst StaysBelow (sym is) (ready_below how xs below)

  pub left_ready : (B : Leaves) (f : ℕ) (c : List ℕ) → LeftOver B (reverse ys) f c → LeftOver B (reverse xs) f c
  left_ready B f c left = ready_left how B xs f c (subst (λ (l : Calls). LeftOver B (reverse l) f c) is left)

-- what settling leaves stays where it was not done to the end
pub again : (how : Stop) (xs ys zs : Calls) (S T : Reads) → ys ≡ ready how xs → length zs ≤ length ys → (torn ys ≡ ys → torn zs ≡ zs) → ((f : ℕ) → content_over T (reverse zs) f ≡ content_over S (reverse ys) f)
    → (f : ℕ) → left_by how T (reverse zs) f ≡ left_by how S (reverse xs) f
again Old xs ys zs S T is fewer still reads f =
    let none : zs ≡ [] = none_longer zs (subst (λ (l : Calls). length zs ≤ length l) is fewer) in
    ap (λ (l : Calls). content_over T (reverse l) f) (sym none) ∙ reads f ∙ ap (λ (l : Calls). content_over S (reverse l) f) is
again New xs ys zs S T is fewer still reads f = reads f ∙ ap (λ (l : Calls). content_over S (reverse l) f) is
again Torn xs ys zs S T is fewer still reads f =
    let torn_still : torn zs ≡ zs = still (ap torn is ∙ torn_again xs ∙ sym is) in
    ap (λ (l : Calls). content_over T l f) (sym (reverse_torn zs)) ∙ ap (λ (l : Calls). content_over T (reverse l) f) torn_still ∙ reads f
    ∙ ap (λ (l : Calls). content_over S (reverse l) f) is ∙ ready_reads Torn S xs f

pub widen : (before now : ℕ) (was is : Images) (P Q : Leaves) → RunsBetween before now was is P → ((f : ℕ) (c : List ℕ) → P f c → Q f c) → RunsBetween before now was is Q
widen before now was is P Q run to = record { later = run.later; keeps = run.keeps; each = λ m f c from till left. to f c (run.each m f c from till left) }

module _ {D : Type 0} (images : D → Images) (moment : D → ℕ) where
  -- each image at either moment is one from before
  pub within_marked : (past ps : List (Mark D)) (inner later : D) (held after : Calls) → IsMarked past inner held ps → ((f : ℕ) (c : List ℕ) → LeftNow images moment later after f c → LeftNow images moment inner held f c)
      → RunsBetween (length past) (length ps) (images_at images moment past inner held) (images_at images moment ps later after) (images_at images moment past inner held (length past))
  within_marked past ps inner later held after marked shrinks =
      let size = size_marked past ps inner held marked in
      let keeps = past_stays images moment past ps inner later held after marked in
      record {
        later = omega (arith, size);
        keeps = keeps;
        each = λ m f c from till left. ⊎_elim
            (λ (early : m ≤ length past). subst (λ (n : ℕ). images_at images moment past inner held n f c) (let e : m ≡ length past = omega (arith, early, from) in e) (keeps.nothing_else m f c early left))
            (λ (late : length past + 1 ≤ m). now_of images moment past inner held f c (shrinks f c (of_now images moment ps later after f c (subst (λ (n : ℕ). images_at images moment ps later after n f c) (let e : m ≡ length ps = omega (arith, late, till, size) in e) left))))
            (up_to_or_past m (length past));
      }

  pub within_still : (past ps : List (Mark D)) (inner : D) (held : Calls) → ps ≡ past
      → RunsBetween (length past) (length ps) (images_at images moment past inner held) (images_at images moment ps inner held) (images_at images moment past inner held (length past))
  within_still past ps inner held same =
      subst (λ (l : List (Mark D)). RunsBetween (length past) (length l) (images_at images moment past inner held) (images_at images moment l inner held) (images_at images moment past inner held (length past))) (sym same)
      (still (length past) (images_at images moment past inner held) (images_at images moment past inner held (length past)) (λ f c left. left))

  -- where nothing is held back any more
  pub bare_only : (seen : D → Reads) (ps : List (Mark D)) (later : D) (after : Calls) (f : ℕ) → after ≡ [] → Only (seen later f) (images later (moment later) f)
      → Only (content_over (seen later) (reverse after) f) (images_at images moment ps later after (length ps) f)
  bare_only seen ps later after f none only c left = only c (bare_images images moment ps later after none f c left) ∙ ap (λ (l : Calls). content_over (seen later) (reverse l) f) (sym none)
