-- One call more in a record.
use Rattle.std.proofs.Common.{◌≡◌, ◌≢◌, ◌⊎◌, ⊎_elim, ℕ, ◌==◌, ◌≤◌, ◌<◌, ◌^◌, List, [], ◌∷◌, ◌++◌, length, take, reverse, cond, true, false, Bool, refl, sym, ◌∙◌, ap, subst, arith, length-append}
use Rattle.std.proofs.Math.Seq.{take-length}
use Rattle.std.proofs.lemmas.List.{reverse-append, take-append-le}
use Rattle.std.proofs.lemmas.Bool.{eq-eqb, eqb-true}
use Rattle.std.proofs.lemmas.Bool.Decides.{nat_tests}
use Rattle.room_disk.specs.Model.{Follows, Same}
use Rattle.room_disk.specs.Changes.{changed, ChangedInPart, place, reach}
use Rattle.room_disk.specs.Record.{done_by, content_of, LeftBy, MayLeave, seen_of, images_of, StepsTo, seen_may_be_left}
use Rattle.room_disk.specs.Parts.{change_done, change_undone, changed_below}
use Rattle.room_disk.specs.declared.change.FileChange.{FileChange}
use Rattle.room_disk.specs.declared.medium.Entry.{Entry}
use Rattle.room_disk.proofs.Moments.{keeps_same}
use Rattle.room_disk.proofs.Choices.{chosen, passed_over}

pub same_test : (a b : ℕ) → a ≡ b → (a == b) ≡ true
same_test a b is = eq-eqb a b is

pub other_test : (a b : ℕ) → a ≢ b → (a == b) ≡ false
other_test a b is = grind (arith, nat_tests)

abbrev Step : Type 1
Step = List ℕ → List ℕ → Type 0

-- a record that has no call more
pub steps_none : (file : ℕ) (step : Step) (xs ys : List Entry) → ((d : List ℕ) → step d d) → ys ≡ xs → StepsTo file step xs ys
steps_none file step xs ys same is = subst (λ l. StepsTo file step xs l) (sym is) record {
  later = omega arith;
  most = omega arith;
  keeps = keeps_same (length xs) (images_of xs);
  seen = λ f other. refl;
  images = λ f c other left. left;
  read_step = same (seen_of xs file);
  by_step = λ c left. (c, left, same c);
}

module _ (xs : List Entry) (x : Entry) where
  abbrev older : List Entry
  older = reverse xs

  newest : reverse (xs ++ x ∷ []) ≡ x ∷ older
  newest = reverse-append xs (x ∷ [])

  -- the images before the call
  here : (f : ℕ) (c : List ℕ) → MayLeave older f c → images_of xs (length xs) f c
  here f c left = subst (λ (l : List Entry). MayLeave (reverse l) f c) (sym (take-length xs)) left

  next : (f : ℕ) (c : List ℕ) → images_of (xs ++ x ∷ []) (length (xs ++ x ∷ [])) f c → MayLeave (x ∷ older) f c
  next f c left = subst (λ (l : List Entry). MayLeave l f c) newest (subst (λ (l : List Entry). MayLeave (reverse l) f c) (take-length (xs ++ x ∷ [])) left)

  past : (m : ℕ) → m ≤ length xs → take m (xs ++ x ∷ []) ≡ take m xs
  past m le = take-append-le m xs (x ∷ []) le

  steps_more : (step : Step) → step (content_of older x.file) (done_by x.act (content_of older x.file))
      → ((c : List ℕ) → (c ≡ done_by x.act (content_of older x.file)) ⊎ LeftBy x.act (MayLeave older x.file) c → Follows step (MayLeave older x.file) c) → StepsTo x.file step xs (xs ++ x ∷ [])
  steps_more step reads does = record {
    read_step = subst (λ (l : List ℕ). step (content_of older x.file) l) (sym (ap (λ (l : List Entry). content_of l x.file) newest ∙ rw (same_test x.file x.file refl) refl)) reads;
    later = omega (arith, length-append xs (x ∷ []));
    most = omega (arith, length-append xs (x ∷ []));
    keeps = record {
      kept = λ m f c le left. subst (λ (l : List Entry). MayLeave (reverse l) f c) (sym (past m le)) left;
      nothing_else = λ m f c le left. subst (λ (l : List Entry). MayLeave (reverse l) f c) (past m le) left;
    };
    seen = λ f other. ap (λ (l : List Entry). content_of l f) newest ∙ rw (other_test x.file f (λ e. other (sym e))) refl;
    images = λ f c other left. here f c (passed_over _ _ _ (other_test x.file f (λ e. other (sym e))) (next f c left));
    by_step = λ c left. let from = does c (chosen _ _ _ (same_test x.file x.file refl) (next x.file c left)) in (from.0, here x.file from.0 from.1, from.2);
  }

  pub steps_to : (ys : List Entry) (step : Step) → ys ≡ xs ++ x ∷ [] → step (seen_of xs x.file) (done_by x.act (seen_of xs x.file))
      → ((c : List ℕ) → (c ≡ done_by x.act (seen_of xs x.file)) ⊎ LeftBy x.act (MayLeave older x.file) c → Follows step (MayLeave older x.file) c) → StepsTo x.file step xs ys
  steps_to ys step is reads does = subst (λ l. StepsTo x.file step xs l) (sym is) (steps_more step reads does)

  pub seen_to : (ys : List Entry) → ys ≡ xs ++ x ∷ [] → seen_of ys x.file ≡ done_by x.act (seen_of xs x.file)
  seen_to ys is = ap (λ (l : List Entry). seen_of l x.file) is ∙ ap (λ (l : List Entry). content_of l x.file) newest ∙ rw (same_test x.file x.file refl) refl

  -- the files go on with their record
  pub kept_to : (ys : List Entry) (old new : ℕ → List ℕ) → ys ≡ xs ++ x ∷ [] → old ≡ content_of older → ((f : ℕ) → new f ≡ cond (x.file == f) (done_by x.act (old f)) (old f)) → new ≡ content_of (reverse ys)
  kept_to ys old new is kept step =
      let at : (f : ℕ) → new f ≡ content_of (x ∷ older) f = λ f. step f ∙ ap (λ (h : ℕ → List ℕ). cond (x.file == f) (done_by x.act (h f)) (h f)) kept in
      let all : new ≡ content_of (x ∷ older) = λ i f. at f i in
      all ∙ ap content_of (sym newest) ∙ ap (λ (l : List Entry). content_of (reverse l)) (sym is)

pub choose_same : (file f : ℕ) (x : List ℕ) → x ≡ cond (file == f) x x
choose_same file f x = elim (file == f) as (λ b. x ≡ cond b x x) [ true ↦ refl | false ↦ refl ]

-- and stay within their bound
small_by : (b : Bool) (y : FileChange) (old : List ℕ) → (b ≡ true → place y ≤ length old) → reach y < 2 ^ 62 → length old < 2 ^ 62 → length (cond b (changed y old) old) < 2 ^ 62
small_by true y old within end small = changed_below y old (2 ^ 62) (within refl) end small
small_by false y old within end small = small

pub small_to : (file : ℕ) (y : FileChange) (old new : ℕ → List ℕ) → place y ≤ length (old file) → reach y < 2 ^ 62 → ((f : ℕ) → new f ≡ cond (file == f) (changed y (old f)) (old f))
    → ((f : ℕ) → length (old f) < 2 ^ 62) → (f : ℕ) → length (new f) < 2 ^ 62
small_to file y old new within end step small f = subst (λ (l : List ℕ). length l < 2 ^ 62) (sym (step f))
    (small_by (file == f) y (old f) (λ is. subst (λ (n : ℕ). place y ≤ length (old n)) (eqb-true file f is) within) end (small f))

module _ (xs : List Entry) (file : ℕ) where
  -- what the content is from
  content : MayLeave (reverse xs) file (seen_of xs file)
  content = subst (λ (l : List Entry). MayLeave (reverse l) file (seen_of xs file)) (take-length xs) (seen_may_be_left xs file)

  pub does : (y : FileChange) (c : List ℕ) → place y ≤ length (seen_of xs file) → (c ≡ changed y (seen_of xs file)) ⊎ Follows (ChangedInPart y) (MayLeave (reverse xs) file) c
      → Follows (ChangedInPart y) (MayLeave (reverse xs) file) c
  does y c within either =
      ⊎_elim (λ is. (seen_of xs file, content, subst (ChangedInPart y (seen_of xs file)) (sym is) (change_done y (seen_of xs file) within))) (λ part. part) either

  pub refuses : (y : FileChange) (c : List ℕ) → (c ≡ seen_of xs file) ⊎ Follows (ChangedInPart y) (MayLeave (reverse xs) file) c → Follows (ChangedInPart y) (MayLeave (reverse xs) file) c
  refuses y c either = ⊎_elim (λ is. (seen_of xs file, content, subst (ChangedInPart y (seen_of xs file)) (sym is) (change_undone y (seen_of xs file)))) (λ part. part) either

  pub syncs : (c : List ℕ) → (c ≡ seen_of xs file) ⊎ ⊥ → Follows Same (MayLeave (reverse xs) file) c
  syncs c either = ⊎_elim (λ is. (seen_of xs file, content, is)) (λ (none : ⊥). absurd none) either
