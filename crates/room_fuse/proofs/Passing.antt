-- A call that is held back is passed on to the inner disk, the first of its file.
use Rattle.std.proofs.Common.{◌≡◌, ◌⊎◌, inl, inr, ⊎_elim, ℕ, zero, suc, ◌+◌, ◌≤◌, min, List, [], ◌∷◌, ◌++◌, length, take, drop, reverse, refl, sym, ◌∙◌, ap, subst, arith}
use Rattle.std.proofs.lemmas.List.{reverse-append, take_all, length-take}
use Rattle.std.proofs.lemmas.Bool.{cases_eq}
use Rattle.room_disk.specs.Model.{Images, Only, Follows, CutInPart, Same, StepsBetween, RunsBetween}
use Rattle.room_disk.specs.Changes.{changed, ChangedInPart, place}
use Rattle.room_disk.specs.declared.change.FileChange.{FileChange}
use Rattle.room_disk.specs.declared.change.FileChange.TheVariants.{Write, Cut}
use Rattle.room_disk.proofs.Recorded.{same_test, other_test}
use Rattle.room_disk.proofs.Choices.{chosen, passed_over, choose, pass_over}
use Rattle.room_disk.proofs.Moments.{sooner_or_later, up_to_or_past, keeps_same, keeps_then}
use Rattle.room_fuse.specs.Held.{content_over, LeftOver, Fits, Others, Rest}
use Rattle.room_fuse.specs.Past.{LeftNow}
use Rattle.room_fuse.specs.Passing.{Passed, Spares}
use Rattle.room_fuse.specs.Laws.{inner_is_left}
use Rattle.room_fuse.specs.declared.held.Held.{Held}
use Rattle.room_fuse.proofs.Lists.{Calls, Leaves, Reads, over-append, content-append, over_more, over_skip, over_skipped, content_skip, content_same, fits_split, fits_join, fits_same, fits_others, others_reverse}
use Rattle.room_fuse.proofs.Firsts.{First, reverse_split}
use Rattle.room_fuse.proofs.Rests.{rest_others}

take_twice : (m n : ℕ) (l : List ℕ) → m ≤ n → take m (take n l) ≡ take m l
take_twice zero n l le = refl
take_twice (suc m) zero l le = absurd (omega (arith, le))
take_twice (suc m) (suc n) [] le = refl
take_twice (suc m) (suc n) (x ∷ l) le = ap (λ (k : List ℕ). x ∷ k) (take_twice m n l (omega (arith, le)))

cut_shorter : (n : ℕ) (old new : List ℕ) → CutInPart n old new → length new ≤ length old
cut_shorter n old new cut = omega (arith, ap length cut.front, length-take (length new) old)

-- a change in part and the same again are one
step_again : (x : FileChange) (a b c : List ℕ) → ChangedInPart x a b → ChangedInPart x b c → ChangedInPart x a c
step_again (Write at bytes) a b c first second = record {
  before = second.before ∙ first.before;
  after = second.after ∙ first.after;
  no_shorter = omega (arith, first.no_shorter, second.no_shorter);
  no_longer = omega (arith, first.no_longer, second.no_longer);
}
step_again (Cut n) a b c first second = record {
  no_shorter = omega (arith, first.no_shorter, second.no_shorter);
  front = sym (take_twice (length c) (length b) a (cut_shorter n b c second)) ∙ ap (λ (l : List ℕ). take (length c) l) first.front ∙ second.front;
}

front_cut : (n : ℕ) (a b : List ℕ) → CutInPart n a b → (n ≤ length b) ⊎ (length a ≤ length b) → take n b ≡ take n a
front_cut n a b cut (inl short) = sym (ap (λ (l : List ℕ). take n l) cut.front) ∙ take_twice n (length b) a short
front_cut n a b cut (inr long) = ap (λ (l : List ℕ). take n l) (sym cut.front ∙ take_all (length b) a long)

which : (n a b : ℕ) → min n a ≤ b → (n ≤ b) ⊎ (a ≤ b)
which n a b le = ⊎_elim (λ (first : n ≤ a). inl (omega (arith, first, le))) (λ (second : a ≤ n). inr (omega (arith, second, le))) (sooner_or_later n a)

-- what was done in part is done by doing it
changed_again : (x : FileChange) (a b : List ℕ) → ChangedInPart x a b → changed x b ≡ changed x a
changed_again (Write at bytes) a b step = ap (λ (l : List ℕ). l ++ bytes ++ drop (at + length bytes) b) step.before ∙ ap (λ (l : List ℕ). take at a ++ bytes ++ l) step.after
changed_again (Cut n) a b step = front_cut n a b step (which n (length a) (length b) step.no_shorter)

place_stays : (x : FileChange) (a b : List ℕ) → ChangedInPart x a b → place x ≤ length a → place x ≤ length b
place_stays (Write at bytes) a b step within = omega (arith, step.no_shorter, within)
place_stays (Cut n) a b step within = omega (arith, step.no_shorter, within)

-- x among calls, those before it of other files
module _ (pre post : Calls) (x : Held) (others : Others x.file pre) where
  -- the images once it has been passed, or passed in part and kept
  module _ (B W : Leaves) (here : (c : List ℕ) → W x.file c → Follows (ChangedInPart x.change) (B x.file) c) (there : (f : ℕ) (c : List ℕ) → (f ≡ x.file → ⊥) → W f c → B f c) where
    before_step : (f : ℕ) (c : List ℕ) → LeftOver W pre f c → LeftOver B (x ∷ pre) f c
    before_step f c left = elim (cases_eq x.file f) [
      | inl same ↦ choose _ _ _ (same_test x.file f same) (
          let from = here c (subst (λ (n : ℕ). W n c) (sym same) (over_skip W pre f (subst (λ (n : ℕ). Others n pre) same others) c left)) in
          (from.0, subst (λ (n : ℕ). LeftOver B pre n from.0) same (over_skipped B pre x.file others from.0 from.1), from.2)
          )
      | inr other ↦ pass_over _ _ _ (other_test x.file f other) (over_more W B pre f (λ d. there f d (λ e. other (sym e))) c left)
    ]

    pub passed_images : (f : ℕ) (c : List ℕ) → LeftOver W (post ++ pre) f c → LeftOver B (post ++ x ∷ pre) f c
    passed_images f c left =
        subst (λ (V : Leaves). V f c) (sym (over-append B post (x ∷ pre)))
        (over_more (LeftOver W pre) (LeftOver B (x ∷ pre)) post f (before_step f) c (subst (λ (V : Leaves). V f c) (over-append W post pre) left))

    kept_step : (f : ℕ) (c : List ℕ) → LeftOver W (x ∷ pre) f c → LeftOver B (x ∷ pre) f c
    kept_step f c left = elim (cases_eq x.file f) [
      | inl same ↦ choose _ _ _ (same_test x.file f same) (
          let again = chosen _ _ _ (same_test x.file f same) left in
          let was = here again.0 (over_skip W pre x.file others again.0 (subst (λ (n : ℕ). LeftOver W pre n again.0) (sym same) again.1)) in
          (was.0, subst (λ (n : ℕ). LeftOver B pre n was.0) same (over_skipped B pre x.file others was.0 was.1), step_again x.change was.0 again.0 c was.2 again.2)
          )
      | inr other ↦ pass_over _ _ _ (other_test x.file f other) (over_more W B pre f (λ d. there f d (λ e. other (sym e))) c (passed_over _ _ _ (other_test x.file f other) left))
    ]

    pub kept_images : (f : ℕ) (c : List ℕ) → LeftOver W (post ++ x ∷ pre) f c → LeftOver B (post ++ x ∷ pre) f c
    kept_images f c left =
        subst (λ (V : Leaves). V f c) (sym (over-append B post (x ∷ pre)))
        (over_more (LeftOver W (x ∷ pre)) (LeftOver B (x ∷ pre)) post f (kept_step f) c (subst (λ (V : Leaves). V f c) (over-append W post (x ∷ pre)) left))

  module _ (S T : Reads) (there : (f : ℕ) → (f ≡ x.file → ⊥) → T f ≡ S f) where
    -- what a read gives once it has been passed
    module _ (here : T x.file ≡ changed x.change (S x.file)) where
      read_step : (f : ℕ) → content_over T pre f ≡ content_over S (x ∷ pre) f
      read_step f = elim (cases_eq x.file f) [
        | inl same ↦ rw (same_test x.file f same) (
            subst (λ (n : ℕ). content_over T pre n ≡ changed x.change (content_over S pre n)) same
            (content_skip T pre x.file others ∙ here ∙ ap (changed x.change) (sym (content_skip S pre x.file others)))
            )
        | inr other ↦ rw (other_test x.file f other) (content_same T S pre f (there f (λ e. other (sym e))))
      ]

      pub passed_content : (f : ℕ) → content_over T (post ++ pre) f ≡ content_over S (post ++ x ∷ pre) f
      passed_content f =
          ap (λ (V : Reads). V f) (content-append T post pre) ∙ content_same (content_over T pre) (content_over S (x ∷ pre)) post f (read_step f)
          ∙ sym (ap (λ (V : Reads). V f) (content-append S post (x ∷ pre)))

    module _ (fits : Fits S (post ++ x ∷ pre)) where
      parts : Fits (content_over S (x ∷ pre)) post × Fits S (x ∷ pre)
      parts = fits_split S post (x ∷ pre) fits

      pub finds_place : place x.change ≤ length (S x.file)
      finds_place = subst (λ (l : List ℕ). place x.change ≤ length l) (content_skip S pre x.file others) parts.1.0

      pub passed_fits : T x.file ≡ changed x.change (S x.file) → Fits T (post ++ pre)
      passed_fits here =
          fits_join T post pre (fits_same (content_over S (x ∷ pre)) (content_over T pre) post (λ f. sym (read_step here f)) parts.0) (fits_others S T pre x.file there others parts.1.1)

      -- once it was refused and is kept: doing it again gives the same
      module _ (part : ChangedInPart x.change (S x.file) (T x.file)) where
        same_step : (f : ℕ) → content_over T (x ∷ pre) f ≡ content_over S (x ∷ pre) f
        same_step f = elim (cases_eq x.file f) [
          | inl same ↦ rw (same_test x.file f same) (
              subst (λ (n : ℕ). changed x.change (content_over T pre n) ≡ changed x.change (content_over S pre n)) same
              (ap (changed x.change) (content_skip T pre x.file others) ∙ changed_again x.change (S x.file) (T x.file) part ∙ ap (changed x.change) (sym (content_skip S pre x.file others)))
              )
          | inr other ↦ rw (other_test x.file f other) (content_same T S pre f (there f (λ e. other (sym e))))
        ]

        pub kept_content : (f : ℕ) → content_over T (post ++ x ∷ pre) f ≡ content_over S (post ++ x ∷ pre) f
        kept_content f =
            ap (λ (V : Reads). V f) (content-append T post (x ∷ pre)) ∙ content_same (content_over T (x ∷ pre)) (content_over S (x ∷ pre)) post f (same_step f)
            ∙ sym (ap (λ (V : Reads). V f) (content-append S post (x ∷ pre)))

        pub kept_fits : Fits T (post ++ x ∷ pre)
        kept_fits = fits_join T post (x ∷ pre) (fits_same (content_over S (x ∷ pre)) (content_over T (x ∷ pre)) post (λ f. sym (same_step f)) parts.0)
            (subst (λ (l : List ℕ). place x.change ≤ length l) (sym (content_skip T pre x.file others)) (place_stays x.change (S x.file) (T x.file) part finds_place), fits_others S T pre x.file there others parts.1.1)

-- one call, at whose two moments P holds
pub stepped_to : (file before now : ℕ) (was is : Images) (S T : Reads) (step : List ℕ → List ℕ → Type 0) (P : Leaves) → StepsBetween file step before now was is S T
    → ((f : ℕ) (c : List ℕ) → was before f c → P f c) → ((f : ℕ) (c : List ℕ) → is now f c → P f c) → RunsBetween before now was is P
stepped_to file before now was is S T step P steps first last = record {
  later = steps.later;
  keeps = steps.keeps;
  each = λ m f c from till left. ⊎_elim
      (λ (early : m ≤ before). first f c (subst (λ (n : ℕ). was n f c) (let e : m ≡ before = omega (arith, early, from) in e) (steps.keeps.nothing_else m f c early left)))
      (λ (late : before + 1 ≤ m). last f c (subst (λ (n : ℕ). is n f c) (let e : m ≡ now = omega (arith, late, till, steps.most) in e) left))
      (up_to_or_past m before);
}

-- a call that was not made
pub still : (before : ℕ) (was : Images) (P : Leaves) → ((f : ℕ) (c : List ℕ) → was before f c → P f c) → RunsBetween before before was was P
still before was P here = record {
  later = omega arith;
  keeps = keeps_same before was;
  each = λ m f c from till left. here f c (subst (λ (n : ℕ). was n f c) (let e : m ≡ before = omega (arith, from, till) in e) left);
}

-- one run and then another
runs : (before mid now : ℕ) (was so is : Images) (P Q : Leaves) → RunsBetween before mid was so P → RunsBetween mid now so is Q → ((f : ℕ) (c : List ℕ) → Q f c → P f c) → RunsBetween before now was is P
runs before mid now was so is P Q first second to = record {
  later = omega (arith, first.later, second.later);
  keeps = keeps_then before mid was so is first.later first.keeps second.keeps;
  each = λ m f c from till left. ⊎_elim
      (λ (early : m ≤ mid). first.each m f c from early (second.keeps.nothing_else m f c early left))
      (λ (late : mid ≤ m). to f c (second.each m f c late till left))
      (sooner_or_later m mid);
}

module _ {D : Type 0} (seen : D → Reads) (moment : D → ℕ) (images : D → Images) where
  pub passed_same : (old : D) (held : Calls) → Fits (seen old) (reverse held) → Passed seen moment images old held old held
  passed_same old held fits = record {
    fits = fits;
    reads = λ f. refl;
    images_left = λ f c left. left;
    within = still (moment old) (images old) (LeftNow images moment old held) (inner_is_left (images old (moment old)) (reverse held));
  }

  pub passed_then : (old mid new : D) (held less left : Calls) → Passed seen moment images old held mid less → Passed seen moment images mid less new left → Passed seen moment images old held new left
  passed_then old mid new held less left first second = record {
    fits = second.fits;
    reads = λ f. second.reads f ∙ first.reads f;
    images_left = λ f c l. first.images_left f c (second.images_left f c l);
    within = runs (moment old) (moment mid) (moment new) (images old) (images mid) (images new) (LeftNow images moment old held) (LeftNow images moment mid less) first.within second.within first.images_left;
  }

  pub spares_same : (file : ℕ) (old : D) → Spares seen moment images file old old
  spares_same file old = record { reads = λ f other. refl; images_left = λ f c other left. left }

  pub spares_then : (file : ℕ) (old mid new : D) → Spares seen moment images file old mid → Spares seen moment images file mid new → Spares seen moment images file old new
  spares_then file old mid new first second = record {
    reads = λ f other. second.reads f other ∙ first.reads f other;
    images_left = λ f c other left. first.images_left f c other (second.images_left f c other left);
  }

  pub spares_step : (file : ℕ) (step : List ℕ → List ℕ → Type 0) (old new : D) → StepsBetween file step (moment old) (moment new) (images old) (images new) (seen old) (seen new) → Spares seen moment images file old new
  spares_step file step old new steps = record { reads = steps.seen; images_left = steps.images }

  -- files of which nothing is held back any more, and which were synced
  pub durable_then : (file f : ℕ) (old new : D) (less left : Calls) → Rest file less left → Spares seen moment images file old new → Only (seen new file) (images new (moment new) file)
      → (Others f less → Only (seen old f) (images old (moment old) f)) → Others f left → Only (seen new f) (images new (moment new) f)
  durable_then file f old new less left rest spares here so none = elim (cases_eq f file) [
    | inl same ↦ subst (λ (n : ℕ). Only (seen new n) (images new (moment new) n)) (sym same) here
    | inr other ↦ λ c l. so (rest_others file f less left other rest none) c (spares.images_left f c other l) ∙ sym (spares.reads f other)
  ]

  -- the first call of a file, passed to the inner disk
  module _ (held : Calls) (file : ℕ) (d : Held) (at : First held file d) (old new : D) (goes : StepsBetween file (ChangedInPart d.change) (moment old) (moment new) (images old) (images new) (seen old) (seen new)) (fits : Fits (seen old) (reverse held)) where
    pre : Calls
    pre = reverse at.earlier

    post : Calls
    post = reverse at.later

    turned : reverse held ≡ reverse at.later ++ d ∷ reverse at.earlier
    turned = ap reverse at.split ∙ reverse_split at.earlier at.later d

    steps : StepsBetween d.file (ChangedInPart d.change) (moment old) (moment new) (images old) (images new) (seen old) (seen new)
    steps = subst (λ (n : ℕ). StepsBetween n (ChangedInPart d.change) (moment old) (moment new) (images old) (images new) (seen old) (seen new)) (sym at.file_is) goes

    apart : Others d.file (reverse at.earlier)
    apart = subst (λ (n : ℕ). Others n (reverse at.earlier)) (sym at.file_is) (others_reverse file at.earlier at.others)

    fits_turned : Fits (seen old) (reverse at.later ++ d ∷ reverse at.earlier)
    fits_turned = subst (Fits (seen old)) turned fits

    was : Leaves
    was = images old (moment old)

    is : Leaves
    is = images new (moment new)

    -- it was refused, and is kept
    refused_images : (f : ℕ) (c : List ℕ) → LeftNow images moment new held f c → LeftNow images moment old held f c
    refused_images f c left =
        subst (λ (l : Calls). LeftOver (images old (moment old)) l f c) (sym turned)
        (kept_images (reverse at.earlier) (reverse at.later) d apart (images old (moment old)) (images new (moment new)) steps.by_step steps.images f c (subst (λ (l : Calls). LeftOver (images new (moment new)) l f c) turned left))

    pub refused : Passed seen moment images old held new held
    refused = record {
      fits = subst (Fits (seen new)) (sym turned) (kept_fits (reverse at.earlier) (reverse at.later) d apart (seen old) (seen new) steps.seen fits_turned steps.read_step);
      reads = λ f. ap (λ (l : Calls). content_over (seen new) l f) turned ∙ kept_content (reverse at.earlier) (reverse at.later) d apart (seen old) (seen new) steps.seen fits_turned steps.read_step f
          ∙ sym (ap (λ (l : Calls). content_over (seen old) l f) turned);
      images_left = refused_images;
      within = stepped_to file (moment old) (moment new) (images old) (images new) (seen old) (seen new) (ChangedInPart d.change) (LeftNow images moment old held) goes
          (inner_is_left (images old (moment old)) (reverse held)) (λ f c left. refused_images f c (inner_is_left (images new (moment new)) (reverse held) f c left));
    }

    -- it was done, and is let go
    module _ (rest : Calls) (is_rest : rest ≡ at.earlier ++ at.later) (done : seen new file ≡ changed d.change (seen old file)) where
      left_over : reverse rest ≡ reverse at.later ++ reverse at.earlier
      left_over = ap reverse is_rest ∙ reverse-append at.earlier at.later

      done_here : seen new d.file ≡ changed d.change (seen old d.file)
      done_here = subst (λ (n : ℕ). seen new n ≡ changed d.change (seen old n)) (sym at.file_is) done

      done_images : (f : ℕ) (c : List ℕ) → LeftNow images moment new rest f c → LeftNow images moment old held f c
      done_images f c left =
          subst (λ (l : Calls). LeftOver (images old (moment old)) l f c) (sym turned)
          (passed_images (reverse at.earlier) (reverse at.later) d apart (images old (moment old)) (images new (moment new)) steps.by_step steps.images f c (subst (λ (l : Calls). LeftOver (images new (moment new)) l f c) left_over left))

      pub passed : Passed seen moment images old held new rest
      passed = record {
        fits = subst (Fits (seen new)) (sym left_over) (passed_fits (reverse at.earlier) (reverse at.later) d apart (seen old) (seen new) steps.seen fits_turned done_here);
        reads = λ f. ap (λ (l : Calls). content_over (seen new) l f) left_over ∙ passed_content (reverse at.earlier) (reverse at.later) d apart (seen old) (seen new) steps.seen done_here f
            ∙ sym (ap (λ (l : Calls). content_over (seen old) l f) turned);
        images_left = done_images;
        within = stepped_to file (moment old) (moment new) (images old) (images new) (seen old) (seen new) (ChangedInPart d.change) (LeftNow images moment old held) goes
            (inner_is_left (images old (moment old)) (reverse held)) (λ f c left. done_images f c (inner_is_left (images new (moment new)) (reverse rest) f c left));
      }

  -- a sync of the inner disk leaves no image more
  synced_images : (file : ℕ) (held : Calls) (old new : D) → StepsBetween file Same (moment old) (moment new) (images old) (images new) (seen old) (seen new) → (f : ℕ) (c : List ℕ) → LeftNow images moment new held f c → LeftNow images moment old held f c
  synced_images file held old new steps f c left = over_more (images new (moment new)) (images old (moment old)) (reverse held) f (λ d here. elim (cases_eq f file) [
    | inl same ↦ let from = steps.by_step d (subst (λ (n : ℕ). images new (moment new) n d) same here) in subst (λ (n : ℕ). images old (moment old) n d) (sym same) (subst (λ (l : List ℕ). images old (moment old) file l) (sym from.2) from.1)
    | inr other ↦ steps.images f d other here
  ]) c left

  reads_same : (file : ℕ) (old new : D) → StepsBetween file Same (moment old) (moment new) (images old) (images new) (seen old) (seen new) → (f : ℕ) → seen new f ≡ seen old f
  reads_same file old new steps f = elim (cases_eq f file) [
    | inl same ↦ subst (λ (n : ℕ). seen new n ≡ seen old n) (sym same) steps.read_step
    | inr other ↦ steps.seen f other
  ]

  pub synced : (file : ℕ) (held : Calls) (old new : D) → StepsBetween file Same (moment old) (moment new) (images old) (images new) (seen old) (seen new) → Fits (seen old) (reverse held) → Passed seen moment images old held new held
  synced file held old new steps fits = record {
    fits = fits_same (seen old) (seen new) (reverse held) (λ f. sym (reads_same file old new steps f)) fits;
    reads = λ f. content_same (seen new) (seen old) (reverse held) f (reads_same file old new steps f);
    images_left = synced_images file held old new steps;
    within = stepped_to file (moment old) (moment new) (images old) (images new) (seen old) (seen new) Same (LeftNow images moment old held) steps
        (inner_is_left (images old (moment old)) (reverse held)) (λ f c left. synced_images file held old new steps f c (inner_is_left (images new (moment new)) (reverse held) f c left));
  }

pub place_of_first : (held : Calls) (file : ℕ) (d : Held) (at : First held file d) (S : Reads) → Fits S (reverse held) → place d.change ≤ length (S file)
place_of_first held file d at S fits =
    let apart = subst (λ (n : ℕ). Others n (reverse at.earlier)) (sym at.file_is) (others_reverse file at.earlier at.others) in
    let turned = subst (Fits S) (ap reverse at.split ∙ reverse_split at.earlier at.later d) fits in
    subst (λ (n : ℕ). place d.change ≤ length (S n)) at.file_is (finds_place (reverse at.earlier) (reverse at.later) d apart S S (λ f other. refl) turned)
