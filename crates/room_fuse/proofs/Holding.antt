-- One call more that is held back, and one moment more.
use Rattle.std.proofs.Common.{◌≡◌, ℕ, zero, suc, ◌+◌, ◌≤◌, ◌<◌, ◌^◌, List, [], ◌∷◌, ◌++◌, length, reverse, refl, sym, ◌∙◌, ap, subst, arith, length-append}
use Rattle.std.proofs.lemmas.List.{reverse-append}
use Rattle.room_disk.specs.Model.{Images, Keeps, Same}
use Rattle.room_disk.specs.Changes.{changed, ChangedInPart, place, reach}
use Rattle.room_disk.specs.Parts.{change_done}
use Rattle.room_disk.proofs.Recorded.{same_test, other_test}
use Rattle.room_disk.proofs.Choices.{chosen, passed_over}
use Rattle.room_disk.proofs.Moments.{keeps_same}
use Rattle.room_fuse.specs.Held.{content_over, LeftOver, Fits, StaysBelow}
use Rattle.room_fuse.specs.Past.{inner_at, held_at, LeftNow, images_at, StepsThrough, IsMarked}
use Rattle.room_fuse.specs.Laws.{both, now_of, of_now}
use Rattle.room_fuse.specs.declared.held.Held.{Held}
use Rattle.room_fuse.specs.declared.past.Mark.{Mark}
use Rattle.room_fuse.proofs.Lists.{Calls, Reads}

abbrev Step : Type 1
Step = List ℕ → List ℕ → Type 0

newest : (held : Calls) (x : Held) → reverse (held ++ x ∷ []) ≡ x ∷ reverse held
newest held x = reverse-append held (x ∷ [])

pub fits_more : (S : Reads) (held later : Calls) (x : Held) → later ≡ held ++ x ∷ [] → place x.change ≤ length (content_over S (reverse held) x.file) → Fits S (reverse held) → Fits S (reverse later)
fits_more S held later x longer within fits = subst (Fits S) (sym (ap reverse longer ∙ newest held x)) (within, fits)

below_append : (xs : Calls) (x : Held) → reach x.change < 2 ^ 62 → StaysBelow xs → StaysBelow (xs ++ x ∷ [])
below_append [] x end below = (end, tt)
below_append (y ∷ xs) x end below = (below.0, below_append xs x end below.1)

pub below_more : (held later : Calls) (x : Held) → later ≡ held ++ x ∷ [] → reach x.change < 2 ^ 62 → StaysBelow held → StaysBelow later
below_more held later x longer end below = subst StaysBelow (sym longer) (below_append held x end below)

module _ {D : Type 0} where
  inner_push : (p : Mark D) (inner later : D) (past : List (Mark D)) → p.inner.value ≡ inner → (m : ℕ) → m ≤ length past → inner_at (past ++ p ∷ []) later m ≡ inner_at past inner m
  inner_push p inner later [] is zero le = is
  inner_push p inner later [] is (suc m) le = absurd (omega (arith, le))
  inner_push p inner later (q ∷ past) is zero le = refl
  inner_push p inner later (q ∷ past) is (suc m) le = inner_push p inner later past is m (omega (arith, le))

  held_push : (p : Mark D) (held after : Calls) (past : List (Mark D)) → p.held.value.items ≡ held → (m : ℕ) → m ≤ length past → held_at (past ++ p ∷ []) after m ≡ held_at past held m
  held_push p held after [] is zero le = is
  held_push p held after [] is (suc m) le = absurd (omega (arith, le))
  held_push p held after (q ∷ past) is zero le = refl
  held_push p held after (q ∷ past) is (suc m) le = held_push p held after past is m (omega (arith, le))

  pub size_marked : (past ps : List (Mark D)) (inner : D) (held : Calls) → IsMarked past inner held ps → length ps ≡ length past + 1
  size_marked past ps inner held marked = ap length marked.behind ∙ length-append past (marked.added ∷ [])

  module _ (images : D → Images) (moment : D → ℕ) where
    pub past_stays : (past ps : List (Mark D)) (inner later : D) (held after : Calls) → IsMarked past inner held ps → Keeps (length past) (images_at images moment past inner held) (images_at images moment ps later after)
    past_stays past ps inner later held after marked =
        let inner_same : (m : ℕ) → m ≤ length past → inner_at ps later m ≡ inner_at past inner m = λ m le. ap (λ l. inner_at l later m) marked.behind ∙ inner_push marked.added inner later past marked.inner_is m le in
        let held_same : (m : ℕ) → m ≤ length past → held_at ps after m ≡ held_at past held m = λ m le. ap (λ l. held_at l after m) marked.behind ∙ held_push marked.added held after past marked.held_is m le in
        record {
          kept = λ m f c le left. both images moment (inner_at past inner m) (inner_at ps later m) (held_at past held m) (held_at ps after m) f c (sym (inner_same m le)) (sym (held_same m le)) left;
          nothing_else = λ m f c le left. both images moment (inner_at ps later m) (inner_at past inner m) (held_at ps after m) (held_at past held m) f c (inner_same m le) (held_same m le) left;
        }

    module _ (seen : D → Reads) where
      -- nothing was done
      steps_none : (file : ℕ) (step : Step) → ((d : List ℕ) → step d d) → (past : List (Mark D)) (inner : D) (held : Calls) → StepsThrough seen moment images file step past inner held past inner held
      steps_none file step same past inner held = record {
        later = omega arith;
        most = omega arith;
        keeps = keeps_same (length past) (images_at images moment past inner held);
        seen = λ f other. refl;
        images = λ f c other left. left;
        read_step = same (content_over (seen inner) (reverse held) file);
        by_step = λ c left. (c, left, same c);
      }

      pub steps_still : (file : ℕ) (step : Step) → ((d : List ℕ) → step d d) → (past ps : List (Mark D)) (inner : D) (held after : Calls) → ps ≡ past → after ≡ held → StepsThrough seen moment images file step past inner held ps inner after
      steps_still file step same past ps inner held after moved kept =
          subst (λ (l : List (Mark D)). StepsThrough seen moment images file step past inner held l inner after) (sym moved)
          (subst (λ (l : Calls). StepsThrough seen moment images file step past inner held past inner l) (sym kept) (steps_none file step same past inner held))

      -- a moment at which no image was added
      pub steps_sync : (file : ℕ) (past ps : List (Mark D)) (inner later : D) (held after : Calls) → IsMarked past inner held ps
          → ((f : ℕ) → content_over (seen later) (reverse after) f ≡ content_over (seen inner) (reverse held) f) → ((f : ℕ) (c : List ℕ) → LeftNow images moment later after f c → LeftNow images moment inner held f c)
          → StepsThrough seen moment images file Same past inner held ps later after
      steps_sync file past ps inner later held after marked reads shrinks =
          let size = size_marked past ps inner held marked in
          let fewer : (f : ℕ) (c : List ℕ) → images_at images moment ps later after (length ps) f c → images_at images moment past inner held (length past) f c
          = λ f c left. now_of images moment past inner held f c (shrinks f c (of_now images moment ps later after f c left)) in
          record {
            later = omega (arith, size);
            most = omega (arith, size);
            keeps = past_stays past ps inner later held after marked;
            seen = λ f other. reads f;
            images = λ f c other left. fewer f c left;
            read_step = reads file;
            by_step = λ c left. (c, fewer file c left, refl);
          }

      -- a moment at which one call more is held back
      pub steps_more : (x : Held) (past ps : List (Mark D)) (inner : D) (held after : Calls) → IsMarked past inner held ps → after ≡ held ++ x ∷ [] → place x.change ≤ length (content_over (seen inner) (reverse held) x.file)
          → StepsThrough seen moment images x.file (ChangedInPart x.change) past inner held ps inner after
      steps_more x past ps inner held after marked longer within =
          let size = size_marked past ps inner held marked in
          let turned : reverse after ≡ x ∷ reverse held = ap reverse longer ∙ newest held x in
          let there : (f : ℕ) (c : List ℕ) → images_at images moment ps inner after (length ps) f c → LeftOver (images inner (moment inner)) (x ∷ reverse held) f c
          = λ f c left. subst (λ (l : Calls). LeftOver (images inner (moment inner)) l f c) turned (of_now images moment ps inner after f c left) in
          let here : content_over (seen inner) (reverse after) x.file ≡ changed x.change (content_over (seen inner) (reverse held) x.file)
          = ap (λ (l : Calls). content_over (seen inner) l x.file) turned ∙ rw (same_test x.file x.file refl) refl in
          record {
            later = omega (arith, size);
            most = omega (arith, size);
            keeps = past_stays past ps inner inner held after marked;
            seen = λ f other. ap (λ (l : Calls). content_over (seen inner) l f) turned ∙ rw (other_test x.file f (λ e. other (sym e))) refl;
            images = λ f c other left. now_of images moment past inner held f c (passed_over _ _ _ (other_test x.file f (λ e. other (sym e))) (there f c left));
            read_step = subst (λ (l : List ℕ). ChangedInPart x.change (content_over (seen inner) (reverse held) x.file) l) (sym here) (change_done x.change (content_over (seen inner) (reverse held) x.file) within);
            by_step = λ c left. let from = chosen _ _ _ (same_test x.file x.file refl) (there x.file c left) in (from.0, now_of images moment past inner held x.file from.0 from.1, from.2);
          }
