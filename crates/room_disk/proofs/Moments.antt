-- How runs of calls on one file go on, and what they say of whole disks.
use Rattle.std.proofs.Common.{◌≡◌, ◌⊎◌, inl, inr, ⊎_elim, ℕ, zero, suc, ◌+◌, ◌≤◌, List, refl, subst, arith}
use Rattle.room_disk.specs.Model.{Images, OnFile, RunsBetween, WholeBetween, StaysBetween, StepsBetween, Keeps, Follows, WrittenInPart}

abbrev Reads : Type 0
Reads = ℕ → List ℕ

pub sooner_or_later : (m n : ℕ) → (m ≤ n) ⊎ (n ≤ m)
sooner_or_later zero n = inl (omega arith)
sooner_or_later (suc m) zero = inr (omega arith)
sooner_or_later (suc m) (suc n) = ⊎_elim (λ (le : m ≤ n). inl (omega (arith, le))) (λ (ge : n ≤ m). inr (omega (arith, ge))) (sooner_or_later m n)

pub up_to_or_past : (m n : ℕ) → (m ≤ n) ⊎ (n + 1 ≤ m)
up_to_or_past zero n = inl (omega arith)
up_to_or_past (suc m) zero = inr (omega arith)
up_to_or_past (suc m) (suc n) = ⊎_elim (λ (le : m ≤ n). inl (omega (arith, le))) (λ (ge : n + 1 ≤ m). inr (omega (arith, ge))) (up_to_or_past m n)

pub keeps_same : (before : ℕ) (was : Images) → Keeps before was was
keeps_same before was = record { kept = λ m f c le left. left; nothing_else = λ m f c le left. left }

pub keeps_then : (before mid : ℕ) (was so is : Images) → before ≤ mid → Keeps before was so → Keeps mid so is → Keeps before was is
keeps_then before mid was so is late first second = record {
  kept = λ m f c le left. second.kept m f c (omega (arith, le, late)) (first.kept m f c le left);
  nothing_else = λ m f c le left. first.nothing_else m f c le (second.nothing_else m f c (omega (arith, le, late)) left);
}

-- a run on one file, of whose images at the end Q may be said
pub narrow : (file before now : ℕ) (was is : Images) (P Q : List ℕ → Type 0) → RunsBetween before now was is (OnFile file P (was before)) → ((c : List ℕ) → P c → Q c)
    → RunsBetween before now was is (OnFile file Q (was before))
narrow file before now was is P Q run to = record {
  later = run.later;
  keeps = run.keeps;
  each = λ m f c from till left. let here = run.each m f c from till left in (λ same. to c (here.0 same), here.1);
}

-- a run on one file, and then one more
pub followed : (file before mid now : ℕ) (was so is : Images) (P Q R : List ℕ → Type 0) → RunsBetween before mid was so (OnFile file P (was before))
    → RunsBetween mid now so is (OnFile file Q (so mid)) → ((c : List ℕ) → P c → R c) → ((c : List ℕ) → Q c → R c) → RunsBetween before now was is (OnFile file R (was before))
followed file before mid now was so is P Q R first second to next = record {
  later = omega (arith, first.later, second.later);
  keeps = keeps_then before mid was so is first.later first.keeps second.keeps;
  each = λ m f c from till left. ⊎_elim
      (λ (early : m ≤ mid). let here = first.each m f c from early (second.keeps.nothing_else m f c early left) in (λ same. to c (here.0 same), here.1))
      (λ (late : mid ≤ m). let here = second.each m f c late till left in
      (λ same. next c (here.0 same), λ other. (first.each mid f c first.later (omega arith) (here.1 other)).1 other))
      (sooner_or_later m mid);
}

-- a call that changed nothing
pub rested : (file before mid : ℕ) (was so : Images) (old new : Reads) (R : List ℕ → Type 0) → StaysBetween before mid was so old new → ((c : List ℕ) → was before file c → R c)
    → RunsBetween before mid was so (OnFile file R (was before))
rested file before mid was so old new R stays to = record {
  later = omega (arith, stays.moment);
  keeps = stays.keeps;
  each = λ m f c from till left.
      let same : m ≡ before = omega (arith, from, till, stays.moment) in
      let here : was before f c = subst (λ (n : ℕ). was n f c) same (stays.keeps.nothing_else m f c (omega (arith, same)) left) in
      (λ is. to c (subst (λ (n : ℕ). was before n c) is here), λ other. here);
}

-- and then a run on one file
pub rested_then : (file before mid now : ℕ) (was so is : Images) (old new : Reads) (Q R : List ℕ → Type 0) → StaysBetween before mid was so old new
    → RunsBetween mid now so is (OnFile file Q (so mid)) → ((c : List ℕ) → was before file c → R c) → ((c : List ℕ) → Q c → R c) → RunsBetween before now was is (OnFile file R (was before))
rested_then file before mid now was so is old new Q R stays run first next =
    followed file before mid now was so is (was before file) Q R (rested file before mid was so old new (was before file) stays (λ c left. left)) run first next

-- the images after such a call are those before it
pub as_before : (before mid : ℕ) (was so : Images) (old new : Reads) → StaysBetween before mid was so old new → (f : ℕ) (c : List ℕ) → so mid f c → was before f c
as_before before mid was so old new stays f c left = stays.keeps.nothing_else before f c (omega arith) (subst (λ (n : ℕ). so n f c) stays.moment left)

pub write_undone : (at n : ℕ) (d : List ℕ) → WrittenInPart at n d d
write_undone at n d = record { before = refl; after = refl; no_shorter = omega arith; no_longer = omega arith }

-- one call on one file is a run on it
pub stepped : (file before now : ℕ) (was is : Images) (old new : Reads) (step : List ℕ → List ℕ → Type 0) → ((d : List ℕ) → step d d)
    → StepsBetween file step before now was is old new → RunsBetween before now was is (OnFile file (Follows step (was before file)) (was before))
stepped file before now was is old new step same steps = record {
  later = steps.later;
  keeps = steps.keeps;
  each = λ m f c from till left. ⊎_elim
      (λ (early : m ≤ before).
      let at : m ≡ before = omega (arith, early, from) in
      let here : was before f c = subst (λ (n : ℕ). was n f c) at (steps.keeps.nothing_else m f c early left) in
      (λ (is_file : f ≡ file). (c, subst (λ (n : ℕ). was before n c) is_file here, same c), λ other. here))
      (λ (late : before + 1 ≤ m).
      let at : m ≡ now = omega (arith, late, till, steps.most) in
      let here : is now f c = subst (λ (n : ℕ). is n f c) at left in
      (λ (is_file : f ≡ file). steps.by_step c (subst (λ (n : ℕ). is now n c) is_file here), λ other. steps.images f c other here))
      (up_to_or_past m before);
}

-- from each file to the whole
pub on_whole : (before now : ℕ) (was is : Images) (P : ℕ → List ℕ → Type 0) (R : Reads → Type 0) → RunsBetween before now was is P → ((image : Reads) → ((f : ℕ) → P f (image f)) → R image)
    → WholeBetween before now was is R
on_whole before now was is P R run to = record {
  later = run.later;
  keeps = run.keeps;
  each = λ m image from till left. to image (λ f. run.each m f (image f) from till (left f));
}

-- one run and then another, of whole disks
pub whole_then : (before mid now : ℕ) (was so is : Images) (R : Reads → Type 0) → WholeBetween before mid was so R → WholeBetween mid now so is R → WholeBetween before now was is R
whole_then before mid now was so is R first second = record {
  later = omega (arith, first.later, second.later);
  keeps = keeps_then before mid was so is first.later first.keeps second.keeps;
  each = λ m image from till left. ⊎_elim
      (λ (early : m ≤ mid). first.each m image from early (λ f. second.keeps.nothing_else m f (image f) early (left f)))
      (λ (late : mid ≤ m). second.each m image late till left)
      (sooner_or_later m mid);
}

-- a run on one of two files, where all that is asked is of these two
pub on_two : (file other before now : ℕ) (was is : Images) (Q : List ℕ → Type 0) (R : List ℕ → List ℕ → Type 0) → (other ≡ file → ⊥) → RunsBetween before now was is (OnFile file Q (was before))
    → ((a b : List ℕ) → Q a → was before other b → R a b) → WholeBetween before now was is (λ image. R (image file) (image other))
on_two file other before now was is Q R apart run to =
    on_whole before now was is (OnFile file Q (was before)) (λ image. R (image file) (image other)) run (λ image each. to (image file) (image other) ((each file).0 refl) ((each other).1 apart))
