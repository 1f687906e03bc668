-- What images of a disk have in common, over calls in a row.
use Rattle.std.proofs.Common.{◌≡◌, ◌≤◌, ℕ, List, subst, sym, ◌∙◌, arith}
use Rattle.room_disk.specs.Model.{Reads, Images, Only, Within, WithinWhole}
use Rattle.room_disk.proofs.Moments.{keeps_same, on_whole, whole_then}
use Rattle.room_host.specs.Rests.{Each}

module _ {D : Type 0} (moment : D → ℕ) (images : D → Images) where
  pub still : (R : Reads → Type 0) (d : D) → Each (images d (moment d)) R → WithinWhole moment images d d R
  still R d have = record {
    later = omega arith;
    keeps = keeps_same (moment d) (images d);
    each = λ m image from till left.
        let at : m ≡ moment d = omega (arith, from, till) in
        have image (λ f. subst (λ (n : ℕ). images d n f (image f)) at (left f));
  }

  pub unmoved : (R : Reads → Type 0) (old new : D) → new ≡ old → Each (images old (moment old)) R
      → WithinWhole moment images old new R
  unmoved R old new same have = subst (λ (d : D). WithinWhole moment images old d R) (sym same) (still R old have)

  pub weaker : (P Q : Reads → Type 0) (old new : D) → ((image : Reads) → P image → Q image)
      → WithinWhole moment images old new P → WithinWhole moment images old new Q
  weaker P Q old new to run = record {
    later = run.later;
    keeps = run.keeps;
    each = λ m image from till left. to image (run.each m image from till left);
  }

  -- at the end of a run
  pub at_end : (R : Reads → Type 0) (old new : D) → WithinWhole moment images old new R
      → Each (images new (moment new)) R
  at_end R old new run image left = run.each (moment new) image run.later (omega arith) left

  -- a call within which each image is one from before it
  pub within : (R : Reads → Type 0) (old new : D) → Each (images old (moment old)) R
      → Within moment images old new (images old (moment old)) → WithinWhole moment images old new R
  within R old new have run =
      on_whole (moment old) (moment new) (images old) (images new) (images old (moment old)) R run have

  pub then_within : (R : Reads → Type 0) (old mid new : D) → WithinWhole moment images old mid R
      → Within moment images mid new (images mid (moment mid)) → WithinWhole moment images old new R
  then_within R old mid new first second =
      whole_then (moment old) (moment mid) (moment new) (images old) (images mid) (images new) R first
      (within R mid new (at_end R old mid first) second)

-- two files that are beyond any stop, as a stop left them
pub settled : (Q : List ℕ → List ℕ → Type 0) (left seen : Reads) (now : ℕ → List ℕ → Type 0) (a b : ℕ)
    → ((f : ℕ) → seen f ≡ left f) → Only (seen a) (now a) → Only (seen b) (now b) → Q (left a) (left b)
    → Each now (λ image. Q (image a) (image b))
settled Q left seen now a b same first second q image each =
    let x : image a ≡ left a = first (image a) (each a) ∙ same a in
    let y : image b ≡ left b = second (image b) (each b) ∙ same b in
    subst (λ (c : List ℕ). Q c (image b)) (sym x) (subst (λ (c : List ℕ). Q (left a) c) (sym y) q)
