-- What images stand for while entries come.
use Rattle.std.proofs.Common.{◌≡◌, ◌≤◌, ◌<◌, ℕ, zero, suc, ◌+◌, List, [], ◌∷◌, ◌++◌, length, take, refl, sym, ap, ◌∙◌}
use Rattle.std.proofs.Common.{subst, arith, length-append, ⊎_elim}
use Rattle.std.proofs.Math.Nat.{le_trans, le_of_lt}
use Rattle.std.proofs.lemmas.Bool.{cases_lt}
use Rattle.room_disk.specs.Model.{Reads, Images, Keeps}
use Rattle.room_log.specs.Log.{State, Entry, after, state_after}
use Rattle.room_moves.specs.Moments.{OfFirst, OneComes, NoneComes, ComeThen, HoldsWithin}

pub none_comes : NoneComes
none_comes P s es image h = record { count = 0; within = omega arith; stands = h }

pub one_comes : OneComes
one_comes P s e image h = ⊎_elim
    (λ old. none_comes P s (e ∷ []) image old)
    (λ new. record { count = 1; within = omega arith; stands = new }) h

-- first parts of a list of two pieces

front_take : (n : ℕ) (es fs : List Entry) → n ≤ length es → take n (es ++ fs) ≡ take n es
front_take zero es fs h = refl
front_take (suc n) [] fs h = absurd (omega (arith, h))
front_take (suc n) (e ∷ es) fs h = ap (λ l. e ∷ l) (front_take n es fs (omega (arith, h)))

back_after : (s : State) (n : ℕ) (es fs : List Entry)
    → state_after s (take (length es + n) (es ++ fs)) ≡ state_after (state_after s es) (take n fs)
back_after s n [] fs = ap (λ m. state_after s (take m fs)) (none_plus n)
  where
    none_plus : (m : ℕ) → length {A = Entry} [] + m ≡ m
    none_plus m = omega arith
back_after s n (e ∷ es) fs =
    ap (λ m. state_after s (take m (e ∷ (es ++ fs)))) (shifted n es) ∙ back_after (after s e) n es fs
  where
    shifted : (m : ℕ) (l : List Entry) → length (e ∷ l) + m ≡ suc (length l + m)
    shifted m l = omega arith

front : (P : State → Reads → Type 0) (s : State) (es fs : List Entry) (image : Reads)
    → OfFirst P s es image → OfFirst P s (es ++ fs) image
front P s es fs image h = record {
  count = h.count;
  within = omega (arith, h.within, length-append es fs);
  stands = subst (λ l. P (state_after s l) image) (sym (front_take h.count es fs h.within)) h.stands;
}

back : (P : State → Reads → Type 0) (s : State) (es fs : List Entry) (image : Reads)
    → OfFirst P (state_after s es) fs image → OfFirst P s (es ++ fs) image
back P s es fs image h = record {
  count = length es + h.count;
  within = omega (arith, h.within, length-append es fs);
  stands = subst (λ t. P t image) (sym (back_after s h.count es fs)) h.stands;
}

keeps_then : (before mid : ℕ) (was so is : Images) → before ≤ mid → Keeps before was so → Keeps mid so is
    → Keeps before was is
keeps_then before mid was so is late first second = record {
  kept = λ m f c le left. second.kept m f c (le_trans le late) (first.kept m f c le left);
  nothing_else = λ m f c le left. first.nothing_else m f c le (second.nothing_else m f c (le_trans le late) left);
}

pub come_then : ComeThen
come_then P s es fs before mid now was so is first second = record {
  later = le_trans first.later second.later;
  keeps = keeps_then before mid was so is first.later first.keeps second.keeps;
  each = λ m image from till left. ⊎_elim
      (λ (early : m < mid). front P s es fs image
      (first.each m image from (le_of_lt early)
      (λ f. second.keeps.nothing_else m f (image f) (le_of_lt early) (left f))))
      (λ (late : mid ≤ m). back P s es fs image (second.each m image late till left))
      (cases_lt m mid);
}

pub holds_within : HoldsWithin
holds_within R before now was is inner_before inner_now inner_was inner_is mirrors run = record {
  later = mirrors.inner_later;
  keeps = mirrors.inner_keeps;
  each = λ m image from till left. let at = mirrors.each m image from till left in run.each at.0 image at.1 at.2 at.3;
}
