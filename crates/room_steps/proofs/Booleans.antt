-- What tests say.
use Rattle.std.proofs.Common.{◌≡◌, ◌⊎◌, inl, inr, Bool, true, false, ◌&&◌, ◌||◌, not, refl, sym}

pub by_no : (b : Bool) → (b ≡ true → ⊥) → b ≡ false
by_no true h = absurd (h refl)
by_no false h = refl

pub or_parts : (a b : Bool) → (a || b) ≡ true → (a ≡ true) ⊎ (b ≡ true)
or_parts true b e = inl refl
or_parts false b e = inr e

pub or_left : (a b : Bool) → a ≡ true → (a || b) ≡ true
or_left true b e = refl
or_left false b e = cc

pub or_right : (a b : Bool) → b ≡ true → (a || b) ≡ true
or_right true b e = refl
or_right false b e = e

pub and_both : (a b : Bool) → a ≡ true → b ≡ true → (a && b) ≡ true
and_both a b p q = rw (p, q) refl

pub and_false : (a b : Bool) → a ≡ false → (a && b) ≡ false
and_false true b e = cc
and_false false b e = refl

pub both_ways : (a b : Bool) → (a ≡ true → b ≡ true) → (b ≡ true → a ≡ true) → a ≡ b
both_ways true b to from = sym (to refl)
both_ways false true to from = from refl
both_ways false false to from = refl

-- what holds of a list
pub where_so : (b c : Bool) → (not b || c) ≡ true → b ≡ true → c ≡ true
where_so true c e h = e
where_so false c e h = cc
