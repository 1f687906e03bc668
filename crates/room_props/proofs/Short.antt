-- Positions of which none is too long.
use Rattle.std.proofs.Common.{◌≡◌, ◌≤◌, ◌<◌, ℕ, Bool, true, false, cond, nat_lt, List, [], ◌∷◌, ◌++◌, length, Option, Some, None, refl, sym, ◌∙◌, subst, arith}
use Rattle.std.proofs.lemmas.Bool.Decides.{nat_tests}
use Rattle.room_ids.specs.Position.{after as after_position}
use Rattle.room_model.specs.Edits.{too_long}
use Rattle.room_model.specs.Init.{Init, Inits, init, positions_in, item_positions}
use Rattle.room_props.specs.Weighing.{following}

skip_by : (b : Bool) (n : ℕ) (o r : Option ℕ) → (o ≡ None → r ≡ None) → cond b (Some n) o ≡ None → cond b (Some n) r ≡ None
skip_by true n o r f h = cc
skip_by false n o r f h = f h

long_of : (b : Bool) (n : ℕ) (o : Option ℕ) → cond b (Some n) o ≡ None → (b ≡ false) × (o ≡ None)
long_of true n o h = cc
long_of false n o h = (refl, h)

-- what stands behind short ones
pub skip : (xs ys : List (List ℕ)) → too_long xs ≡ None → too_long (xs ++ ys) ≡ too_long ys
skip [] ys h = refl
skip (x ∷ xs) ys h = let p = long_of (nat_lt 4096 (length x)) (length x) (too_long xs) h in rw p.0 (skip xs ys p.1)

stays_by : (b : Bool) (m n : ℕ) (o r : Option ℕ) → (o ≡ Some n → r ≡ Some n) → cond b (Some m) o ≡ Some n → cond b (Some m) r ≡ Some n
stays_by true m n o r f h = h
stays_by false m n o r f h = f h

pub stays : (xs ys : List (List ℕ)) (n : ℕ) → too_long xs ≡ Some n → too_long (xs ++ ys) ≡ Some n
stays [] ys n h = cc
stays (x ∷ xs) ys n h = stays_by (nat_lt 4096 (length x)) (length x) n (too_long xs) (too_long (xs ++ ys)) (stays xs ys n) h

pub front : (xs ys : List (List ℕ)) → too_long (xs ++ ys) ≡ None → too_long xs ≡ None
front [] ys h = refl
front (x ∷ xs) ys h = skip_by (nat_lt 4096 (length x)) (length x) (too_long (xs ++ ys)) (too_long xs) (front xs ys) h

pub back : (xs ys : List (List ℕ)) → too_long (xs ++ ys) ≡ None → too_long ys ≡ None
back [] ys h = h
back (x ∷ xs) ys h = back xs ys (long_of (nat_lt 4096 (length x)) (length x) (too_long (xs ++ ys)) h).1

pub passes : (p : List ℕ) (ps : List (List ℕ)) → length p ≤ 4096 → too_long (p ∷ ps) ≡ too_long ps
passes p ps h = let e : nat_lt 4096 (length p) ≡ false = grind (arith, nat_tests, h) in rw e refl

pub stops : (p : List ℕ) (ps : List (List ℕ)) → 4096 < length p → too_long (p ∷ ps) ≡ Some (length p)
stops p ps h = let e : nat_lt 4096 (length p) ≡ true = grind (arith, nat_tests, h) in rw e refl

pub first_short : (p : List ℕ) (ps : List (List ℕ)) → too_long (p ∷ ps) ≡ None → (length p ≤ 4096) × (too_long ps ≡ None)
first_short p ps h = let r = long_of (nat_lt 4096 (length p)) (length p) (too_long ps) h in (let e : nat_lt 4096 (length p) ≡ false = r.0 in grind (arith, nat_tests, e), r.1)

-- the items of a new list, of which one has been placed at q

pub items_pass : (o : Option (List ℕ)) (q : List ℕ) (i : Init) (is : Inits) → q ≡ following o → length q ≤ 4096 → too_long (positions_in i) ≡ None
    → too_long (item_positions (following (Some q)) is) ≡ too_long (item_positions (following o) (init i is))
items_pass o q i is e l h =
    subst (λ (p : List ℕ). too_long (item_positions (following (Some q)) is) ≡ too_long (item_positions p (init i is))) e
    (sym (passes q (positions_in i ++ item_positions (after_position q) is) l ∙ skip (positions_in i) (item_positions (after_position q) is) h))

pub items_stop : (o : Option (List ℕ)) (q : List ℕ) (i : Init) (is : Inits) (n : ℕ) → q ≡ following o → length q ≤ 4096 → too_long (positions_in i) ≡ Some n
    → Some n ≡ too_long (item_positions (following o) (init i is))
items_stop o q i is n e l h =
    subst (λ (p : List ℕ). Some n ≡ too_long (item_positions p (init i is))) e
    (sym (passes q (positions_in i ++ item_positions (after_position q) is) l ∙ stays (positions_in i) (item_positions (after_position q) is) n h))

-- and those left are short where all were
pub items_short : (o : Option (List ℕ)) (q : List ℕ) (i : Init) (is : Inits) → q ≡ following o → too_long (item_positions (following o) (init i is)) ≡ None
    → (too_long (positions_in i) ≡ None) × (too_long (item_positions (following (Some q)) is) ≡ None)
items_short o q i is e h =
    let here : too_long (item_positions q (init i is)) ≡ None = subst (λ (p : List ℕ). too_long (item_positions p (init i is)) ≡ None) (sym e) h in
    let r = (first_short q (positions_in i ++ item_positions (after_position q) is) here).1 in
    (front (positions_in i) (item_positions (after_position q) is) r, back (positions_in i) (item_positions (after_position q) is) r)
