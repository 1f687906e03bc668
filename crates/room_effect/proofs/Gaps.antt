-- The items beside a gap: with one item more at the end, and by their indices.
use Rattle.std.proofs.Common.{◌≡◌, ◌≤◌, ◌<◌, ◌+◌, ◌-◌, ◌==◌, ℕ, zero, suc, Bool, true, false, cond, nat_lt, List, [], ◌∷◌, ◌++◌, length, Option, Some, None, is_some, refl, sym, ap, ◌∙◌, arith}
use Rattle.std.proofs.lemmas.Bool.Decides.{nat_tests}
use Rattle.std.specs.Prelude.{slice_get}
use Rattle.room_ids.specs.Position.{after as after_position, between as between_positions}
use Rattle.room_ids.specs.declared.ids.NodeId.{NodeId}
use Rattle.room_model.specs.Edits.{id_at, key_at, inserted_key, moved_key}
use Rattle.room_effect.specs.Beside.{Kids, last_by, left_of, right_of, key_between}

abbrev pub Kid : Type 0
Kid = List ℕ × NodeId

-- tests at zero

zero_suc : (i : ℕ) → (0 == suc i) ≡ false
zero_suc i = grind (arith, nat_tests)

suc_zero : (i : ℕ) → (suc i == 0) ≡ false
suc_zero i = grind (arith, nat_tests)

below_suc : (i : ℕ) → nat_lt 0 (suc i) ≡ true
below_suc i = grind (arith, nat_tests)

not_below : (i : ℕ) → nat_lt i 0 ≡ false
not_below i = grind (arith, nat_tests)

suc_suc : (i j : ℕ) → (suc i == suc j) ≡ (i == j)
suc_suc i j = grind (arith, nat_tests)

lt_suc_suc : (i j : ℕ) → nat_lt (suc i) (suc j) ≡ nat_lt i j
lt_suc_suc i j = grind (arith, nat_tests)

-- one item more

pub item_more : (done : Kids) (e : Kid) (i : ℕ) → id_at (done ++ e ∷ []) i ≡ cond (length done == i) (Some e.1) (id_at done i)
item_more [] e zero = refl
item_more [] e (suc i) = rw (zero_suc i) refl
item_more (d ∷ done) e zero = rw (suc_zero (length done)) refl
item_more (d ∷ done) e (suc i) = rw (suc_suc (length done) i) (item_more done e i)

last_by_more : (b : Bool) (k j : List ℕ) (o : Option (List ℕ)) → Some (last_by k (cond b (Some j) o)) ≡ cond b (Some j) (Some (last_by k o))
last_by_more true k j o = refl
last_by_more false k j o = refl

pub left_more : (done : Kids) (e : Kid) (g : ℕ) → left_of g (done ++ e ∷ []) ≡ cond (nat_lt (length done) g) (Some e.0) (left_of g done)
left_more [] e zero = refl
left_more [] e (suc g) = rw (below_suc g) refl
left_more (d ∷ done) e zero = rw (not_below (suc (length done))) refl
left_more (d ∷ done) e (suc g) =
    rw (lt_suc_suc (length done) g) (ap (λ o. Some (last_by d.0 o)) (left_more done e g) ∙ last_by_more (nat_lt (length done) g) d.0 e.0 (left_of g done))

pub right_more : (done : Kids) (e : Kid) (g : ℕ) → right_of g (done ++ e ∷ []) ≡ cond (length done == g) (Some e.0) (right_of g done)
right_more [] e zero = refl
right_more [] e (suc g) = rw (zero_suc g) refl
right_more (d ∷ done) e zero = rw (suc_zero (length done)) refl
right_more (d ∷ done) e (suc g) = rw (suc_suc (length done) g) (right_more done e g)

-- by index

pub inside : (cs : Kids) (n : ℕ) → nat_lt n (length cs) ≡ is_some (slice_get cs n)
inside [] zero = refl
inside [] (suc n) = not_below (suc n)
inside (e ∷ es) zero = below_suc (length es)
inside (e ∷ es) (suc n) = lt_suc_suc n (length es) ∙ inside es n

pub left_at : (e : Kid) (es : Kids) (m : ℕ) → m ≤ length es → last_by e.0 (left_of m es) ≡ key_at (e ∷ es) m
left_at e [] zero h = refl
left_at e [] (suc m) h = absurd (omega (arith, h))
left_at e (f ∷ fs) zero h = refl
left_at e (f ∷ fs) (suc m) h = left_at f fs m (let l : suc m ≤ suc (length fs) = h in omega (arith, l))

pub right_at : (es : Kids) (m : ℕ) → m < length es → right_of m es ≡ Some (key_at es m)
right_at [] m h = absurd (omega (arith, h))
right_at (f ∷ fs) zero h = refl
right_at (f ∷ fs) (suc m) h = right_at fs m (let l : suc m < suc (length fs) = h in omega (arith, l))

pub right_end : (es : Kids) (m : ℕ) → length es ≤ m → right_of m es ≡ None
right_end [] m h = refl
right_end (f ∷ fs) zero h = absurd (let l : suc (length fs) ≤ zero = h in omega (arith, l))
right_end (f ∷ fs) (suc m) h = right_end fs m (let l : suc (length fs) ≤ suc m = h in omega (arith, l))

pub left_end : (es : Kids) (g : ℕ) → length es ≤ g → left_of g es ≡ left_of (length es) es
left_end [] g h = refl
left_end (f ∷ fs) zero h = absurd (let l : suc (length fs) ≤ zero = h in omega (arith, l))
left_end (f ∷ fs) (suc g) h = ap (λ o. Some (last_by f.0 o)) (left_end fs g (let l : suc (length fs) ≤ suc g = h in omega (arith, l)))

-- the position between the two beside a gap is that of a new item there

behind_by : (e : Kid) (es : Kids) (m : ℕ) (b : Bool) → (m == length es) ≡ b → m ≤ length es
    → key_between (Some (key_at (e ∷ es) m)) (right_of m es) ≡ cond b (key_between (Some (key_at (e ∷ es) m)) None) (key_between (Some (key_at (e ∷ es) m)) (Some (key_at es m)))
behind_by e es m true t h = ap (key_between (Some (key_at (e ∷ es) m))) (right_end es m (grind (arith, nat_tests, t)))
behind_by e es m false t h = ap (key_between (Some (key_at (e ∷ es) m))) (right_at es m (grind (arith, nat_tests, t, h)))

pub insert_key : (cs : Kids) (n : ℕ) → n ≤ length cs → key_between (left_of n cs) (right_of n cs) ≡ inserted_key cs n
insert_key [] zero h = refl
insert_key [] (suc n) h = absurd (omega (arith, h))
insert_key (e ∷ es) zero h = rw (suc_zero (length es)) refl
insert_key (e ∷ es) (suc m) h =
    let l : suc m ≤ suc (length es) = h in
    let within : m ≤ length es = omega (arith, l) in
    let made : key_between (Some (last_by e.0 (left_of m es))) (right_of m es)
    ≡ cond (m == length es) (after_position (key_at (e ∷ es) m)) (between_positions (key_at (e ∷ es) m) (Some (key_at es m))) =
    ap (λ k. key_between (Some k) (right_of m es)) (left_at e es m within) ∙ behind_by e es m (m == length es) refl within in
    let back : suc m - 1 ≡ m = omega arith in
    made ∙ sym (rw (suc_zero (length es), suc_zero m, suc_suc m (length es), back) refl)

pub push_key : (cs : Kids) (g : ℕ) → length cs ≤ g → key_between (left_of g cs) (right_of g cs) ≡ inserted_key cs (length cs)
push_key cs g h =
    let left = left_end cs g h in
    let right : right_of g cs ≡ right_of (length cs) cs = right_end cs g h ∙ sym (right_end cs (length cs) (omega arith)) in
    (λ i. key_between (left i) (right i)) ∙ insert_key cs (length cs) (omega arith)

pub move_right : (cs : Kids) (f t : ℕ) → f < t → t < length cs → moved_key cs f t ≡ inserted_key cs (t + 1)
move_right cs f t h l =
    let a : nat_lt f t ≡ true = grind (arith, nat_tests, h) in
    let b : (length cs == 0) ≡ false = grind (arith, nat_tests, l) in
    let d : (t + 1 == 0) ≡ false = grind (arith, nat_tests) in
    let s : t + 1 - 1 ≡ t = omega arith in
    rw (a, b, d, s) refl

pub move_left : (cs : Kids) (f t : ℕ) → t < f → t < length cs → moved_key cs f t ≡ inserted_key cs t
move_left cs f t h l =
    let a : nat_lt f t ≡ false = grind (arith, nat_tests, h) in
    let b : (length cs == 0) ≡ false = grind (arith, nat_tests, l) in
    let d : (t == length cs) ≡ false = grind (arith, nat_tests, l) in
    rw (a, b, d) refl
