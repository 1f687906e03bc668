-- Batches whose clocks run on, and what is left of them beyond a clock.
use Rattle.std.proofs.Common.{◌≡◌, ℕ, zero, suc, ◌+◌, ◌-◌, ◌<◌, ◌≤◌, ◌∙◌, true, false, nat_lt, List, [], ◌∷◌, ◌++◌}
use Rattle.std.proofs.Common.{length, drop, refl, sym, ap, arith, length-append, length-drop, ⊎_elim}
use Rattle.std.proofs.lemmas.Bool.{cases_lt}
use Rattle.std.proofs.lemmas.Bool.Decides.{nat_tests}
use Rattle.room_nodes.specs.declared.nodes.Body.{Body}
use Rattle.room_model.specs.Account.{Batch, last_clock, ends, rest_of, beyond, all_bodies}
use Rattle.room_model.specs.Sound.{RunsOn}

same_batch : (b : Batch) (f : ℕ) (n : ℕ) → f ≡ b.first → n ≡ 0 → record { first = f; bodies = drop n b.bodies } ≡ b
same_batch b f n e z = rw (e, z) refl

-- a whole batch beyond the clock stays as it is
pub beyond_none : (c e : ℕ) (bs : List Batch) → RunsOn c bs → e ≤ c → beyond e bs ≡ bs
beyond_none c e [] h l = refl
beyond_none c e (b ∷ bs) h l =
    let t : nat_lt e (last_clock b) ≡ true = grind (arith, nat_tests) in
    let s : rest_of e b ≡ b = same_batch b _ _ (omega arith) (omega arith) in
    rw t (rw (s, beyond_none (c + length b.bodies) e bs h.more (omega arith)) refl)

-- and one up to it goes
pub beyond_one : (c e : ℕ) (b : Batch) (bs : List Batch) → RunsOn c (b ∷ bs) → c + length b.bodies ≤ e
    → beyond e (b ∷ bs) ≡ beyond e bs
beyond_one c e b bs h l =
    let t : nat_lt e (last_clock b) ≡ false = grind (arith, nat_tests) in
    rw t refl

-- where they end

ends_cut : (c e : ℕ) (b : Batch) (bs : List Batch) → RunsOn c (b ∷ bs) → c ≤ e → e < c + length b.bodies
    → ends e (beyond e (b ∷ bs)) ≡ ends c (b ∷ bs)
ends_cut c e b bs h l m =
    let t : nat_lt e (last_clock b) ≡ true = grind (arith, nat_tests) in
    let k : last_clock (rest_of e b) ≡ last_clock b =
    omega (arith, length-drop (e + 1 - b.first) b.bodies, h.first, h.some) in
    let rest : beyond e bs ≡ bs = beyond_none (c + length b.bodies) e bs h.more (omega (arith, m)) in
    rw t (ap (λ ds. ends (last_clock (rest_of e b)) ds) rest ∙ ap (λ n. ends n bs) k)

ends_at : (c n : ℕ) (bs : List Batch) → n ≡ c → ends n bs ≡ ends c bs
ends_at c n bs e = ap (λ m. ends m bs) e

-- what is left beyond a clock that was issued ends where all did
pub ends_kept : (c e : ℕ) (bs : List Batch) → RunsOn c bs → c ≤ e → e ≤ ends c bs → ends e (beyond e bs) ≡ ends c bs
ends_kept c e [] h l m = let same : e ≡ c = omega (arith, l, m) in same
ends_kept c e (b ∷ bs) h l m =
    let last : last_clock b ≡ c + length b.bodies = omega (arith, h.first, h.some) in
    let same : ends (last_clock b) bs ≡ ends (c + length b.bodies) bs =
    ends_at (c + length b.bodies) (last_clock b) bs last in
    ⊎_elim (λ n. ends_cut c e b bs h l n) (λ n.
    ap (λ ds. ends e ds) (beyond_one c e b bs h n)
    ∙ ends_kept (c + length b.bodies) e bs h.more n (omega (arith, m, same)) ∙ sym same)
    (cases_lt e (c + length b.bodies))

pub all_length : (c : ℕ) (bs : List Batch) → RunsOn c bs → ends c bs ≡ c + length (all_bodies bs)
all_length c [] h = omega arith
all_length c (b ∷ bs) h =
    let last : last_clock b ≡ c + length b.bodies = omega (arith, h.first, h.some) in
    let r = all_length (c + length b.bodies) bs h.more in
    let e = length-append b.bodies (all_bodies bs) in
    ends_at (c + length b.bodies) (last_clock b) bs last ∙ omega (arith, r, e)

-- what is left of batches beyond their first n operations

pub drop_front : (n : ℕ) (xs ys : List Body) → n ≤ length xs → drop n (xs ++ ys) ≡ drop n xs ++ ys
drop_front zero xs ys h = refl
drop_front (suc n) [] ys h = absurd (omega (arith, h))
drop_front (suc n) (x ∷ xs) ys h = drop_front n xs ys (omega (arith, h))

drop_past : (n : ℕ) (xs ys : List Body) → drop (length xs + n) (xs ++ ys) ≡ drop n ys
drop_past n [] ys = let e : length {A = Body} [] + n ≡ n = omega arith in ap (λ m. drop m ys) e
drop_past n (x ∷ xs) ys =
    let e : length (x ∷ xs) + n ≡ suc (length xs + n) = omega arith in
    ap (λ m. drop m (x ∷ (xs ++ ys))) e ∙ drop_past n xs ys

drop_none : (m : ℕ) → ◌≡◌ {A = List Body} (drop m []) []
drop_none zero = refl
drop_none (suc m) = refl

cut : (c n : ℕ) (b : Batch) (bs : List Batch) → RunsOn c (b ∷ bs) → n < length b.bodies
    → all_bodies (beyond (c + n) (b ∷ bs)) ≡ drop n (all_bodies (b ∷ bs))
cut c n b bs h l =
    let t : nat_lt (c + n) (last_clock b) ≡ true = grind (arith, nat_tests, h.first, h.some) in
    let m : c + n + 1 - b.first ≡ n = omega (arith, h.first) in
    rw t (ap (λ ds. (rest_of (c + n) b).bodies ++ all_bodies ds)
    (beyond_none (c + length b.bodies) (c + n) bs h.more (omega (arith, l)))
    ∙ ap (λ k. drop k b.bodies ++ all_bodies bs) m ∙ sym (drop_front n b.bodies (all_bodies bs) (omega (arith, l))))

past : (c n : ℕ) (b : Batch) (bs : List Batch) → RunsOn c (b ∷ bs) → length b.bodies ≤ n
    → all_bodies (beyond (c + length b.bodies + (n - length b.bodies)) bs) ≡ drop (n - length b.bodies) (all_bodies bs)
    → all_bodies (beyond (c + n) (b ∷ bs)) ≡ drop n (all_bodies (b ∷ bs))
past c n b bs h l k =
    let m : c + length b.bodies + (n - length b.bodies) ≡ c + n = omega (arith, l) in
    let o : length b.bodies + (n - length b.bodies) ≡ n = omega (arith, l) in
    ap all_bodies (beyond_one c (c + n) b bs h (omega (arith, l))) ∙ ap (λ e. all_bodies (beyond e bs)) (sym m) ∙ k
    ∙ sym (drop_past (n - length b.bodies) b.bodies (all_bodies bs))
    ∙ ap (λ e. drop e (b.bodies ++ all_bodies bs)) o

pub beyond_drops : (c n : ℕ) (bs : List Batch) → RunsOn c bs → all_bodies (beyond (c + n) bs) ≡ drop n (all_bodies bs)
beyond_drops c n [] h = sym (drop_none n)
beyond_drops c n (b ∷ bs) h =
    ⊎_elim (λ l. cut c n b bs h l) (λ l.
    past c n b bs h l (beyond_drops (c + length b.bodies) (n - length b.bodies) bs h.more))
    (cases_lt n (length b.bodies))
