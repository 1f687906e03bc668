-- Batches whose clocks run on.
use Rattle.std.proofs.Common.{◌≡◌, ℕ, ◌+◌, ◌-◌, ◌<◌, ◌≤◌, ◌⊎◌, inl, inr, true, false, cond, max, nat_lt, List, [], ◌∷◌, ◌++◌, length, drop, refl, sym, ap, ◌∙◌, arith, length-drop, ⊎_elim}
use Rattle.std.proofs.Math.Nat.{max-le}
use Rattle.std.proofs.lemmas.Bool.{cases_lt}
use Rattle.std.proofs.lemmas.Bool.Decides.{nat_tests}
use Rattle.room_model.specs.Account.{Batch, last_clock, ends, rest_of, beyond}
use Rattle.room_model.specs.Sound.{RunsOn}
use Rattle.room_laws.specs.Ledger.{upto, In}

pub upto-append : (c : ℕ) (bs cs : List Batch) → upto c (bs ++ cs) ≡ upto (upto c bs) cs
upto-append c [] cs = refl
upto-append c (b ∷ bs) cs = upto-append (c + length b.bodies) bs cs

pub upto_above : (c : ℕ) (bs : List Batch) → c ≤ upto c bs
upto_above c [] = omega arith
upto_above c (b ∷ bs) = omega (arith, upto_above (c + length b.bodies) bs)

pub ends_upto : (c : ℕ) (bs : List Batch) → RunsOn c bs → ends c bs ≡ upto c bs
ends_upto c [] h = refl
ends_upto c (b ∷ bs) h =
    let e : last_clock b ≡ c + length b.bodies = omega arith in
    rw e (ends_upto (c + length b.bodies) bs h.more)

pub Runs-append : (c : ℕ) (bs cs : List Batch) → RunsOn c bs → RunsOn (upto c bs) cs → RunsOn c (bs ++ cs)
Runs-append c [] cs h k = k
Runs-append c (b ∷ bs) cs h k = record { first = h.first; some = h.some; more = Runs-append (c + length b.bodies) bs cs h.more k }

pub Runs-front : (c : ℕ) (bs cs : List Batch) → RunsOn c (bs ++ cs) → RunsOn c bs
Runs-front c [] cs h = record {}
Runs-front c (b ∷ bs) cs h = record { first = h.first; some = h.some; more = Runs-front (c + length b.bodies) bs cs h.more }

pub Runs-back : (c : ℕ) (bs cs : List Batch) → RunsOn c (bs ++ cs) → RunsOn (upto c bs) cs
Runs-back c [] cs h = h
Runs-back c (b ∷ bs) cs h = Runs-back (c + length b.bodies) bs cs h.more

pub In-append_left : (b : Batch) (bs cs : List Batch) → In b bs → In b (bs ++ cs)
In-append_left b [] cs i = absurd i
In-append_left b (x ∷ xs) cs (inl e) = inl e
In-append_left b (x ∷ xs) cs (inr i) = inr (In-append_left b xs cs i)

pub In-append_right : (b : Batch) (bs cs : List Batch) → In b cs → In b (bs ++ cs)
In-append_right b [] cs i = i
In-append_right b (x ∷ xs) cs i = inr (In-append_right b xs cs i)

pub first_above : (c : ℕ) (bs : List Batch) (b : Batch) → RunsOn c bs → In b bs → c + 1 ≤ b.first
first_above c [] b h i = absurd i
first_above c (x ∷ xs) b h (inl e) = let f : b.first ≡ x.first = ap (λ (y : Batch). y.first) e in omega arith
first_above c (x ∷ xs) b h (inr i) = omega (arith, first_above (c + length x.bodies) xs b h.more i)

last_same : (b x : Batch) (c : ℕ) → b ≡ x → x.first ≡ c + 1 → 0 < length x.bodies → last_clock b ≡ c + length x.bodies
last_same b x c e f s = ap last_clock e ∙ omega arith

-- a batch that begins by the next clock was taken already, or is the next one
pub old_or_next : (c : ℕ) (pre rest : List Batch) (b : Batch) → RunsOn c (pre ++ rest) → In b (pre ++ rest) → b.first ≤ upto c pre + 1
    → (last_clock b ≤ upto c pre) ⊎ ((more : List Batch) × (rest ≡ b ∷ more))
old_or_next c [] [] b h i l = absurd i
old_or_next c [] (x ∷ xs) b h (inl e) l = inr (xs, ap (λ (y : Batch). y ∷ xs) (sym e))
old_or_next c [] (x ∷ xs) b h (inr i) l = absurd (omega (arith, first_above (c + length x.bodies) xs b h.more i))
old_or_next c (x ∷ pre) rest b h (inl e) l = inl (omega (arith, last_same b x c e h.first h.some, upto_above (c + length x.bodies) pre))
old_or_next c (x ∷ pre) rest b h (inr i) l = old_or_next (c + length x.bodies) pre rest b h.more i l

pub beyond-append : (e : ℕ) (bs cs : List Batch) → beyond e (bs ++ cs) ≡ beyond e bs ++ beyond e cs
beyond-append e [] cs = refl
beyond-append e (b ∷ bs) cs = elim (nat_lt e (last_clock b)) as (λ t. cond t (rest_of e b ∷ beyond e (bs ++ cs)) (beyond e (bs ++ cs)) ≡ cond t (rest_of e b ∷ beyond e bs) (beyond e bs) ++ beyond e cs) [
  | true ↦ ap (λ ds. rest_of e b ∷ ds) (beyond-append e bs cs)
  | false ↦ beyond-append e bs cs
]

same_batch : (b : Batch) (f : ℕ) (n : ℕ) → f ≡ b.first → n ≡ 0 → record { first = f; bodies = drop n b.bodies } ≡ b
same_batch b f n e z = rw (e, z) refl

-- a whole batch beyond the clock stays as it is
pub beyond_none : (c e : ℕ) (bs : List Batch) → RunsOn c bs → e ≤ c → beyond e bs ≡ bs
beyond_none c e [] h l = refl
beyond_none c e (b ∷ bs) h l =
    let t : nat_lt e (last_clock b) ≡ true = grind (arith, nat_tests) in
    let s : rest_of e b ≡ b = same_batch b _ _ (omega arith) (omega arith) in
    rw t (rw (s, beyond_none (c + length b.bodies) e bs h.more (omega arith)) refl)

-- and one up to it goes
pub beyond_one : (c e : ℕ) (b : Batch) (bs : List Batch) → RunsOn c (b ∷ bs) → c + length b.bodies ≤ e → beyond e (b ∷ bs) ≡ beyond e bs
beyond_one c e b bs h l =
    let t : nat_lt e (last_clock b) ≡ false = grind (arith, nat_tests) in
    rw t refl

cut_length : (c e n k : ℕ) → k ≡ n - (e - c) → c ≤ e → e < c + n → e + k ≡ c + n
cut_length c e n k is l m = omega arith

pub beyond_upto : (c e : ℕ) (bs : List Batch) → RunsOn c bs → c ≤ e → upto e (beyond e bs) ≤ max e (upto c bs)
beyond_upto c e [] h l = omega arith
beyond_upto c e (b ∷ bs) h l = ⊎_elim cut (λ m. past m (beyond_upto (c + length b.bodies) e bs h.more m)) (cases_lt e (c + length b.bodies))
  where
    past : c + length b.bodies ≤ e → upto e (beyond e bs) ≤ max e (upto c (b ∷ bs)) → upto e (beyond e (b ∷ bs)) ≤ max e (upto c (b ∷ bs))
    past m k = rw (beyond_one c e b bs h m) k

    cut : e < c + length b.bodies → upto e (beyond e (b ∷ bs)) ≤ max e (upto c (b ∷ bs))
    cut m =
        let t : nat_lt e (last_clock b) ≡ true = grind (arith, nat_tests) in
        let k : e + length (drop (e + 1 - b.first) b.bodies) ≡ c + length b.bodies = omega (arith, length-drop (e + 1 - b.first) b.bodies) in
        let p : upto (e + length (drop (e + 1 - b.first) b.bodies)) (beyond e bs) ≤ max e (upto c (b ∷ bs)) =
        rw (k, beyond_none (c + length b.bodies) e bs h.more (omega arith)) (omega arith) in
        rw t p

-- what is left beyond a clock runs on from it
pub runs_beyond : (c e : ℕ) (bs : List Batch) → RunsOn c bs → c ≤ e → RunsOn e (beyond e bs)
runs_beyond c e [] h l = h
runs_beyond c e (b ∷ bs) h l = ⊎_elim cut (λ m. past m (runs_beyond (c + length b.bodies) e bs h.more m)) (cases_lt e (c + length b.bodies))
  where
    past : c + length b.bodies ≤ e → RunsOn e (beyond e bs) → RunsOn e (beyond e (b ∷ bs))
    past m k =
        let t : nat_lt e (last_clock b) ≡ false = grind (arith, nat_tests) in
        rw t k

    cut : e < c + length b.bodies → RunsOn e (beyond e (b ∷ bs))
    cut m =
        let t : nat_lt e (last_clock b) ≡ true = grind (arith, nat_tests) in
        let k : e + length (drop (e + 1 - b.first) b.bodies) ≡ c + length b.bodies = omega (arith, length-drop (e + 1 - b.first) b.bodies) in
        let more : RunsOn (e + length (drop (e + 1 - b.first) b.bodies)) (beyond e bs) =
        rw (k, beyond_none (c + length b.bodies) e bs h.more (omega arith)) h.more in
        let whole : RunsOn e (rest_of e b ∷ beyond e bs) = record { first = omega arith; some = omega arith; more = more } in
        rw t whole

pub ends_later : (c : ℕ) (bs : List Batch) → RunsOn c bs → c ≤ ends c bs
ends_later c bs h = omega (arith, upto_above c bs, ends_upto c bs h)

-- what is left beyond a clock that was issued ends no later than the whole
pub ends_beyond : (c e : ℕ) (bs : List Batch) → RunsOn c bs → c ≤ e → e ≤ ends c bs → ends e (beyond e bs) ≤ ends c bs
ends_beyond c e bs h l m =
    let within : e ≤ upto c bs = omega (arith, m, ends_upto c bs h) in
    let most : max e (upto c bs) ≤ upto c bs = max-le within (omega arith) in
    omega (arith, ends_upto e (beyond e bs) (runs_beyond c e bs h l), beyond_upto c e bs h l, most, ends_upto c bs h)

-- and it ends as the whole does
upto_stays : (c e : ℕ) (bs : List Batch) → RunsOn c bs → c ≤ e → e ≤ upto c bs → upto e (beyond e bs) ≡ upto c bs
upto_stays c e [] h l m = omega (arith, l, m)
upto_stays c e (b ∷ bs) h l m =
    ⊎_elim cut (λ n. past n (upto_stays (c + length b.bodies) e bs h.more n m)) (cases_lt e (c + length b.bodies))
  where
    past : c + length b.bodies ≤ e → upto e (beyond e bs) ≡ upto c (b ∷ bs)
        → upto e (beyond e (b ∷ bs)) ≡ upto c (b ∷ bs)
    past n k = rw (beyond_one c e b bs h n) k

    cut : e < c + length b.bodies → upto e (beyond e (b ∷ bs)) ≡ upto c (b ∷ bs)
    cut n =
        let t : nat_lt e (last_clock b) ≡ true = grind (arith, nat_tests) in
        let k : e + length (drop (e + 1 - b.first) b.bodies) ≡ c + length b.bodies =
        omega (arith, length-drop (e + 1 - b.first) b.bodies) in
        let p : upto (e + length (drop (e + 1 - b.first) b.bodies)) (beyond e bs) ≡ upto c (b ∷ bs) =
        rw (k, beyond_none (c + length b.bodies) e bs h.more (omega arith)) refl in
        rw t p

pub ends_stay : (c e : ℕ) (bs : List Batch) → RunsOn c bs → c ≤ e → e ≤ ends c bs → ends e (beyond e bs) ≡ ends c bs
ends_stay c e bs h l m =
    let within : e ≤ upto c bs = omega (arith, m, ends_upto c bs h) in
    ends_upto e (beyond e bs) (runs_beyond c e bs h l) ∙ upto_stays c e bs h l within ∙ sym (ends_upto c bs h)

pub ends-append : (c : ℕ) (bs cs : List Batch) → ends c (bs ++ cs) ≡ ends (ends c bs) cs
ends-append c [] cs = refl
ends-append c (b ∷ bs) cs = ends-append (last_clock b) bs cs
