-- Operations cut at the last clocks of batches: what they are in all, one batch more, and those beyond a clock.
use Rattle.std.proofs.Common.{◌≡◌, ◌+◌, ◌-◌, ◌≤◌, ◌<◌, ◌++◌, ◌∙◌, ℕ, suc, Bool, true, false, cond, nat_lt, max, List}
use Rattle.std.proofs.Common.{[], ◌∷◌, length}
use Rattle.std.proofs.Common.{take, drop, refl, sym, ap, arith, lt-ltb, ltb-false, ltb-true}
use Rattle.std.proofs.lemmas.List.{append_assoc, drop-append-le, drop-drop, drop-take, length-drop}
use Rattle.std.proofs.lemmas.List.{take-append-drop, take-append-le, length-take-le}
use Rattle.room_nodes.specs.declared.nodes.Body.{Body}
use Rattle.room_log.specs.Log.{ops_from, op_of}
use Rattle.room_model.specs.Account.{all_bodies, all_ops, beyond, ends, last_clock, rest_of}
use Rattle.room_overlay.specs.Kept.{Rising, above, cut, last_of}
use Rattle.room_overlay.specs.Own.{batch_after}

pub rises : (c : ℕ) (ls : List ℕ) → Rising c ls → c ≤ last_of c ls
rises c [] h = omega arith
rises c (l ∷ ls) h = omega (arith, h.0, rises l ls h.1)

-- the last clock of a batch is where it was cut
pub clock_cut : (c l : ℕ) (bs : List Body) → c < l → l ≤ c + length bs
    → last_clock (batch_after c (take (l - c) bs)) ≡ l
clock_cut c l bs lt le = omega (arith, length-take-le (l - c) bs (omega (arith, le)), lt, le)

-- what is left behind the first batch is long enough
pub left : (c l : ℕ) (ls : List ℕ) (bs : List Body) → c < l → last_of l ls ≤ c + length bs → Rising l ls
    → last_of l ls ≤ l + length (drop (l - c) bs)
left c l ls bs lt le h = omega (arith, length-drop (l - c) bs, rises l ls h, lt, le)

pub ends_cut : (c : ℕ) (ls : List ℕ) (bs : List Body) → Rising c ls → last_of c ls ≤ c + length bs
    → ends c (cut c ls bs) ≡ last_of c ls
ends_cut c [] bs h le = refl
ends_cut c (l ∷ ls) bs h le =
    ap (λ k. ends k (cut l ls (drop (l - c) bs))) (clock_cut c l bs h.0 (omega (arith, rises l ls h.1, le)))
    ∙ ends_cut l ls (drop (l - c) bs) h.1 (left c l ls bs h.0 le h.1)

-- what lies behind the batches, of what is left behind the first
behind : (c l : ℕ) (ls : List ℕ) (bs : List Body) → c < l → Rising l ls
    → drop (last_of l ls - l) (drop (l - c) bs) ≡ drop (last_of l ls - c) bs
behind c l ls bs lt h =
    let sum : (l - c) + (last_of l ls - l) ≡ last_of l ls - c = omega (arith, rises l ls h, lt) in
    drop-drop (last_of l ls - l) (l - c) bs ∙ ap (λ k. drop k bs) sum

pub bodies_cut : (c : ℕ) (ls : List ℕ) (bs : List Body) → Rising c ls → last_of c ls ≤ c + length bs
    → all_bodies (cut c ls bs) ++ drop (last_of c ls - c) bs ≡ bs
bodies_cut c [] bs h le = let none : c - c ≡ 0 = omega arith in ap (λ k. drop k bs) none
bodies_cut c (l ∷ ls) bs h le =
    append_assoc (take (l - c) bs) (all_bodies (cut l ls (drop (l - c) bs))) (drop (last_of l ls - c) bs)
    ∙ ap (λ xs. take (l - c) bs ++ xs)
    (ap (λ xs. all_bodies (cut l ls (drop (l - c) bs)) ++ xs) (sym (behind c l ls bs h.0 h.1))
    ∙ bodies_cut l ls (drop (l - c) bs) h.1 (left c l ls bs h.0 le h.1))
    ∙ take-append-drop (l - c) bs

-- the operations with their ids

pub ops_append : (a c : ℕ) (xs ys : List Body)
    → ops_from a c (xs ++ ys) ≡ ops_from a c xs ++ ops_from a (c + length xs) ys
ops_append a c [] ys = let none : c ≡ c + 0 = omega arith in ap (λ k. ops_from a k ys) none
ops_append a c (x ∷ xs) ys =
    let on : c + 1 + length xs ≡ c + length (x ∷ xs) = omega arith in
    ap (λ os. op_of a c x ∷ os)
    (ops_append a (c + 1) xs ys ∙ ap (λ k. ops_from a (c + 1) xs ++ ops_from a k ys) on)

-- in two parts at a clock
parted : (a c l : ℕ) (bs : List Body) → c < l → l ≤ c + length bs
    → ops_from a (c + 1) (take (l - c) bs) ++ ops_from a (l + 1) (drop (l - c) bs) ≡ ops_from a (c + 1) bs
parted a c l bs lt le =
    let long = length-take-le (l - c) bs (omega (arith, le)) in
    let on : l + 1 ≡ c + 1 + length (take (l - c) bs) = omega (arith, long, lt) in
    ap (λ k. ops_from a (c + 1) (take (l - c) bs) ++ ops_from a k (drop (l - c) bs)) on
    ∙ sym (ops_append a (c + 1) (take (l - c) bs) (drop (l - c) bs))
    ∙ ap (ops_from a (c + 1)) (take-append-drop (l - c) bs)

pub ops_cut : (a c : ℕ) (ls : List ℕ) (bs : List Body) → Rising c ls → last_of c ls ≤ c + length bs
    → all_ops a (cut c ls bs) ++ ops_from a (last_of c ls + 1) (drop (last_of c ls - c) bs) ≡ ops_from a (c + 1) bs
ops_cut a c [] bs h le =
    let none : c - c ≡ 0 = omega arith in ap (λ k. ops_from a (c + 1) (drop k bs)) none
ops_cut a c (l ∷ ls) bs h le =
    let first = ops_from a (c + 1) (take (l - c) bs) in
    append_assoc first (all_ops a (cut l ls (drop (l - c) bs)))
    (ops_from a (last_of l ls + 1) (drop (last_of l ls - c) bs))
    ∙ ap (λ xs. first ++ xs)
    (ap (λ xs. all_ops a (cut l ls (drop (l - c) bs)) ++ ops_from a (last_of l ls + 1) xs)
    (sym (behind c l ls bs h.0 h.1))
    ∙ ops_cut a l ls (drop (l - c) bs) h.1 (left c l ls bs h.0 le h.1))
    ∙ parted a c l bs h.0 (omega (arith, rises l ls h.1, le))

-- more operations, and one batch more

pub cut_more : (c : ℕ) (ls : List ℕ) (bs more : List Body) → Rising c ls → last_of c ls ≤ c + length bs
    → cut c ls (bs ++ more) ≡ cut c ls bs
cut_more c [] bs more h le = refl
cut_more c (l ∷ ls) bs more h le =
    let within : l - c ≤ length bs = omega (arith, rises l ls h.1, le) in
    λ i. batch_after c (take-append-le (l - c) bs more within i)
    ∷ (ap (cut l ls) (drop-append-le (l - c) bs more within)
    ∙ cut_more l ls (drop (l - c) bs) more h.1 (left c l ls bs h.0 le h.1)) i

pub cut_push : (c l : ℕ) (ls : List ℕ) (bs : List Body) → Rising c ls
    → cut c (ls ++ l ∷ []) bs
    ≡ cut c ls bs ++ batch_after (last_of c ls) (take (l - last_of c ls) (drop (last_of c ls - c) bs)) ∷ []
cut_push c l [] bs h =
    let none : 0 ≡ c - c = omega arith in
    ap (λ k. batch_after c (take (l - c) (drop k bs)) ∷ []) none
cut_push c l (k ∷ ls) bs h =
    ap (λ xs. batch_after c (take (k - c) bs) ∷ xs)
    (cut_push k l ls (drop (k - c) bs) h.1
    ∙ ap (λ xs. cut k ls (drop (k - c) bs) ++ batch_after (last_of k ls) (take (l - last_of k ls) xs) ∷ [])
    (behind c k ls bs h.0 h.1))

pub last_push : (c l : ℕ) (ls : List ℕ) → last_of c (ls ++ l ∷ []) ≡ l
last_push c l [] = refl
last_push c l (k ∷ ls) = last_push k l ls

pub rising_push : (c l : ℕ) (ls : List ℕ) → Rising c ls → last_of c ls < l → Rising c (ls ++ l ∷ [])
rising_push c l [] h lt = (lt, tt)
rising_push c l (k ∷ ls) h lt = (h.0, rising_push k l ls h.1 lt)

pub length_cut : (c : ℕ) (ls : List ℕ) (bs : List Body) → length (cut c ls bs) ≡ length ls
length_cut c [] bs = refl
length_cut c (l ∷ ls) bs = ap suc (length_cut l ls (drop (l - c) bs))

-- beyond a clock

kept_whole : (d c : ℕ) (ls : List ℕ) (bs : List Body) → d ≤ c → Rising c ls → last_of c ls ≤ c + length bs
    → beyond d (cut c ls bs) ≡ cut c ls bs
kept_whole d c [] bs low h le = refl
kept_whole d c (l ∷ ls) bs low h le =
    let b = batch_after c (take (l - c) bs) in
    let rest = cut l ls (drop (l - c) bs) in
    let test : nat_lt d (last_clock b) ≡ true =
    ap (nat_lt d) (clock_cut c l bs h.0 (omega (arith, rises l ls h.1, le)))
    ∙ lt-ltb d l (omega (arith, low, h.0)) in
    let at : max (c + 1) (d + 1) ≡ c + 1 = omega (arith, low) in
    let none : d + 1 - (c + 1) ≡ 0 = omega (arith, low) in
    let later : d ≤ l = omega (arith, low, h.0) in
    ap (λ t. cond t (rest_of d b ∷ beyond d rest) (beyond d rest)) test
    ∙ (λ i. record { first = at i; bodies = drop (none i) (take (l - c) bs) }
    ∷ kept_whole d l ls (drop (l - c) bs) later h.1 (left c l ls bs h.0 le h.1) i)

beyond_first : (d c l : ℕ) (ls : List ℕ) (bs : List Body) → c ≤ d → Rising c (l ∷ ls) → last_of l ls ≤ c + length bs
    → (l ≤ d → beyond d (cut l ls (drop (l - c) bs)) ≡ cut d (above d ls) (drop (d - l) (drop (l - c) bs)))
    → (t : Bool) → nat_lt d l ≡ t
    → cond t (rest_of d (batch_after c (take (l - c) bs)) ∷ beyond d (cut l ls (drop (l - c) bs)))
    (beyond d (cut l ls (drop (l - c) bs)))
    ≡ cut d (cond t (l ∷ ls) (above d ls)) (drop (d - c) bs)
beyond_first d c l ls bs low h le again true test =
    let lt = ltb-true d l test in
    let at : max (c + 1) (d + 1) ≡ d + 1 = omega (arith, low) in
    let gone : d + 1 - (c + 1) ≡ d - c = omega arith in
    let sum : l - c ≡ (d - c) + (l - d) = omega (arith, lt, low) in
    let back : (d - c) + (l - d) ≡ l - c = omega (arith, lt, low) in
    let later : d ≤ l = omega (arith, lt) in
    λ i. record {
      first = at i;
      bodies = ((λ j. drop (gone j) (take (sum j) bs)) ∙ drop-take (d - c) (l - d) bs) i;
    }
    ∷ (kept_whole d l ls (drop (l - c) bs) later h.1 (left c l ls bs h.0 le h.1)
    ∙ ap (cut l ls) (sym (drop-drop (l - d) (d - c) bs ∙ ap (λ k. drop k bs) back))) i
beyond_first d c l ls bs low h le again false test =
    let ge = ltb-false d l test in
    let back : (l - c) + (d - l) ≡ d - c = omega (arith, ge, h.0) in
    again ge ∙ ap (cut d (above d ls)) (drop-drop (d - l) (l - c) bs ∙ ap (λ k. drop k bs) back)

pub beyond_cut : (d c : ℕ) (ls : List ℕ) (bs : List Body) → c ≤ d → d ≤ last_of c ls → Rising c ls
    → last_of c ls ≤ c + length bs → beyond d (cut c ls bs) ≡ cut d (above d ls) (drop (d - c) bs)
beyond_cut d c [] bs low high h le = refl
beyond_cut d c (l ∷ ls) bs low high h le =
    let rest = cut l ls (drop (l - c) bs) in
    let b = batch_after c (take (l - c) bs) in
    ap (λ k. cond (nat_lt d k) (rest_of d b ∷ beyond d rest) (beyond d rest))
    (clock_cut c l bs h.0 (omega (arith, rises l ls h.1, le)))
    ∙ beyond_first d c l ls bs low h le
    (λ ge. beyond_cut d l ls (drop (l - c) bs) ge high h.1 (left c l ls bs h.0 le h.1)) (nat_lt d l) refl

last_first : (d l : ℕ) (ls : List ℕ) → (l ≤ d → last_of d (above d ls) ≡ last_of l ls) → (t : Bool) → nat_lt d l ≡ t
    → last_of d (cond t (l ∷ ls) (above d ls)) ≡ last_of l ls
last_first d l ls again true test = refl
last_first d l ls again false test = again (ltb-false d l test)

pub last_above : (d c : ℕ) (ls : List ℕ) → c ≤ d → d ≤ last_of c ls → last_of d (above d ls) ≡ last_of c ls
last_above d c [] low high = omega (arith, low, high)
last_above d c (l ∷ ls) low high = last_first d l ls (λ ge. last_above d l ls ge high) (nat_lt d l) refl

rising_first : (d l : ℕ) (ls : List ℕ) → Rising l ls → Rising d (above d ls) → (t : Bool) → nat_lt d l ≡ t
    → Rising d (cond t (l ∷ ls) (above d ls))
rising_first d l ls h again true test = (ltb-true d l test, h)
rising_first d l ls h again false test = again

pub rising_above : (d c : ℕ) (ls : List ℕ) → Rising c ls → Rising d (above d ls)
rising_above d c [] h = tt
rising_above d c (l ∷ ls) h = rising_first d l ls h.1 (rising_above d l ls h.1) (nat_lt d l) refl
