-- Issued batches, parted at a clock: joined again, with more behind them, and beyond what is acknowledged.
use Rattle.std.proofs.Common.{◌≡◌, ◌+◌, ◌-◌, ◌≤◌, ◌<◌, ◌++◌, ◌∙◌, ℕ, Bool, true, false, cond, nat_lt, List, []}
use Rattle.std.proofs.Common.{◌∷◌, length, refl, sym, ap, subst, arith, lt-ltb, ltb-true, ltb-false}
use Rattle.std.proofs.lemmas.List.{length-drop}
use Rattle.room_model.specs.Account.{Batch, beyond, ends, last_clock, rest_of}
use Rattle.room_model.specs.Sound.{RunsOn}
use Rattle.room_client.specs.Client.{up_to, behind}

-- joined again

join_at : (t : Bool) (b : Batch) (bs up rest : List Batch) → up ++ rest ≡ bs
    → cond t [] (b ∷ up) ++ cond t (b ∷ bs) rest ≡ b ∷ bs
join_at true b bs up rest e = refl
join_at false b bs up rest e = ap (λ xs. b ∷ xs) e

pub joined : (c : ℕ) (bs : List Batch) → up_to c bs ++ behind c bs ≡ bs
joined c [] = refl
joined c (b ∷ bs) = join_at (nat_lt c (last_clock b)) b bs (up_to c bs) (behind c bs) (joined c bs)

-- the last clock of a batch that runs on
pub clock_on : (c : ℕ) (b : Batch) (bs : List Batch) → RunsOn c (b ∷ bs) → last_clock b ≡ c + length b.bodies
clock_on c b bs r = omega (arith, r.first, r.some)

pub rises : (c : ℕ) (bs : List Batch) → RunsOn c bs → c ≤ ends c bs
rises c [] r = omega arith
rises c (b ∷ bs) r =
    let on = clock_on c b bs r in
    let more = rises (last_clock b) bs (subst (λ k. RunsOn k bs) (sym on) r.more) in
    omega (arith, on, more)

-- more behind them

more_up_first : (c d : ℕ) (bs : List Batch) → RunsOn d bs → c ≤ d → up_to c bs ≡ []
more_up_first c d [] r le = refl
more_up_first c d (b ∷ bs) r le =
    let lt : nat_lt c (last_clock b) ≡ true =
    lt-ltb c (last_clock b) (omega (arith, clock_on d b bs r, r.some, le)) in
    ap (λ t. cond t [] (b ∷ up_to c bs)) lt

more_behind_first : (c d : ℕ) (bs : List Batch) → RunsOn d bs → c ≤ d → behind c bs ≡ bs
more_behind_first c d [] r le = refl
more_behind_first c d (b ∷ bs) r le =
    let lt : nat_lt c (last_clock b) ≡ true =
    lt-ltb c (last_clock b) (omega (arith, clock_on d b bs r, r.some, le)) in
    ap (λ t. cond t (b ∷ bs) (behind c bs)) lt

-- nothing is sent up to what is acknowledged
pub none_sent : (c d : ℕ) (bs : List Batch) → RunsOn d bs → c ≤ d → up_to c bs ≡ []
none_sent = more_up_first

pub all_fresh : (c d : ℕ) (bs : List Batch) → RunsOn d bs → c ≤ d → behind c bs ≡ bs
all_fresh = more_behind_first

up_at : (t : Bool) (b : Batch) (xs ys : List Batch) → xs ≡ ys → cond t [] (b ∷ xs) ≡ cond t [] (b ∷ ys)
up_at t b xs ys e = ap (λ zs. cond t [] (b ∷ zs)) e

pub more_up : (c d : ℕ) (bs more : List Batch) → RunsOn d (bs ++ more) → c ≤ ends d bs
    → up_to c (bs ++ more) ≡ up_to c bs
more_up c d [] more r le = more_up_first c d more r le
more_up c d (b ∷ bs) more r le =
    let on = clock_on d b (bs ++ more) r in
    up_at (nat_lt c (last_clock b)) b (up_to c (bs ++ more)) (up_to c bs)
    (more_up c (last_clock b) bs more (subst (λ k. RunsOn k (bs ++ more)) (sym on) r.more) le)

behind_at : (t : Bool) (b : Batch) (bs more xs ys : List Batch) → xs ≡ ys ++ more
    → cond t (b ∷ bs ++ more) xs ≡ cond t (b ∷ bs) ys ++ more
behind_at true b bs more xs ys e = refl
behind_at false b bs more xs ys e = e

pub more_behind : (c d : ℕ) (bs more : List Batch) → RunsOn d (bs ++ more) → c ≤ ends d bs
    → behind c (bs ++ more) ≡ behind c bs ++ more
more_behind c d [] more r le = more_behind_first c d more r le
more_behind c d (b ∷ bs) more r le =
    let on = clock_on d b (bs ++ more) r in
    behind_at (nat_lt c (last_clock b)) b bs more (behind c (bs ++ more)) (behind c bs)
    (more_behind c (last_clock b) bs more (subst (λ k. RunsOn k (bs ++ more)) (sym on) r.more) le)

-- all of them

pub all_up : (d : ℕ) (bs : List Batch) (c : ℕ) → RunsOn d bs → ends d bs ≤ c → up_to c bs ≡ bs
all_up d [] c r le = refl
all_up d (b ∷ bs) c r le =
    let on = clock_on d b bs r in
    let more = subst (λ k. RunsOn k bs) (sym on) r.more in
    let test : nat_lt c (last_clock b) ≡ false =
    grind (arith, rises (last_clock b) bs more, le) in
    ap (λ t. cond t [] (b ∷ up_to c bs)) test ∙ ap (λ xs. b ∷ xs) (all_up (last_clock b) bs c more le)

pub none_behind : (d : ℕ) (bs : List Batch) (c : ℕ) → RunsOn d bs → ends d bs ≤ c → behind c bs ≡ []
none_behind d [] c r le = refl
none_behind d (b ∷ bs) c r le =
    let on = clock_on d b bs r in
    let more = subst (λ k. RunsOn k bs) (sym on) r.more in
    let test : nat_lt c (last_clock b) ≡ false =
    grind (arith, rises (last_clock b) bs more, le) in
    ap (λ t. cond t (b ∷ bs) (behind c bs)) test ∙ none_behind (last_clock b) bs c more le

-- beyond a clock that is acknowledged

cond_append : (t : Bool) (b : Batch) (xs ys : List Batch) → cond t (b ∷ xs ++ ys) (xs ++ ys) ≡ cond t (b ∷ xs) xs ++ ys
cond_append true b xs ys = refl
cond_append false b xs ys = refl

pub beyond_append : (c : ℕ) (xs ys : List Batch) → beyond c (xs ++ ys) ≡ beyond c xs ++ beyond c ys
beyond_append c [] ys = refl
beyond_append c (b ∷ xs) ys =
    ap (λ zs. cond (nat_lt c (last_clock b)) (rest_of c b ∷ zs) zs) (beyond_append c xs ys)
    ∙ cond_append (nat_lt c (last_clock b)) (rest_of c b) (beyond c xs) (beyond c ys)

-- what is left of a batch ends where it did
rest_clock : (c : ℕ) (b : Batch) → c < last_clock b → last_clock (rest_of c b) ≡ last_clock b
rest_clock c b lt = omega (arith, lt, length-drop (c + 1 - b.first) b.bodies)

-- each that is left ends behind the clock
abbrev EndBehind : ℕ → List Batch → Type 0
EndBehind c [] = Unit {0}
EndBehind c (b ∷ bs) = (c < last_clock b) × EndBehind c bs

end_at : (t : Bool) (c : ℕ) (b : Batch) (bs : List Batch) → nat_lt c (last_clock b) ≡ t → EndBehind c bs
    → EndBehind c (cond t (rest_of c b ∷ bs) bs)
end_at true c b bs test h =
    let lt = ltb-true c (last_clock b) test in
    let same = rest_clock c b lt in
    (omega (arith, lt, same), h)
end_at false c b bs test h = h

end_behind : (c : ℕ) (bs : List Batch) → EndBehind c (beyond c bs)
end_behind c [] = tt
end_behind c (b ∷ bs) = end_at (nat_lt c (last_clock b)) c b (beyond c bs) refl (end_behind c bs)

none_up : (c d : ℕ) (bs : List Batch) → c ≤ d → EndBehind d bs → up_to c bs ≡ []
none_up c d [] le h = refl
none_up c d (b ∷ bs) le h =
    let lt : nat_lt c (last_clock b) ≡ true = lt-ltb c (last_clock b) (omega (arith, h.0, le)) in
    ap (λ t. cond t [] (b ∷ up_to c bs)) lt

whole_behind : (c d : ℕ) (bs : List Batch) → c ≤ d → EndBehind d bs → behind c bs ≡ bs
whole_behind c d [] le h = refl
whole_behind c d (b ∷ bs) le h =
    let lt : nat_lt c (last_clock b) ≡ true = lt-ltb c (last_clock b) (omega (arith, h.0, le)) in
    ap (λ t. cond t (b ∷ bs) (behind c bs)) lt

-- sent (s) or not, acknowledged (t false) or not
up_beyond_at : (c d : ℕ) (b : Batch) (bs : List Batch) (s t : Bool) → nat_lt c (last_clock b) ≡ s
    → nat_lt d (last_clock b) ≡ t → up_to c (beyond d bs) ≡ beyond d (up_to c bs)
    → up_to c (cond t (rest_of d b ∷ beyond d bs) (beyond d bs)) ≡ beyond d (cond s [] (b ∷ up_to c bs))
up_beyond_at c d b bs true true sent told again =
    let same = rest_clock d b (ltb-true d (last_clock b) told) in
    ap (λ k. cond (nat_lt c k) [] (rest_of d b ∷ up_to c (beyond d bs))) same
    ∙ ap (λ s. cond s [] (rest_of d b ∷ up_to c (beyond d bs))) sent
up_beyond_at c d b bs true false sent told again =
    let le : c ≤ d = omega (arith, ltb-true c (last_clock b) sent, ltb-false d (last_clock b) told) in
    none_up c d (beyond d bs) le (end_behind d bs)
up_beyond_at c d b bs false true sent told again =
    let same = rest_clock d b (ltb-true d (last_clock b) told) in
    ap (λ k. cond (nat_lt c k) [] (rest_of d b ∷ up_to c (beyond d bs))) same
    ∙ ap (λ s. cond s [] (rest_of d b ∷ up_to c (beyond d bs))) sent
    ∙ ap (λ xs. rest_of d b ∷ xs) again
    ∙ ap (λ t. cond t (rest_of d b ∷ beyond d (up_to c bs)) (beyond d (up_to c bs))) (sym told)
up_beyond_at c d b bs false false sent told again =
    again ∙ ap (λ t. cond t (rest_of d b ∷ beyond d (up_to c bs)) (beyond d (up_to c bs))) (sym told)

pub up_beyond : (c d : ℕ) (bs : List Batch) → up_to c (beyond d bs) ≡ beyond d (up_to c bs)
up_beyond c d [] = refl
up_beyond c d (b ∷ bs) = up_beyond_at c d b bs (nat_lt c (last_clock b)) (nat_lt d (last_clock b)) refl refl
    (up_beyond c d bs)

behind_beyond_at : (c d : ℕ) (b : Batch) (bs : List Batch) (s t : Bool) → nat_lt c (last_clock b) ≡ s
    → nat_lt d (last_clock b) ≡ t → behind c (beyond d bs) ≡ beyond d (behind c bs)
    → behind c (cond t (rest_of d b ∷ beyond d bs) (beyond d bs)) ≡ beyond d (cond s (b ∷ bs) (behind c bs))
behind_beyond_at c d b bs true true sent told again =
    let same = rest_clock d b (ltb-true d (last_clock b) told) in
    ap (λ k. cond (nat_lt c k) (rest_of d b ∷ beyond d bs) (behind c (beyond d bs))) same
    ∙ ap (λ s. cond s (rest_of d b ∷ beyond d bs) (behind c (beyond d bs))) sent
    ∙ ap (λ t. cond t (rest_of d b ∷ beyond d bs) (beyond d bs)) (sym told)
behind_beyond_at c d b bs true false sent told again =
    let le : c ≤ d = omega (arith, ltb-true c (last_clock b) sent, ltb-false d (last_clock b) told) in
    whole_behind c d (beyond d bs) le (end_behind d bs)
    ∙ ap (λ t. cond t (rest_of d b ∷ beyond d bs) (beyond d bs)) (sym told)
behind_beyond_at c d b bs false true sent told again =
    let same = rest_clock d b (ltb-true d (last_clock b) told) in
    ap (λ k. cond (nat_lt c k) (rest_of d b ∷ beyond d bs) (behind c (beyond d bs))) same
    ∙ ap (λ s. cond s (rest_of d b ∷ beyond d bs) (behind c (beyond d bs))) sent
    ∙ again
behind_beyond_at c d b bs false false sent told again = again

pub behind_beyond : (c d : ℕ) (bs : List Batch) → behind c (beyond d bs) ≡ beyond d (behind c bs)
behind_beyond c d [] = refl
behind_beyond c d (b ∷ bs) =
    behind_beyond_at c d b bs (nat_lt c (last_clock b)) (nat_lt d (last_clock b)) refl refl (behind_beyond c d bs)

-- the last clock that was issued stays

ends_kept : (d k : ℕ) (bs : List Batch) → RunsOn k bs → d ≤ k → ends k (beyond d bs) ≡ ends k bs
ends_kept d k [] r le = refl
ends_kept d k (b ∷ bs) r le =
    let on = clock_on k b bs r in
    let lt : d < last_clock b = omega (arith, on, r.some, le) in
    ap (λ t. ends k (cond t (rest_of d b ∷ beyond d bs) (beyond d bs))) (lt-ltb d (last_clock b) lt)
    ∙ ap (λ n. ends n (beyond d bs)) (rest_clock d b lt)
    ∙ ends_kept d (last_clock b) bs (subst (λ n. RunsOn n bs) (sym on) r.more) (omega (arith, lt))

ends_at : (d c : ℕ) (b : Batch) (bs : List Batch) → RunsOn (last_clock b) bs
    → (last_clock b ≤ d → ends d (beyond d bs) ≡ ends (last_clock b) bs) → (t : Bool) → nat_lt d (last_clock b) ≡ t
    → ends d (cond t (rest_of d b ∷ beyond d bs) (beyond d bs)) ≡ ends (last_clock b) bs
ends_at d c b bs r again true test =
    let lt = ltb-true d (last_clock b) test in
    ap (λ n. ends n (beyond d bs)) (rest_clock d b lt) ∙ ends_kept d (last_clock b) bs r (omega (arith, lt))
ends_at d c b bs r again false test = again (ltb-false d (last_clock b) test)

pub ends_beyond : (c d : ℕ) (bs : List Batch) → RunsOn c bs → c ≤ d → d ≤ ends c bs
    → ends d (beyond d bs) ≡ ends c bs
ends_beyond c d [] r low high = omega (arith, low, high)
ends_beyond c d (b ∷ bs) r low high =
    let more = subst (λ n. RunsOn n bs) (sym (clock_on c b bs r)) r.more in
    ends_at d c b bs more (λ le. ends_beyond (last_clock b) d bs more le high) (nat_lt d (last_clock b)) refl
