-- An update that equals a client's first pending operations leaves what it shows.
use Rattle.std.proofs.Common.{◌≡◌, ℕ, zero, suc, ◌+◌, ◌-◌, ◌<◌, ◌≤◌, ◌==◌, max, Bool, true, false, cond, ◌&&◌, not, nat_le, nat_lt, List, [], ◌∷◌, ◌++◌, length, drop, refl, sym, ap, ◌∙◌, subst, arith, append_assoc, length-append, ⊎_elim}
use Rattle.std.specs.Prelude.{Some, Ok, Err}
use Rattle.std.proofs.lemmas.Bool.{cases_lt, eq-eqb}
use Rattle.std.proofs.lemmas.Bool.Decides.{nat_tests}
use Rattle.room_nodes.specs.declared.nodes.Body.{Body}
use Rattle.room_nodes.specs.declared.nodes.Op.{Op}
use Rattle.room_nodes.specs.Equal.{are_first}
use Rattle.room_nodes.specs.Shape.{Nodes}
use Rattle.room_nodes.specs.Steps.{fold}
use Rattle.room_log.specs.Log.{actor_of, clock_of, bodies_of, ops_from}
use Rattle.room_log.proofs.Same.{first_same}
use Rattle.room_model.specs.Account.{Account, Batch, actor, all_bodies, all_ops, batch_ops, beyond, bodies_in, issued, last_clock, last_issued, open_ops, pending, pending_bodies, rest_of, shown, shown_over}
use Rattle.room_model.specs.Receive.{told_by, updated_account}
use Rattle.room_model.specs.Sound.{ClocksRunOn, RunsOn}
use Rattle.room_laws.specs.Ledger.{upto}
use Rattle.room_laws.proofs.Batches.{beyond-append, beyond_none, beyond_one, ends_upto}
use Rattle.room_laws.proofs.Ops.{bodies_again}
use Rattle.room_laws.proofs.Settled.{fold-append}

-- operations of one actor

abbrev AreOf : ℕ → List Op → Type 0
AreOf a [] = Unit {0}
AreOf a (o ∷ os) = (actor_of o ≡ a) × AreOf a os

of_append : (a : ℕ) (os qs : List Op) → AreOf a os → AreOf a qs → AreOf a (os ++ qs)
of_append a [] qs h k = k
of_append a (o ∷ os) qs h k = (h.0, of_append a os qs h.1 k)

of_front : (a : ℕ) (os qs : List Op) → AreOf a (os ++ qs) → AreOf a os
of_front a [] qs h = tt
of_front a (o ∷ os) qs h = (h.0, of_front a os qs h.1)

of_from : (a f : ℕ) (bs : List Body) → AreOf a (ops_from a f bs)
of_from a f [] = tt
of_from a f (b ∷ bs) = (refl, of_from a (f + 1) bs)

of_all : (a : ℕ) (bs : List Batch) → AreOf a (all_ops a bs)
of_all a [] = tt
of_all a (b ∷ bs) = of_append a (batch_ops a b) (all_ops a bs) (of_from a b.first b.bodies) (of_all a bs)

of_pending : (x : Account) → AreOf (actor x) (pending x)
of_pending x = of_append (actor x) (all_ops (actor x) (issued x)) (open_ops x) (of_all (actor x) (issued x)) (of_from (actor x) (last_issued x + 1) (bodies_in x.batch))

-- their bodies

bodies_append : (os qs : List Op) → bodies_of (os ++ qs) ≡ bodies_of os ++ bodies_of qs
bodies_append [] qs = refl
bodies_append (o ∷ os) qs = ap (λ bs. o.body ∷ bs) (bodies_append os qs)

bodies_length : (os : List Op) → length (bodies_of os) ≡ length os
bodies_length [] = refl
bodies_length (o ∷ os) = let r = bodies_length os in omega (arith, r)

bodies_all : (a : ℕ) (bs : List Batch) → bodies_of (all_ops a bs) ≡ all_bodies bs
bodies_all a [] = refl
bodies_all a (b ∷ bs) = bodies_append (batch_ops a b) (all_ops a bs) ∙ ap (λ cs. cs ++ bodies_of (all_ops a bs)) (bodies_again a b.first b.bodies) ∙ ap (λ cs. b.bodies ++ cs) (bodies_all a bs)

bodies_pending : (x : Account) → bodies_of (pending x) ≡ pending_bodies x
bodies_pending x = bodies_append (all_ops (actor x) (issued x)) (open_ops x) ∙ ap (λ cs. cs ++ bodies_of (open_ops x)) (bodies_all (actor x) (issued x))
    ∙ ap (λ cs. all_bodies (issued x) ++ cs) (bodies_again (actor x) (last_issued x + 1) (bodies_in x.batch))

-- the clock that is told counts them, and isn't beyond what was issued

record Counts (limit c told n : ℕ) : Type 0 where
  is : told ≡ c + n
  within : told ≤ max c limit

own_counts : (a limit c told : ℕ) (o : Op) (os : List Op) (t : Bool) → ((clock_of o == c + 1) && nat_le (clock_of o) limit) ≡ t → (told_by a limit (c + 1) os ≡ Ok told → Counts limit (c + 1) told (length os))
    → cond t (told_by a limit (c + 1) os) (Err (c, clock_of o)) ≡ Ok told → Counts limit c told (length (o ∷ os))
own_counts a limit c told o os false e f p = cc
own_counts a limit c told o os true e f p =
    let r = f p in
    let low : c + 1 ≤ limit = grind (arith, nat_tests, e) in
    record { is = omega (arith, r.is); within = omega (arith, r.within, low) }

told_counts : (a limit c told : ℕ) (os : List Op) → AreOf a os → told_by a limit c os ≡ Ok told → Counts limit c told (length os)
told_counts a limit c told [] h p = let e : c ≡ told = cc in record { is = omega (arith, e); within = omega (arith, e) }
told_counts a limit c told (o ∷ os) h p =
    let own : cond ((clock_of o == c + 1) && nat_le (clock_of o) limit) (told_by a limit (c + 1) os) (Err (c, clock_of o)) ≡ Ok told =
    subst (λ t. cond (not t) (told_by a limit c os) (cond ((clock_of o == c + 1) && nat_le (clock_of o) limit) (told_by a limit (c + 1) os) (Err (c, clock_of o))) ≡ Ok told) (eq-eqb (actor_of o) a h.0) p in
    own_counts a limit c told o os ((clock_of o == c + 1) && nat_le (clock_of o) limit) refl (told_counts a limit (c + 1) told os h.1) own

-- what is left of batches beyond their first n operations

all_length : (c : ℕ) (bs : List Batch) → upto c bs ≡ c + length (all_bodies bs)
all_length c [] = omega arith
all_length c (b ∷ bs) = let r = all_length (c + length b.bodies) bs in let e = length-append b.bodies (all_bodies bs) in omega (arith, r, e)

drop_front : (n : ℕ) (xs ys : List Body) → n ≤ length xs → drop n (xs ++ ys) ≡ drop n xs ++ ys
drop_front zero xs ys h = refl
drop_front (suc n) [] ys h = absurd (omega (arith, h))
drop_front (suc n) (x ∷ xs) ys h = drop_front n xs ys (omega (arith, h))

drop_past : (n : ℕ) (xs ys : List Body) → drop (length xs + n) (xs ++ ys) ≡ drop n ys
drop_past n [] ys = let e : length {A = Body} [] + n ≡ n = omega arith in ap (λ m. drop m ys) e
drop_past n (x ∷ xs) ys = let e : length (x ∷ xs) + n ≡ suc (length xs + n) = omega arith in ap (λ m. drop m (x ∷ (xs ++ ys))) e ∙ drop_past n xs ys

drop_none : (m : ℕ) → ◌≡◌ {A = List Body} (drop m []) []
drop_none zero = refl
drop_none (suc m) = refl

cut : (c n : ℕ) (b : Batch) (bs : List Batch) → RunsOn c (b ∷ bs) → n < length b.bodies → all_bodies (beyond (c + n) (b ∷ bs)) ≡ drop n (all_bodies (b ∷ bs))
cut c n b bs h l =
    let t : nat_lt (c + n) (last_clock b) ≡ true = grind (arith, nat_tests, h.first, h.some) in
    let m : c + n + 1 - b.first ≡ n = omega (arith, h.first) in
    rw t (ap (λ ds. (rest_of (c + n) b).bodies ++ all_bodies ds) (beyond_none (c + length b.bodies) (c + n) bs h.more (omega (arith, l))) ∙ ap (λ k. drop k b.bodies ++ all_bodies bs) m ∙ sym (drop_front n b.bodies (all_bodies bs) (omega (arith, l))))

past : (c n : ℕ) (b : Batch) (bs : List Batch) → RunsOn c (b ∷ bs) → length b.bodies ≤ n → all_bodies (beyond (c + length b.bodies + (n - length b.bodies)) bs) ≡ drop (n - length b.bodies) (all_bodies bs)
    → all_bodies (beyond (c + n) (b ∷ bs)) ≡ drop n (all_bodies (b ∷ bs))
past c n b bs h l k =
    let m : c + length b.bodies + (n - length b.bodies) ≡ c + n = omega (arith, l) in
    let o : length b.bodies + (n - length b.bodies) ≡ n = omega (arith, l) in
    ap all_bodies (beyond_one c (c + n) b bs h (omega (arith, l))) ∙ ap (λ e. all_bodies (beyond e bs)) (sym m) ∙ k ∙ sym (drop_past (n - length b.bodies) b.bodies (all_bodies bs)) ∙ ap (λ e. drop e (b.bodies ++ all_bodies bs)) o

beyond_drops : (c n : ℕ) (bs : List Batch) → RunsOn c bs → all_bodies (beyond (c + n) bs) ≡ drop n (all_bodies bs)
beyond_drops c n [] h = sym (drop_none n)
beyond_drops c n (b ∷ bs) h = ⊎_elim (λ l. cut c n b bs h l) (λ l. past c n b bs h l (beyond_drops (c + length b.bodies) (n - length b.bodies) bs h.more)) (cases_lt n (length b.bodies))

-- the first pending operations are of issued batches

front_is : (bs cs xs ys : List Body) → bs ++ cs ≡ xs ++ ys → length bs ≤ length xs → bs ++ drop (length bs) xs ≡ xs
front_is [] cs xs ys e h = refl
front_is (b ∷ bs) cs [] ys e h = absurd (omega (arith, h))
front_is (b ∷ bs) cs (x ∷ xs) ys e h =
    let parts : (b ≡ x) × (bs ++ cs ≡ xs ++ ys) = (cc, cc) in
    ap (λ z. z ∷ (bs ++ drop (length bs) xs)) parts.0 ∙ ap (λ zs. x ∷ zs) (front_is bs cs xs ys parts.1 (omega (arith, h)))

pub own_update : (x : Account) (os : List Op) (told : ℕ) (t : Nodes) → ClocksRunOn x → x.confirmed ≡ Some t → told_by (actor x) (last_issued x) x.told os ≡ Ok told
    → are_first os (pending x) ≡ true → shown (updated_account x os told t) ≡ shown x
own_update x os told t runs there tells first =
    let f = (first_same os (pending x)).0 first in
    let mine : AreOf (actor x) os = of_front (actor x) os f.0 (subst (AreOf (actor x)) f.1 (of_pending x)) in
    let n = told_counts (actor x) (last_issued x) x.told told os mine tells in
    let all = all_bodies (issued x) in
    let end : last_issued x ≡ x.told + length all = ends_upto x.told (issued x) runs ∙ all_length x.told (issued x) in
    let len = bodies_length os in
    let short : length (bodies_of os) ≤ length all = omega (arith, n.is, n.within, end, len) in
    let same : bodies_of os ++ bodies_of f.0 ≡ all ++ bodies_in x.batch = sym (bodies_append os f.0) ∙ ap bodies_of (sym f.1) ∙ bodies_pending x in
    let front : bodies_of os ++ drop (length (bodies_of os)) all ≡ all = front_is (bodies_of os) (bodies_of f.0) all (bodies_in x.batch) same short in
    let count : told ≡ x.told + length (bodies_of os) = omega (arith, n.is, len) in
    let left : all_bodies (beyond told x.sent ++ beyond told x.fresh) ≡ drop (length (bodies_of os)) all =
    ap all_bodies (sym (beyond-append told x.sent x.fresh)) ∙ ap (λ e. all_bodies (beyond e (issued x))) count ∙ beyond_drops x.told (length (bodies_of os)) (issued x) runs in
    let whole : bodies_of os ++ (all_bodies (beyond told x.sent ++ beyond told x.fresh) ++ bodies_in x.batch) ≡ all ++ bodies_in x.batch =
    ap (λ z. bodies_of os ++ (z ++ bodies_in x.batch)) left ∙ sym (append_assoc (bodies_of os) (drop (length (bodies_of os)) all) (bodies_in x.batch)) ∙ ap (λ z. z ++ bodies_in x.batch) front in
    ap Some (sym (fold-append t (bodies_of os) (all_bodies (beyond told x.sent ++ beyond told x.fresh) ++ bodies_in x.batch)) ∙ ap (fold t) whole) ∙ ap (shown_over x) (sym there)
