-- The users of a room, gathered from the last connection to the first.
use Rattle.std.proofs.Common.{◌≡◌, ◌&&◌, Ordering, ℕ, zero, suc, ◌+◌, ◌-◌, ◌<◌, List, [], ◌∷◌, ◌++◌, Bool, true, false, cond, not, nat_eq, T, refl, sym, ap, ◌∙◌, arith, nat_cmp, Less, Equal, Greater, slice_get, drop}
use Rattle.std.specs.Prelude.{Option, Some, None}
use Rattle.std.specs.Ordering.{eq_by_cmp, is_lt}
use Rattle.std.specs.BTreeMap.{is_at}
use Rattle.std.specs.Map.{lookup}
use Rattle.std.specs.Cmp.{nat_cmp_total, eq_by_cmp_equiv, unsigned_ties, ranked}
use Rattle.std.specs.FinMap.{FinMap, entries, from_entries, remove, insert, get, find, is_sorted, entries_sorted, same_map, nat_cmp-IsAntisymmetric, get-insert, get-from_entries}
use Rattle.std.specs.FinMap.Entries.{where_key, below_all}
use Rattle.std.proofs.lemmas.Bool.Decides.{nat_tests}
use Rattle.room_log.specs.Log.{Session}
use Rattle.room_model.specs.Server.{Link, users_of, users_among, user_at}
use Rattle.room_arrivals.specs.Names.{users_from, name_at, as_named}
use Rattle.room_msg.specs.Users.{IsRising}
use Rattle.room_links.proofs.Maps.{entries_without, entries_are, from_place}

abbrev but : ℕ → List (ℕ × Link) → List (ℕ × Link)
but k es = where_key nat_cmp (λ x. not (eq_by_cmp nat_cmp k x)) es

skipped : (ss : List Session) (k : ℕ) (es : List (ℕ × Link))
    → users_from ss k es ≡ users_among ss (where_key nat_cmp (λ x. not (eq_by_cmp nat_cmp k x)) es)
skipped ss k [] = refl
skipped ss k (e ∷ es) =
    ap (λ us. cond (nat_eq e.0 k) us (user_at ss (e.1).actor ++ us)) (skipped ss k es)
    ∙ ap (λ b. cond b (users_among ss (but k es)) (user_at ss (e.1).actor ++ users_among ss (but k es))) (unsigned_ties e.0 k ∙ (eq_by_cmp_equiv nat_cmp_total).symm e.0 k)
    ∙ one (eq_by_cmp nat_cmp k e.0)
  where
    one : (b : Bool) → cond b (users_among ss (but k es)) (user_at ss (e.1).actor ++ users_among ss (but k es))
        ≡ users_among ss (cond (not b) (e ∷ but k es) (but k es))
    one true = refl
    one false = refl

pub users_are : (ss : List Session) (ls : FinMap nat_cmp Link) (k : ℕ)
    → entries (from_entries {R = nat_cmp} (users_from ss k (entries ls))) ≡ users_of ss (remove ls k)
users_are ss ls k =
    ap (λ us. entries (from_entries {R = nat_cmp} us)) (skipped ss k (entries ls) ∙ ap (users_among ss) (sym (entries_without ls k)))

-- the map of names with one more

put_at : {X : Type 0} (k : ℕ) (v : X) (es fs : List (ℕ × X))
    → ((q : ℕ) → lookup (is_at (nat_cmp q)) fs ≡ cond (is_at (nat_cmp k) q) (Some v) (lookup (is_at (nat_cmp q)) es))
    → from_entries {R = nat_cmp} fs ≡ insert (from_entries es) k v
put_at {X} k v es fs up = same_map nat_cmp_total nat_cmp-IsAntisymmetric _ _ (λ q.
    looked fs q ∙ up q ∙ turned q (lookup (is_at (nat_cmp q)) es)
    ∙ sym (get-insert nat_cmp_total (from_entries es) k v q ∙ ap (cond (eq_by_cmp nat_cmp q k) (Some v)) (looked es q)))
  where
    found : (gs : List (ℕ × X)) (q : ℕ) → find nat_cmp q gs ≡ lookup (is_at (nat_cmp q)) gs
    found [] q = refl
    found (e ∷ gs) q = ap (cond (eq_by_cmp nat_cmp q e.0) (Some e.1)) (found gs q)

    looked : (gs : List (ℕ × X)) (q : ℕ) → get (from_entries {R = nat_cmp} gs) q ≡ lookup (is_at (nat_cmp q)) gs
    looked gs q = get-from_entries nat_cmp_total gs q ∙ found gs q

    turned : (q : ℕ) (o : Option X) → cond (is_at (nat_cmp k) q) (Some v) o ≡ cond (eq_by_cmp nat_cmp q k) (Some v) o
    turned q o = ap (λ b. cond b (Some v) o) ((eq_by_cmp_equiv nat_cmp_total).symm k q)

other_number : (n k : ℕ) → (n ≡ k → ⊥) → nat_eq n k ≡ false
other_number n k e = grind (arith, nat_tests)

-- the map of the users from a connection on
pub named : (ss : List Session) (k n : ℕ) (l : Link) (es : List (ℕ × Link)) (a : ℕ) (name : List ℕ) (ms ns : List (ℕ × List ℕ))
    → (n ≡ k → ⊥) → l.actor ≡ Some a → name ≡ name_at ss a
    → from_entries {R = nat_cmp} ms ≡ from_entries (users_from ss k es)
    → ((q : ℕ) → lookup (is_at (nat_cmp q)) ns ≡ cond (is_at (nat_cmp a) q) (Some name) (lookup (is_at (nat_cmp q)) ms))
    → from_entries {R = nat_cmp} ns ≡ from_entries (users_from ss k ((n, l) ∷ es))
named ss k n l es a name ms ns other at is before up =
    put_at a name ms ns up ∙ ap (λ (m : FinMap nat_cmp (List ℕ)). insert m a name) before
    ∙ ap (λ t. insert (from_entries {R = nat_cmp} (users_from ss k es)) a t) is
    ∙ sym (ap (λ b. from_entries {R = nat_cmp} (cond b (users_from ss k es) (user_at ss l.actor ++ users_from ss k es)))
    (other_number n k other)
    ∙ ap (λ o. from_entries {R = nat_cmp} (user_at ss o ++ users_from ss k es)) at)

pub skipped_own : (ss : List Session) (k : ℕ) (e : ℕ × Link) (es : List (ℕ × Link)) → nat_eq e.0 k ≡ true
    → users_from ss k (e ∷ es) ≡ users_from ss k es
skipped_own ss k e es own = ap (λ b. cond b (users_from ss k es) (user_at ss (e.1).actor ++ users_from ss k es)) own

pub skipped_idle : (ss : List Session) (k : ℕ) (e : ℕ × Link) (es : List (ℕ × Link)) → nat_eq e.0 k ≡ false → (e.1).actor ≡ None
    → users_from ss k (e ∷ es) ≡ users_from ss k es
skipped_idle ss k e es other at =
    ap (λ b. cond b (users_from ss k es) (user_at ss (e.1).actor ++ users_from ss k es)) other
    ∙ ap (λ o. user_at ss o ++ users_from ss k es) at

-- the users rise by actor

rising_of : (es : List (ℕ × List ℕ)) → T (is_sorted nat_cmp es) → IsRising es
rising_of [] h = tt
rising_of (e ∷ []) h = tt
rising_of (e ∷ d ∷ es) h = (first e d es h, rising_of (d ∷ es) (rest (below_all nat_cmp e.0 (d ∷ es)) (is_sorted nat_cmp (d ∷ es)) h))
  where
    rest : (a b : Bool) → T (a && b) → T b
    rest true b p = p
    rest false b p = absurd p

    front : (a b : Bool) → T (a && b) → T a
    front true b p = tt
    front false b p = p

    less : (o : Ordering) → T (is_lt o) → o ≡ Less
    less Less p = refl
    less Equal p = absurd p
    less Greater p = absurd p

    first : (e d : ℕ × List ℕ) (es : List (ℕ × List ℕ)) → T (is_sorted nat_cmp (e ∷ d ∷ es)) → e.0 < d.0
    first e d es h =
        ranked e.0 d.0 Less (sym (less (nat_cmp e.0 d.0) (front (is_lt (nat_cmp e.0 d.0)) (below_all nat_cmp e.0 es)
        (front (below_all nat_cmp e.0 (d ∷ es)) (is_sorted nat_cmp (d ∷ es)) h))))

pub users_rise : (m : FinMap nat_cmp (List ℕ)) → IsRising (entries m)
users_rise m = rising_of (entries m) (entries_sorted m)

-- a place of a list, and one behind it

nothing_behind : {X : Type 0} (i : ℕ) → ◌≡◌ {A = List X} (drop i []) []
nothing_behind zero = refl
nothing_behind (suc i) = refl

none_some : {X : Type 0} (x : X) → Some x ≡ None → ⊥
none_some x e = cc

pub past : {X : Type 0} (xs : List X) (i : ℕ) → slice_get xs i ≡ None → drop i xs ≡ drop (i + 1) xs
past [] i e = nothing_behind i ∙ sym (nothing_behind (i + 1))
past (x ∷ xs) zero e = absurd (none_some x e)
past (x ∷ xs) (suc i) e =
    let next : suc (i + 1) ≡ suc i + 1 = omega arith in
    past xs i e ∙ ap (λ n. drop n (x ∷ xs)) next

-- a step of the walk from the last connection to the first
pub stepped : (ss : List Session) (k : ℕ) (es : List (ℕ × Link)) (place : ℕ) (e : ℕ × Link) (ms : List (ℕ × List ℕ))
    → 0 < place → slice_get es (place - 1) ≡ Some e → as_named ms ≡ as_named (users_from ss k (e ∷ drop place es))
    → as_named ms ≡ as_named (users_from ss k (drop (place - 1) es))
stepped ss k es place e ms some got same =
    let back : place ≡ place - 1 + 1 = omega (arith, some) in
    same ∙ ap (λ xs. as_named (users_from ss k xs)) (ap (λ n. e ∷ drop n es) back ∙ sym (from_place es (place - 1) e got))

pub ruleset names = (named, skipped_own, skipped_idle)

pub ruleset places = (from_place, past)

pub ruleset listing = (users_are, users_rise, entries_are)
