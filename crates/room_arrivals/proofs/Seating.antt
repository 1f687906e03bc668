-- Which actors attached connections have, after a change of the connections or of the sessions.
use Rattle.std.proofs.Common.{◌≡◌, ℕ, zero, suc, ◌+◌, ◌≤◌, Bool, true, false, cond, List, [], ◌∷◌, length, length-append, refl, sym, ap, ◌∙◌, subst, arith, ⊎_elim, nat_cmp}
use Rattle.std.specs.Prelude.{Option, Some, None, is_some, IsSome, slice_get}
use Rattle.std.specs.Ordering.{eq_by_cmp}
use Rattle.std.specs.Cmp.{nat_cmp_total}
use Rattle.std.specs.FinMap.{FinMap, get, insert, remove, get-remove, get-insert, get-retain_keys, nat_cmp-IsAntisymmetric}
use Rattle.std.proofs.lemmas.Bool.{cases_eq}
use Rattle.std.proofs.lemmas.Bool.Decides.{nat_tests}
use Rattle.std.proofs.lemmas.Option.{slice_get_within}
use Rattle.std.proofs.Math.ListN.{length-set}
use Rattle.room_log.specs.Log.{Session, State, Update, session_of, joined, updated, with_last, with_last_at, last_from, state_after}
use Rattle.room_log.specs.Taking.{Taken, Nothing, Gap, Takes}
use Rattle.room_store.specs.Planning.{entries_of}
use Rattle.room_model.specs.Server.{Link, not_held_by, without_actor, has_key, with_session}
use Rattle.room_model.specs.Access.{Decision}
use Rattle.room_arrivals.specs.Seats.{IsSeat, AreSeated}

same_key : (q k : ℕ) → q ≡ k → eq_by_cmp nat_cmp q k ≡ true
same_key q k e = grind (arith, nat_tests)

other_key : (q k : ℕ) → (q ≡ k → ⊥) → eq_by_cmp nat_cmp q k ≡ false
other_key q k e = grind (arith, nat_tests)

get_same : (m : FinMap nat_cmp Link) (k : ℕ) (v : Link) → get (insert m k v) k ≡ Some v
get_same m k v = get-insert nat_cmp_total m k v k ∙ ap (λ b. cond b (Some v) (get m k)) (same_key k k refl)

get_other : (m : FinMap nat_cmp Link) (k : ℕ) (v : Link) (q : ℕ) → (q ≡ k → ⊥) → get (insert m k v) q ≡ get m q
get_other m k v q e = get-insert nat_cmp_total m k v q ∙ ap (λ b. cond b (Some v) (get m q)) (other_key q k e)

some_is : (x y : Link) → Some x ≡ Some y → x ≡ y
some_is x y e = cc

none_some : (x : Link) → None ≡ Some x → ⊥
none_some x e = cc

there : (b : Bool) (o : Option Link) (l : Link) → cond b o None ≡ Some l → o ≡ Some l
there true o l e = e
there false o l e = absurd (none_some l e)

there_not : (b : Bool) (o : Option Link) (l : Link) → cond b None o ≡ Some l → o ≡ Some l
there_not true o l e = absurd (none_some l e)
there_not false o l e = e

without_at : (ls : FinMap nat_cmp Link) (a j : ℕ) → get (without_actor ls a) j ≡ cond (not_held_by a (get ls j)) (get ls j) None
without_at ls a j = get-retain_keys ls (λ i. not_held_by a (get ls i)) j
    (λ x t. ap (λ i. not_held_by a (get ls i)) (sym (nat_cmp-IsAntisymmetric j x t)))

pub seated_put : (n : ℕ) (ls : FinMap nat_cmp Link) (k : ℕ) (x : Link) → AreSeated n ls → IsSeat n x.actor
    → AreSeated n (insert ls k x)
unfolding AreSeated
seated_put n ls k x h p j l e = ⊎_elim
    (λ i. subst (λ (y : Link). IsSeat n y.actor) (some_is x l (sym (get_same ls k x) ∙ sym (ap (get (insert ls k x)) i) ∙ e)) p)
    (λ i. h j l (sym (get_other ls k x j i) ∙ e))
    (cases_eq j k)

pub seated_out : (n : ℕ) (ls : FinMap nat_cmp Link) (k : ℕ) → AreSeated n ls → AreSeated n (remove ls k)
unfolding AreSeated
seated_out n ls k h j l e =
    h j l (there_not (eq_by_cmp nat_cmp j k) (get ls j) l (sym (get-remove nat_cmp_total ls k j) ∙ e))

pub seated_without : (n : ℕ) (ls : FinMap nat_cmp Link) (a : ℕ) → AreSeated n ls → AreSeated n (without_actor ls a)
unfolding AreSeated
seated_without n ls a h j l e = h j l (there (not_held_by a (get ls j)) (get ls j) l (sym (without_at ls a j) ∙ e))

seat_more : (n m : ℕ) (o : Option ℕ) → n ≤ m → IsSeat n o → IsSeat m o
seat_more n m None p h = tt
seat_more n m (Some a) p h = (h.0, omega (arith, p, h.1))

pub seated_more : (n m : ℕ) (ls : FinMap nat_cmp Link) → n ≤ m → AreSeated n ls → AreSeated m ls
unfolding AreSeated
seated_more n m ls p h j l e = seat_more n m l.actor p (h j l e)

-- actors of sessions

pub known_seat : (ss : List Session) (a : ℕ) → 1 ≤ a → a ≤ length ss → IsSome (session_of ss a)
known_seat ss zero p q = absurd (omega (arith, p))
known_seat [] (suc i) p q = absurd (omega (arith, q))
known_seat (x ∷ ss) (suc zero) p q = refl
known_seat (x ∷ ss) (suc (suc i)) p q = known_seat ss (suc i) (omega arith) (omega (arith, q))

seat_at : (ss : List Session) (a : ℕ) (o : Option Session) → session_of ss a ≡ o → is_some o ≡ true → (1 ≤ a) × (a ≤ length ss)
seat_at ss a None e p = cc
seat_at ss zero (Some x) e p = cc
seat_at ss (suc i) (Some x) e p = let within = slice_get_within ss i x e in (omega arith, omega (arith, within))

pub seat_known : (ss : List Session) (a : ℕ) → IsSome (session_of ss a) → (1 ≤ a) × (a ≤ length ss)
seat_known ss a p = seat_at ss a (session_of ss a) refl p

pub same_length : (ss : List Session) (a c : ℕ) → length (with_last ss a c) ≡ length ss
same_length ss zero c = refl
same_length ss (suc i) c = at (slice_get ss i)
  where
    at : (o : Option Session) → length (with_last_at ss i c o) ≡ length ss
    at None = refl
    at (Some s) = length-set ss i (record s { last = c })

-- a session stays, whatever is taken
pub session_stays : (s : State) (t : Taken) (a : ℕ) → IsSome (session_of s.sessions a)
    → IsSome (session_of (state_after s (entries_of t)).sessions a)
session_stays s Nothing a h = h
session_stays s (Gap expected got) a h = h
session_stays s (Takes u) a h =
    let at = seat_known s.sessions a h in
    let same = same_length s.sessions u.actor (last_from u.first u.bodies) in
    known_seat (updated s u).sessions a at.0 (omega (arith, same, at.1))

pub known_by : (key : ℕ) (o : Option Session) → has_key key o ≡ true → IsSome o
known_by key None e = cc
known_by key (Some s) e = refl

pub seated_new : (n : ℕ) (ls : FinMap nat_cmp Link) (k key : ℕ) → AreSeated n ls
    → AreSeated n (insert ls k (record { key = key; actor = None; fetched = false; decision = None }))
seated_new n ls k key h = seated_put n ls k (record { key = key; actor = None; fetched = false; decision = None }) h tt

-- one that has a session among them
pub seated_one : (n m : ℕ) (ls : FinMap nat_cmp Link) (k a : ℕ) (l : Link) (d : Option Decision) → AreSeated n ls → n ≤ m
    → 1 ≤ a → a ≤ m → AreSeated m (insert ls k (with_session l a d))
seated_one n m ls k a l d h p low high =
    seated_put m ls k (with_session l a d) (seated_more n m ls p h) (low, high)

-- a new session
pub seated_joined : (s : State) (ls : FinMap nat_cmp Link) (k a key : ℕ) (name : List ℕ) (l : Link) (d : Option Decision)
    → AreSeated (length s.sessions) ls → a ≡ length s.sessions + 1
    → AreSeated (length (joined s key name).sessions) (insert ls k (with_session l a d))
seated_joined s ls k a key name l d h is =
    let more = length-append s.sessions (record { key = key; last = 0; name = name } ∷ []) in
    seated_one (length s.sessions) (length (joined s key name).sessions) ls k a l d h (omega (arith, more)) (omega (arith, is))
    (omega (arith, is, more))

-- a session that goes on
pub seated_resumed : (ss : List Session) (ls : FinMap nat_cmp Link) (k a : ℕ) (l : Link) (d : Option Decision)
    → AreSeated (length ss) ls → IsSome (session_of ss a)
    → AreSeated (length ss) (insert (without_actor ls a) k (with_session l a d))
seated_resumed ss ls k a l d h p =
    let at = seat_known ss a p in
    seated_one (length ss) (length ss) (without_actor ls a) k a l d (seated_without (length ss) ls a h) (omega arith) at.0 at.1

-- an update leaves as many sessions
pub seated_updated : (s : State) (u : Update) (ls : FinMap nat_cmp Link) → AreSeated (length s.sessions) ls
    → AreSeated (length (updated s u).sessions) ls
seated_updated s u ls h =
    let same = same_length s.sessions u.actor (last_from u.first u.bodies) in
    seated_more (length s.sessions) (length (updated s u).sessions) ls (omega (arith, same)) h

pub seat_there : (n : ℕ) (ls : FinMap nat_cmp Link) (k : ℕ) (l : Link) → AreSeated n ls → get ls k ≡ Some l → IsSeat n l.actor
unfolding AreSeated
seat_there n ls k l h e = h k l e

-- a connection fetches
pub seated_fetched : (n : ℕ) (ls : FinMap nat_cmp Link) (k : ℕ) (l : Link) → AreSeated n ls → get ls k ≡ Some l
    → AreSeated n (insert ls k (record l { fetched = true }))
seated_fetched n ls k l h e = seated_put n ls k (record l { fetched = true }) h (seat_there n ls k l h e)

pub ruleset seats = (seated_new, seated_joined, seated_resumed, seated_updated, seated_fetched, seated_out, session_stays)

pub ruleset known = (known_seat, known_by, seat_there)
