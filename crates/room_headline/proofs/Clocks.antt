-- In a valid log the clocks of each actor run on.
use Rattle.std.proofs.Common.{◌≡◌, ℕ, zero, suc, ◌+◌, ◌<◌, ◌≤◌, ◌==◌, Bool, true, false, inl, inr, List, [], ◌∷◌, ◌++◌}
use Rattle.std.proofs.Common.{length, Option, Some, None, refl, sym, ap, ◌∙◌, subst, arith}
use Rattle.std.specs.Prelude.{slice_get, slice_set}
use Rattle.std.proofs.lemmas.Bool.{eqb-true, eqb-false}
use Rattle.std.proofs.lemmas.Option.{slice_get_within, slice_get-get_or}
use Rattle.std.proofs.lemmas.List.{get_or-set_same}
use Rattle.std.proofs.Math.ListN.{length-set}
use Rattle.room_log.specs.Log.{Session, State, Update, Entry, Join, Updated, session_of, last_in, last_of, last_from}
use Rattle.room_log.specs.Log.{with_last, with_last_at, after, state_after, updates_of}
use Rattle.room_log.specs.Follows.{IsNextUpdate, IsValidLog}
use Rattle.room_log.proofs.Following.{follows_exactly}
use Rattle.room_headline.specs.Headline.{RunOn}

-- sessions, with one more

join_at : (ss : List Session) (x : Session) (i : ℕ) → x.last ≡ 0
    → last_in (slice_get (ss ++ x ∷ []) i) ≡ last_in (slice_get ss i)
join_at [] x zero e = e
join_at [] x (suc i) e = refl
join_at (y ∷ ss) x zero e = refl
join_at (y ∷ ss) x (suc i) e = join_at ss x i e

last_join : (ss : List Session) (x : Session) (a : ℕ) → x.last ≡ 0 → last_of (ss ++ x ∷ []) a ≡ last_of ss a
last_join ss x zero e = refl
last_join ss x (suc i) e = join_at ss x i e

-- and with another last clock of one

set_same : (ss : List Session) (i : ℕ) (x y : Session) → slice_get ss i ≡ Some x
    → slice_get (slice_set ss i y) i ≡ Some y
set_same ss i x y p =
    let within : i < length ss = slice_get_within ss i x p in
    let in_set : i < length (slice_set ss i y) = omega (arith, length-set ss i y) in
    slice_get-get_or (slice_set ss i y) i y in_set ∙ ap Some (get_or-set_same ss i y y within)

set_other : (ss : List Session) (i j : ℕ) (y : Session) → (j ≡ i → ⊥)
    → slice_get (slice_set ss i y) j ≡ slice_get ss j
set_other [] i j y e = refl
set_other (x ∷ xs) zero zero y e = absurd (e refl)
set_other (x ∷ xs) zero (suc j) y e = refl
set_other (x ∷ xs) (suc i) zero y e = refl
set_other (x ∷ xs) (suc i) (suc j) y e = set_other xs i j y (λ d. e (ap suc d))

own_at : (ss : List Session) (i c : ℕ) (x : Session) (o : Option Session) → slice_get ss i ≡ o → o ≡ Some x
    → last_in (slice_get (with_last_at ss i c o) i) ≡ c
own_at ss i c x None p q = cc
own_at ss i c x (Some y) p q = ap last_in (set_same ss i y (record y { last = c }) p)

last_own : (ss : List Session) (a c : ℕ) (x : Session) → session_of ss a ≡ Some x → last_of (with_last ss a c) a ≡ c
last_own ss zero c x p = cc
last_own ss (suc i) c x p = own_at ss i c x (slice_get ss i) refl p

other_at : (ss : List Session) (i j c : ℕ) (o : Option Session) → (j ≡ i → ⊥)
    → last_in (slice_get (with_last_at ss i c o) j) ≡ last_in (slice_get ss j)
other_at ss i j c None e = refl
other_at ss i j c (Some x) e = ap last_in (set_other ss i j (record x { last = c }) e)

last_other : (ss : List Session) (a b c : ℕ) → (b ≡ a → ⊥) → last_of (with_last ss a c) b ≡ last_of ss b
last_other ss zero b c e = refl
last_other ss (suc i) zero c e = refl
last_other ss (suc i) (suc j) c e = other_at ss i j c (slice_get ss i) (λ d. e (ap suc d))

-- an update, by whether it is of the actor

own_clock : (s : State) (u : Update) (a : ℕ) → u.actor ≡ a → IsNextUpdate s u → (u.first ≡ last_of s.sessions a + 1)
    × (last_of (with_last s.sessions u.actor (last_from u.first u.bodies)) a ≡ last_of s.sessions a + length u.bodies)
own_clock s u a own h =
    let known : session_of s.sessions a ≡ Some h.session = ap (session_of s.sessions) (sym own) ∙ h.known in
    let stood : last_of s.sessions a ≡ (h.session).last = ap last_in known in
    let now : last_of (with_last s.sessions u.actor (last_from u.first u.bodies)) a ≡ last_from u.first u.bodies
    = ap (λ (i : ℕ). last_of (with_last s.sessions i (last_from u.first u.bodies)) a) own
    ∙ last_own s.sessions a (last_from u.first u.bodies) h.session known in
    (h.first ∙ ap (λ (n : ℕ). n + 1) (sym stood), omega (arith, now, stood, h.first, h.some))

updated_on : (s : State) (u : Update) (us : List Update) (a : ℕ) (b : Bool) → (u.actor == a) ≡ b → IsNextUpdate s u
    → RunOn a (last_of (with_last s.sessions u.actor (last_from u.first u.bodies)) a) us
    → RunOn a (last_of s.sessions a) (u ∷ us)
updated_on s u us a true e h more =
    let own : u.actor ≡ a = eqb-true u.actor a e in
    let now = own_clock s u a own h in
    inl (record { own = own; first = now.0; more = subst (λ n. RunOn a n us) now.1 more })
updated_on s u us a false e h more =
    let other : u.actor ≡ a → ⊥ = eqb-false u.actor a e in
    let same = last_other s.sessions u.actor a (last_from u.first u.bodies) (λ d. other (sym d)) in
    inr (record { other = other; more = subst (λ n. RunOn a n us) same more })

pub run_on : (s : State) (es : List Entry) (a : ℕ) → IsValidLog s es → RunOn a (last_of s.sessions a) (updates_of es)
run_on s [] a h = tt
run_on s (Join actor key name ∷ es) a h =
    let new : Session = record { key = key; last = 0; name = name } in
    subst (λ n. RunOn a n (updates_of es)) (last_join s.sessions new a refl)
    (run_on (after s (Join actor key name)) es a h.1)
run_on s (Updated u ∷ es) a h =
    updated_on s u (updates_of es) a (u.actor == a) refl ((follows_exactly s u).0 h.0.0)
    (run_on (after s (Updated u)) es a h.1)

-- and none of them falls

after_own : (s : State) (u : Update) (a : ℕ) (b : Bool) → (u.actor == a) ≡ b → IsNextUpdate s u
    → last_of s.sessions a ≤ last_of (with_last s.sessions u.actor (last_from u.first u.bodies)) a
after_own s u a true e h =
    let own : u.actor ≡ a = eqb-true u.actor a e in
    let now = own_clock s u a own h in
    omega (arith, now.0, now.1)
after_own s u a false e h =
    let other : u.actor ≡ a → ⊥ = eqb-false u.actor a e in
    let same = last_other s.sessions u.actor a (last_from u.first u.bodies) (λ d. other (sym d)) in
    omega (arith, same)

pub last_rises : (s : State) (es : List Entry) (a : ℕ) → IsValidLog s es
    → last_of s.sessions a ≤ last_of (state_after s es).sessions a
last_rises s [] a h = omega arith
last_rises s (Join actor key name ∷ es) a h =
    let new : Session = record { key = key; last = 0; name = name } in
    let more = last_rises (after s (Join actor key name)) es a h.1 in
    omega (arith, more, last_join s.sessions new a refl)
last_rises s (Updated u ∷ es) a h =
    let now = after_own s u a (u.actor == a) refl ((follows_exactly s u).0 h.0.0) in
    let more = last_rises (after s (Updated u)) es a h.1 in
    omega (arith, now, more)
