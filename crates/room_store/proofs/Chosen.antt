-- What is taken of operations, by what is new of them.
use Rattle.std.proofs.Common.{◌≡◌, ◌==◌, ◌≤◌, ◌<◌, ◌+◌, ℕ, zero, suc, Bool, true, false, List, [], ◌∷◌, length, refl, sym, ap, ◌∙◌, arith}
use Rattle.std.specs.Prelude.{cond, nat_le, Option, Some, None, IsSome, slice_get}
use Rattle.std.proofs.lemmas.Bool.Decides.{nat_tests}
use Rattle.room_nodes.specs.declared.nodes.Op.{Op}
use Rattle.room_nodes.specs.Steps.{settle_all}
use Rattle.room_nodes.specs.Shallow.{AreShallowOps}
use Rattle.room_nodes.specs.Sound.{AreSoundOps}
use Rattle.room_log.specs.Log.{Session, State, Join, Update, Updated, clock_of, bodies_of, last_of, last_in, session_of}
use Rattle.room_log.specs.Follows.{most, most_actor, AreValidSessions, IsValidState, IsNext, follows}
use Rattle.room_log.specs.Laws.{TakenFollows}
use Rattle.room_store.specs.Planning.{news_in, new_update}
use Rattle.room_store.specs.declared.taking.News.TheVariants as here
use Rattle.room_log.specs.Taking.{Nothing, Gap, Takes, gap_in, rest_beyond, take, taken_rest}

taken_at : (s : State) (a last : ℕ) (os : List Op) → last ≡ last_of s.sessions a → taken_rest s a (rest_beyond last os) (gap_in (last + 1) (rest_beyond last os)) ≡ take s a os
taken_at s a last os at = ap (λ (n : ℕ). taken_rest s a (rest_beyond n os) (gap_in (n + 1) (rest_beyond n os))) at

by_nothing : (s : State) (a : ℕ) (rest : List Op) (gap : Option (ℕ × ℕ)) → news_in rest gap ≡ here.Nothing → taken_rest s a rest gap ≡ Nothing
by_nothing s a [] gap is = refl
by_nothing s a (o ∷ os) (Some g) is = cc is
by_nothing s a (o ∷ os) None is = cc is

pub takes_nothing : (s : State) (a last : ℕ) (os : List Op) → last ≡ last_of s.sessions a → news_in (rest_beyond last os) (gap_in (last + 1) (rest_beyond last os)) ≡ here.Nothing
    → take s a os ≡ Nothing
takes_nothing s a last os at is = sym (taken_at s a last os at) ∙ by_nothing s a (rest_beyond last os) (gap_in (last + 1) (rest_beyond last os)) is

by_gap : (s : State) (a e g : ℕ) (rest : List Op) (gap : Option (ℕ × ℕ)) → news_in rest gap ≡ here.Gap e g → taken_rest s a rest gap ≡ Gap e g
by_gap s a e g [] gap is = cc is
by_gap s a e g (o ∷ os) (Some h) is = cc is
by_gap s a e g (o ∷ os) None is = cc is

pub takes_gap : (s : State) (a last e g : ℕ) (os : List Op) → last ≡ last_of s.sessions a → news_in (rest_beyond last os) (gap_in (last + 1) (rest_beyond last os)) ≡ here.Gap e g
    → take s a os ≡ Gap e g
takes_gap s a last e g os at is = sym (taken_at s a last os at) ∙ by_gap s a e g (rest_beyond last os) (gap_in (last + 1) (rest_beyond last os)) is

runs_on : (b : Bool) (e c : ℕ) (g : Option (ℕ × ℕ)) → cond b g (Some (e, c)) ≡ None → b ≡ true
runs_on true e c g is = refl
runs_on false e c g is = cc is

same_clock : (m n : ℕ) → (m == n) ≡ true → m ≡ n
same_clock m n e = grind (arith, nat_tests)

abbrev update : State → ℕ → ℕ → List Op → Update
update s a first rest = record { actor = a; first = first; bodies = settle_all s.tree (bodies_of rest) }

by_run : (s : State) (a first : ℕ) (rest : List Op) (gap : Option (ℕ × ℕ)) → gap_in first rest ≡ gap → news_in rest gap ≡ here.RunOn → taken_rest s a rest gap ≡ Takes (update s a first rest)
by_run s a first [] gap at is = cc is
by_run s a first (o ∷ os) (Some g) at is = cc is
by_run s a first (o ∷ os) None at is =
    ap (λ (n : ℕ). Takes (update s a n (o ∷ os))) (same_clock (clock_of o) first (runs_on (clock_of o == first) first (clock_of o) (gap_in (first + 1) os) at))

pub takes_update : (s : State) (a last : ℕ) (os : List Op) → last ≡ last_of s.sessions a → news_in (rest_beyond last os) (gap_in (last + 1) (rest_beyond last os)) ≡ here.RunOn
    → take s a os ≡ Takes (new_update s.tree a last os)
takes_update s a last os at is =
    sym (taken_at s a last os at) ∙ by_run s a (last + 1) (rest_beyond last os) (gap_in (last + 1) (rest_beyond last os)) refl is

-- the last clock of a session of a valid state is in range

got_most : (ss : List Session) (i : ℕ) → AreValidSessions ss → last_in (slice_get ss i) ≤ most
got_most [] i valid = omega arith
got_most (s ∷ ss) zero valid = valid.0.last
got_most (s ∷ ss) (suc i) valid = got_most ss i valid.1

pub last_most : (ss : List Session) (a : ℕ) → AreValidSessions ss → last_of ss a ≤ most
last_most ss zero valid = omega arith
last_most ss (suc i) valid = got_most ss i valid

-- what a planning does, by its choice

some_session : (o : Option Session) → IsSome o → (s : Session) × (o ≡ Some s)
some_session None is = cc is
some_session (Some s) is = (s, refl)

pub next_taken : TakenFollows → (s : State) (a limit : ℕ) (u : Update) (os : List Op) → IsValidState s → IsSome (session_of s.sessions a) → AreSoundOps os → AreShallowOps os
    → take s a os ≡ Takes u → s.count < limit → limit ≤ most → IsNext s (Updated u)
next_taken law s a limit u os valid known sound shallow takes below bound =
    let x = some_session (session_of s.sessions a) known in
    law s a os u x.0 valid x.1 sound shallow takes (omega (arith, below, bound))

pub run_next : TakenFollows → (s : State) (a last limit : ℕ) (os : List Op) → IsValidState s → last ≡ last_of s.sessions a
    → news_in (rest_beyond last os) (gap_in (last + 1) (rest_beyond last os)) ≡ here.RunOn → IsSome (session_of s.sessions a) → AreSoundOps os → AreShallowOps os
    → s.count < limit → limit ≤ most → IsNext s (Updated (new_update s.tree a last os))
run_next law s a last limit os valid at is known sound shallow below bound =
    next_taken law s a limit (new_update s.tree a last os) os valid known sound shallow (takes_update s a last os at is) below bound

pub join_follows : (s : State) (actor key : ℕ) (name : List ℕ) → actor ≡ length s.sessions + 1 → actor ≤ most_actor → follows s (Join actor key name) ≡ true
join_follows s actor key name at le =
    let one : (actor == suc (length s.sessions)) ≡ true = grind (arith, nat_tests) in
    let two : nat_le actor most_actor ≡ true = grind (arith, nat_tests) in
    rw (one, two) refl
