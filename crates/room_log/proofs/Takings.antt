-- What was taken is taken once.
use Rattle.std.proofs.Common.{◌≡◌, ℕ, zero, suc, ◌+◌, ◌<◌, ◌≤◌, Bool, true, false, cond, nat_lt, List, [], ◌∷◌, length, Option, Some, None, refl, ap, ◌∙◌, arith, ◌==◌}
use Rattle.std.specs.Prelude.{slice_get, slice_set}
use Rattle.std.proofs.lemmas.Bool.{eqb-true, eqb-false, ltb-true, ltb-false}
use Rattle.std.proofs.lemmas.Bool.Decides.{nat_tests}
use Rattle.std.proofs.lemmas.Option.{slice_get_within, slice_get-get_or}
use Rattle.std.proofs.lemmas.List.{get_or-set_same}
use Rattle.std.proofs.Math.ListN.{length-set}
use Rattle.room_nodes.specs.declared.nodes.Op.{Op}
use Rattle.room_nodes.specs.declared.nodes.Body.{Body}
use Rattle.room_nodes.specs.Shape.{Nodes}
use Rattle.room_nodes.specs.Steps.{step, settled_body, settle_all}
use Rattle.room_log.specs.Log.{Session, State, Update, Updated, clock_of, bodies_of, session_of, last_in, last_of, last_from, with_last, with_last_at, after}
use Rattle.room_log.specs.Taking.{Nothing, Takes, rest_beyond, gap_in, taken_rest}
use Rattle.room_log.specs.Laws.{TakenOnce}

ruleset tests = (eqb-true, eqb-false, ltb-true, ltb-false)

settle_length : (t : Nodes) (bs : List Body) → length (settle_all t bs) ≡ length bs
settle_length t [] = refl
settle_length t (b ∷ bs) = ap suc (settle_length (step t (settled_body t b)) bs)

bodies_length : (os : List Op) → length (bodies_of os) ≡ length os
bodies_length [] = refl
bodies_length (o ∷ os) = ap suc (bodies_length os)

-- operations up to m leave nothing beyond m

pub kept_none : (b : Bool) (e c : ℕ) (g : Option (ℕ × ℕ)) → cond b g (Some (e, c)) ≡ None → (b ≡ true) × (g ≡ None)
kept_none true e c g p = (refl, p)
kept_none false e c g p = cc

-- one operation of a list: by whether it was beyond the last clock
upto_step : (last e m : ℕ) (o : Op) (os : List Op) (b : Bool) → nat_lt last (clock_of o) ≡ b → last ≤ m
    → ((e : ℕ) → gap_in e (rest_beyond last os) ≡ None → e + length (rest_beyond last os) ≤ m + 1 → rest_beyond m os ≡ [])
    → gap_in e (cond b (o ∷ rest_beyond last os) (rest_beyond last os)) ≡ None
    → e + length (cond b (o ∷ rest_beyond last os) (rest_beyond last os)) ≤ m + 1 → rest_beyond m (o ∷ os) ≡ []
upto_step last e m o os true t l k p q =
    let r = kept_none (clock_of o == e) e (clock_of o) (gap_in (e + 1) (rest_beyond last os)) p in
    let below : nat_lt m (clock_of o) ≡ false = grind (arith, nat_tests, r.0) in
    rw below (k (e + 1) r.1 (omega arith))
upto_step last e m o os false t l k p q =
    let below : nat_lt m (clock_of o) ≡ false = grind (arith, nat_tests, t) in
    rw below (k e p q)

upto : (last m : ℕ) (os : List Op) → last ≤ m → (e : ℕ) → gap_in e (rest_beyond last os) ≡ None → e + length (rest_beyond last os) ≤ m + 1 → rest_beyond m os ≡ []
upto last m [] l e p q = refl
upto last m (o ∷ os) l e p q = upto_step last e m o os (nat_lt last (clock_of o)) refl l (upto last m os l) p q

-- the last clock after an update of a session

slice_got : (ss : List Session) (i : ℕ) (s t : Session) → slice_get ss i ≡ Some s → slice_get (slice_set ss i t) i ≡ Some t
slice_got ss i s t p =
    let within : i < length ss = slice_get_within ss i s p in
    let in_set : i < length (slice_set ss i t) = omega (arith, length-set ss i t) in
    slice_get-get_or (slice_set ss i t) i t in_set ∙ ap Some (get_or-set_same ss i t t within)

last_set : (ss : List Session) (i c : ℕ) (s : Session) (o : Option Session) → slice_get ss i ≡ o → o ≡ Some s → last_in (slice_get (with_last_at ss i c o) i) ≡ c
last_set ss i c s None p q = cc
last_set ss i c s (Some t) p q = ap last_in (slice_got ss i t (record t { last = c }) p)

last_with : (ss : List Session) (a c : ℕ) (s : Session) → session_of ss a ≡ Some s → last_of (with_last ss a c) a ≡ c
last_with ss zero c s p = cc
last_with ss (suc i) c s p = last_set ss i c s (slice_get ss i) refl p

-- what an update that is taken says of the operations that were left
pub record Took (s : State) (a : ℕ) (rest : List Op) (gap : Option (ℕ × ℕ)) (u : Update) : Type 0 where
  pub none : gap ≡ None
  pub actor : u.actor ≡ a
  pub some : 0 < length rest
  pub first : (e : ℕ) → gap_in e rest ≡ None → u.first ≡ e
  pub count : length u.bodies ≡ length rest

pub first_clock : (o : Op) (os : List Op) (e : ℕ) → gap_in e (o ∷ os) ≡ None → clock_of o ≡ e
first_clock o os e p = eqb-true (clock_of o) e (kept_none (clock_of o == e) e (clock_of o) (gap_in (e + 1) os) p).0

pub takes_of : (s : State) (a : ℕ) (rest : List Op) (gap : Option (ℕ × ℕ)) (u : Update) → taken_rest s a rest gap ≡ Takes u → Took s a rest gap u
takes_of s a [] gap u p = cc
takes_of s a (o ∷ os) (Some g) u p = cc
takes_of s a (o ∷ os) None u p = record {
  none = refl;
  actor = cc;
  some = omega arith;
  first = λ e g. let q = first_clock o os e g in cc;
  count = cc (settle_length s.tree (bodies_of (o ∷ os)), bodies_length (o ∷ os));
}

nothing_left : (s : State) (a : ℕ) (rest : List Op) (gap : Option (ℕ × ℕ)) → rest ≡ [] → taken_rest s a rest gap ≡ Nothing
nothing_left s a [] gap p = refl
nothing_left s a (o ∷ os) gap p = cc

pub taken_once : TakenOnce
taken_once s a os u session known p =
    let last = last_of s.sessions a in
    let t : Took s a (rest_beyond last os) (gap_in (last + 1) (rest_beyond last os)) u = takes_of s a (rest_beyond last os) _ u p in
    let begins : u.first ≡ last + 1 = t.first (last + 1) t.none in
    let ends : last_of (after s (Updated u)).sessions a ≡ last_from u.first u.bodies =
    ap (λ b. last_of (with_last s.sessions b (last_from u.first u.bodies)) a) t.actor ∙ last_with s.sessions a (last_from u.first u.bodies) session known in
    let gone : rest_beyond (last_of (after s (Updated u)).sessions a) os ≡ [] =
    ap (λ m. rest_beyond m os) ends ∙ upto last (last_from u.first u.bodies) os (omega (arith, begins, t.some, t.count)) (last + 1) t.none (omega (arith, begins, t.some, t.count)) in
    nothing_left (after s (Updated u)) a (rest_beyond (last_of (after s (Updated u)).sessions a) os) _ gone
