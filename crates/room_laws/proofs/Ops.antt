-- What is left of a frame's operations.
use Rattle.std.proofs.Common.{◌≡◌, ℕ, ◌+◌, ◌<◌, ◌≤◌, true, false, nat_lt, List, [], ◌∷◌, length, refl, ap, arith}
use Rattle.std.specs.Prelude.{None}
use Rattle.std.proofs.lemmas.Bool.{eq-eqb}
use Rattle.std.proofs.lemmas.Bool.Decides.{nat_tests}
use Rattle.room_nodes.specs.declared.nodes.Body.{Body}
use Rattle.room_nodes.specs.Steps.{settle_all}
use Rattle.room_log.specs.Log.{ops_from, op_of, bodies_of, last_of, State}
use Rattle.room_log.specs.Taking.{Nothing, Takes, rest_beyond, gap_in, take}
use Rattle.room_model.specs.Server.{foreign_in}

-- a batch that the log has is dropped
pub all_old : (last a f : ℕ) (bs : List Body) → f + length bs ≤ last + 1 → rest_beyond last (ops_from a f bs) ≡ []
all_old last a f [] h = refl
all_old last a f (b ∷ bs) h =
    let t : nat_lt last f ≡ false = grind (arith, nat_tests) in
    rw t (all_old last a (f + 1) bs (omega arith))

-- and the next one stays whole
pub all_new : (last a f : ℕ) (bs : List Body) → last < f → rest_beyond last (ops_from a f bs) ≡ ops_from a f bs
all_new last a f [] h = refl
all_new last a f (b ∷ bs) h =
    let t : nat_lt last f ≡ true = grind (arith, nat_tests) in
    rw t (ap (λ os. op_of a f b ∷ os) (all_new last a (f + 1) bs (omega arith)))

pub runs : (a f : ℕ) (bs : List Body) → gap_in f (ops_from a f bs) ≡ None
runs a f [] = refl
runs a f (b ∷ bs) = rw (eq-eqb f f refl) (runs a (f + 1) bs)

pub all_mine : (a f : ℕ) (bs : List Body) → foreign_in a (ops_from a f bs) ≡ None
all_mine a f [] = refl
all_mine a f (b ∷ bs) = rw (eq-eqb a a refl) (all_mine a (f + 1) bs)

pub bodies_again : (a f : ℕ) (bs : List Body) → bodies_of (ops_from a f bs) ≡ bs
bodies_again a f [] = refl
bodies_again a f (b ∷ bs) = ap (λ cs. b ∷ cs) (bodies_again a (f + 1) bs)

-- what is taken of a batch that the log has, and of the next one
pub take_old : (s : State) (a f : ℕ) (bs : List Body) → f + length bs ≤ last_of s.sessions a + 1 → take s a (ops_from a f bs) ≡ Nothing
take_old s a f bs h = rw (all_old (last_of s.sessions a) a f bs h) refl

pub take_new : (s : State) (a f : ℕ) (b : Body) (bs : List Body) → f ≡ last_of s.sessions a + 1
    → take s a (ops_from a f (b ∷ bs)) ≡ Takes (record { actor = a; first = f; bodies = settle_all s.tree (b ∷ bs) })
take_new s a f b bs h =
    rw (all_new (last_of s.sessions a) a f (b ∷ bs) (omega arith))
    (rw (← h) (rw (runs a f (b ∷ bs)) (rw (bodies_again a (f + 1) bs) refl)))
