-- What a server takes: the operations of the actor, from its next clock on.
use Rattle.std.proofs.Common.{◌≡◌, ℕ, suc, ◌+◌, ◌<◌, Bool, true, false, cond, ◌==◌, List, [], ◌∷◌, length, refl, sym, ap, ◌∙◌, arith}
use Rattle.std.specs.Prelude.{Option, Some, None}
use Rattle.std.proofs.lemmas.Bool.{eqb-true}
use Rattle.room_nodes.specs.declared.nodes.Op.{Op}
use Rattle.room_nodes.specs.Steps.{settle_all}
use Rattle.room_log.specs.Log.{State, Update, clock_of, bodies_of, last_of}
use Rattle.room_log.specs.Taking.{Takes, take, rest_beyond, gap_in, taken_rest}

pub record Taking (s : State) (a : ℕ) (u : Update) : Type 0 where
  pub actor : u.actor ≡ a
  pub first : u.first ≡ last_of s.sessions a + 1
  pub some : 0 < length u.bodies

is_that : (u v : Update) → Takes u ≡ Takes v → u ≡ v
is_that u v e = cc

begins_at : (b : Bool) (e c : ℕ) (g : Option (ℕ × ℕ)) → cond b g (Some (e, c)) ≡ None → b ≡ true
begins_at true e c g p = refl
begins_at false e c g p = cc

above : (n m : ℕ) → suc m ≡ n → 0 < n
above n m e = omega (arith, e)

taking_rest : (s : State) (a : ℕ) (rest : List Op) (g : Option (ℕ × ℕ)) (u : Update) → gap_in (last_of s.sessions a + 1) rest ≡ g → taken_rest s a rest g ≡ Takes u → Taking s a u
taking_rest s a [] g u e p = cc
taking_rest s a (o ∷ os) (Some g) u e p = cc
taking_rest s a (o ∷ os) None u e p =
    let q = is_that (record { actor = a; first = clock_of o; bodies = settle_all s.tree (bodies_of (o ∷ os)) }) u p in
    record {
      actor = sym (ap (λ (v : Update). v.actor) q);
      first = sym (ap (λ (v : Update). v.first) q) ∙ eqb-true (clock_of o) (last_of s.sessions a + 1) (begins_at (clock_of o == (last_of s.sessions a + 1)) (last_of s.sessions a + 1) (clock_of o) (gap_in (last_of s.sessions a + 1 + 1) os) e);
      some = above (length u.bodies) _ (ap (λ (v : Update). length v.bodies) q);
    }

pub taking : (s : State) (a : ℕ) (os : List Op) (u : Update) → take s a os ≡ Takes u → Taking s a u
taking s a os u p = taking_rest s a (rest_beyond (last_of s.sessions a) os) (gap_in (last_of s.sessions a + 1) (rest_beyond (last_of s.sessions a) os)) u refl p
