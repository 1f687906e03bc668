-- The test of an update says what follows.
use Rattle.std.proofs.Common.{◌≡◌, ℕ, ◌+◌, ◌≤◌, Bool, true, nat_le, List, [], ◌∷◌, length, Option, Some, None, refl, sym, ap, ◌∙◌, arith}
use Rattle.std.specs.Bool.{Decides}
use Rattle.std.proofs.lemmas.Bool.Decides.{Decides-and, Decides-eqb, Decides-ltb, Decides-like, nat_tests}
use Rattle.room_nodes.specs.declared.nodes.Body.{Body}
use Rattle.room_nodes.specs.Shallow.{AreShallow, all_shallow, is_shallow}
use Rattle.room_nodes.specs.Steps.{settle_all}
use Rattle.room_nodes.proofs.Gets.{some_inj, some_none}
use Rattle.room_log.specs.Log.{Session, State, Update, session_of, last_from}
use Rattle.room_log.specs.Follows.{IsNextUpdate, follows_session, most}
use Rattle.room_log.specs.Laws.{FollowsExactly}
use Rattle.room_log.proofs.Same.{bodies_same}

pub Decides-le : (m n : ℕ) → Decides (nat_le m n) (m ≤ n)
Decides-le m n = (λ e. grind (arith, nat_tests), λ h. grind (arith, nat_tests))

bool_same : (b : Bool) → Decides b (b ≡ true)
bool_same b = (λ e. e, λ e. e)

shallow_all : (bs : List Body) → Decides (all_shallow bs) (AreShallow bs)
shallow_all [] = (λ e. tt, λ h. refl)
shallow_all (b ∷ bs) = Decides-and _ _ (bool_same (is_shallow b)) (shallow_all bs)

-- by the session that the actor has
exact_at : (s : State) (u : Update) (o : Option Session) → session_of s.sessions u.actor ≡ o → Decides (follows_session s u o) (IsNextUpdate s u)
exact_at s u None p = (λ e. cc, λ n. absurd (some_none n.session (sym n.known ∙ p)))
exact_at s u (Some session) p =
    let parts = Decides-and _ _ (Decides-eqb u.first (session.last + 1)) (Decides-and _ _ (Decides-ltb 0 (length u.bodies))
    (Decides-and _ _ (bodies_same (settle_all s.tree u.bodies) u.bodies)
    (Decides-and _ _ (shallow_all u.bodies) (Decides-and _ _ (Decides-le (last_from u.first u.bodies) most) (Decides-ltb s.count most))))) in
    Decides-like _
    (λ h. record {
      session = session;
      known = p;
      first = h.0;
      some = h.1.0;
      settled = h.1.1.0;
      shallow = h.1.1.1.0;
      last = h.1.1.1.1.0;
      count = omega (arith, h.1.1.1.1.1);
    })
    (λ n. (n.first ∙ ap (λ (x : Session). x.last + 1) (some_inj n.session session (sym n.known ∙ p)), (n.some, (n.settled, (n.shallow, (n.last, omega (arith, n.count)))))))
    parts

pub follows_exactly : FollowsExactly
follows_exactly s u = exact_at s u (session_of s.sessions u.actor) refl
