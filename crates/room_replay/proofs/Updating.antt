-- An update follows, where each of its operations is settled and all else is as it has to be.
use Rattle.std.proofs.Common.{◌≡◌, ◌≤◌, ◌<◌, ◌+◌, ℕ, Bool, true, false, List, [], ◌∷◌, length, refl, sym, ap, ◌∙◌, arith}
use Rattle.std.specs.Prelude.{cond, ◌&&◌, ◌==◌, nat_le, nat_lt, Option, Some, None, option_map}
use Rattle.std.proofs.lemmas.Bool.Decides.{nat_tests}
use Rattle.room_nodes.specs.declared.nodes.Body.{Body}
use Rattle.room_nodes.specs.Equal.{same_body, same_bodies}
use Rattle.room_nodes.specs.Shallow.{all_shallow}
use Rattle.room_nodes.specs.Shape.{Nodes}
use Rattle.room_nodes.specs.Steps.{settled_body, settle_all, step, fold}
use Rattle.room_log.specs.Log.{State, Session, Update, Updated, session_of, last_from, updated, with_last}
use Rattle.room_log.specs.Follows.{follows_session, most}
use Rattle.room_log.proofs.Same.{body_same}
use Rattle.room_replay.specs.Files.{followed_by}
use Rattle.room_replay.specs.Follow.{settled_fold}

settled_case : (t : Nodes) (b : Body) (bs : List Body) (e : Bool) → same_body (settled_body t b) b ≡ e
    → (settled_fold (step t b) bs ≡ cond (same_bodies (settle_all (step t b) bs) bs) (Some (fold (step t b) bs)) None)
    → cond e (settled_fold (step t b) bs) None
    ≡ cond (e && same_bodies (settle_all (step t (settled_body t b)) bs) bs) (Some (fold (step t b) bs)) None
settled_case t b bs false is rest = refl
settled_case t b bs true is rest =
    rest ∙ ap (λ c. cond (same_bodies (settle_all (step t c) bs) bs) (Some (fold (step t b) bs)) None) (sym ((body_same (settled_body t b) b).0 is))

pub settled_fold_is : (t : Nodes) (bs : List Body) → settled_fold t bs ≡ cond (same_bodies (settle_all t bs) bs) (Some (fold t bs)) None
settled_fold_is t [] = refl
settled_fold_is t (b ∷ bs) = settled_case t b bs (same_body (settled_body t b) b) refl (settled_fold_is (step t b) bs)

-- the state with a tree
abbrev pub with_tree : State → Update → Nodes → State
with_tree s u t = record {
  count = s.count + 1;
  sessions = with_last s.sessions u.actor (last_from u.first u.bodies);
  tree = t;
}

followed_case : (s : State) (u : Update) (e : Bool)
    → cond (e && true) (Some (updated s u)) None ≡ option_map (with_tree s u) (cond e (Some (fold s.tree u.bodies)) None)
followed_case s u true = refl
followed_case s u false = refl

same_number : (m n : ℕ) → m ≡ n → (m == n) ≡ true
same_number m n e = grind (arith, nat_tests)

at_most : (m n : ℕ) → m ≤ n → nat_le m n ≡ true
at_most m n e = grind (arith, nat_tests)

below : (m n : ℕ) → m < n → nat_lt m n ≡ true
below m n e = grind (arith, nat_tests)

tested : (a b c d e f : Bool) → a ≡ true → b ≡ true → d ≡ true → e ≡ true → f ≡ true → (a && (b && (c && (d && (e && f))))) ≡ (c && true)
tested a b c d e f p q r s v = rw (p, q, r, s, v) refl

pub update_followed : (s : State) (u : Update) (session : Session) → session_of s.sessions u.actor ≡ Some session
    → u.first ≡ session.last + 1 → 0 < length u.bodies → all_shallow u.bodies ≡ true → last_from u.first u.bodies ≤ most → s.count < most
    → followed_by s (Updated u) ≡ option_map (with_tree s u) (settled_fold s.tree u.bodies)
update_followed s u session known first some shallow last count =
    ap (λ o. cond (follows_session s u o) (Some (updated s u)) None) known
    ∙ ap (λ e. cond e (Some (updated s u)) None)
    (tested _ _ (same_bodies (settle_all s.tree u.bodies) u.bodies) _ _ _ (same_number u.first (session.last + 1) first)
    (below 0 (length u.bodies) some) shallow (at_most (last_from u.first u.bodies) most last) (below s.count most count))
    ∙ followed_case s u (same_bodies (settle_all s.tree u.bodies) u.bodies)
    ∙ ap (option_map (with_tree s u)) (sym (settled_fold_is s.tree u.bodies))

-- by the last clock of its actor

known_last : (o : Option Session) (last : ℕ) → Some last ≡ option_map (λ (s : Session). s.last) o → (session : Session) × ((o ≡ Some session) × (session.last ≡ last))
known_last None last is = cc is
known_last (Some session) last is = (session, (refl, cc is))

pub update_known : (s : State) (u : Update) (last : ℕ) (t : Option Nodes) → Some last ≡ option_map (λ (s : Session). s.last) (session_of s.sessions u.actor)
    → u.first ≡ last + 1 → 0 < length u.bodies → all_shallow u.bodies ≡ true → last_from u.first u.bodies ≤ most → s.count < most
    → t ≡ settled_fold s.tree u.bodies → option_map (with_tree s u) t ≡ followed_by s (Updated u)
update_known s u last t known first some shallow bound count steps =
    let k = known_last (session_of s.sessions u.actor) last known in
    ap (option_map (with_tree s u)) steps
    ∙ sym (update_followed s u k.0 k.1.0 (first ∙ ap (λ n. n + 1) (sym k.1.1)) some shallow bound count)

pub updated_to : (count last : ℕ) (ss held : List Session) (t : Nodes) (u : Update) → held ≡ with_last ss u.actor (last + length u.bodies) → u.first ≡ last + 1
    → ◌≡◌ {A = Option State} (Some (record { count = count + 1; sessions = held; tree = t })) (option_map (with_tree (record { count = count; sessions = ss; tree = t }) u) (Some t))
updated_to count last ss held t u is first =
    let at : last + length u.bodies ≡ last_from u.first u.bodies = omega (arith, first) in
    ap (λ (l : List Session). Some (record { count = count + 1; sessions = l; tree = t })) (is ∙ ap (with_last ss u.actor) at)
