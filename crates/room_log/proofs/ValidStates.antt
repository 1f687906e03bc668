-- The empty state is valid, and a valid entry leads from a valid state to a valid state.
use Rattle.std.proofs.Common.{◌≡◌, ◌≤◌, ◌==◌, ◌&&◌, ℕ, zero, suc, nat_le, nat_cmp, Bool, true, false, cond, List, [], ◌∷◌, ◌++◌, length, length-append, Option, Some, None, refl, sym, ap, ◌∙◌, subst, rules, arith}
use Rattle.std.specs.Prelude.{slice_get, slice_set}
use Rattle.std.proofs.Math.ListN.{length-set}
use Rattle.std.proofs.lemmas.Bool.Decides.{Decides-and, Decides-eqb}
use Rattle.std.specs.Cmp.Lexicographic.{slice_cmp}
use Rattle.std.specs.List.Sorted.{IsStrictlySortedBy}
use Rattle.std.specs.FinMap.{get, get-from_sorted}
use Rattle.room_ids.specs.Laws.{IsNodeInRange}
use Rattle.room_ids.specs.Order.{is_same, node_cmp}
use Rattle.room_ids.specs.declared.ids.NodeId.{NodeId}
use Rattle.room_ids.specs.declared.ids.NodeId.TheVariants.{Root}
use Rattle.room_nodes.specs.declared.nodes.Node.{Node}
use Rattle.room_nodes.specs.Shallow.{is_shallow_kind}
use Rattle.room_nodes.specs.Shape.{bare_root, empty_tree}
use Rattle.room_nodes.specs.Sound.{IsSoundNode}
use Rattle.room_nodes.proofs.EmptyTree.{formed-empty}
use Rattle.room_nodes.proofs.Gets.{same, some_inj}
use Rattle.room_nodes.proofs.Steps.{formed-fold}
use Rattle.room_steps.specs.Laws.{KeepsShallow, KeepsSound}
use Rattle.room_log.specs.Log.{empty_state, Session, State, Entry, Join, Updated, last_from, with_last, with_last_at, after, state_after}
use Rattle.room_log.specs.Follows.{AreValidSessions, IsNext, IsNextUpdate, IsValidLog, IsValidSession, IsValidState, most, most_actor}
use Rattle.room_log.specs.Laws.{ValidAfter}
use Rattle.room_log.proofs.Following.{Decides-le, follows_exactly}

-- the empty state

empty_has : (x : NodeId) (n : Node) → get empty_tree x ≡ Some n → (x ≡ Root) × (n ≡ bare_root)
empty_has x n e = by_root (is_same x Root) refl (sym (get-from_sorted node_cmp ((Root, bare_root) ∷ []) x tt) ∙ e)
  where
    by_root : (b : Bool) → is_same x Root ≡ b → cond b (Some bare_root) None ≡ Some n → (x ≡ Root) × (n ≡ bare_root)
    by_root true p q = (same x Root p, some_inj n bare_root (sym q))
    by_root false p q = cc

none_in_order : IsStrictlySortedBy (slice_cmp nat_cmp) []
unfolding IsStrictlySortedBy
none_in_order = tt

bare_sound : IsSoundNode bare_root
bare_sound = record { parent = tt; key = search rules; kind = record { ordered = none_in_order; json = tt } }

valid_empty : IsValidState empty_state
valid_empty = record {
  formed = formed-empty;
  sound = λ x n e. let h = empty_has x n e in (subst IsNodeInRange (sym h.0) tt, subst IsSoundNode (sym h.1) bare_sound);
  shallow = λ x n e. ap (λ (m : Node). is_shallow_kind m.kind) (empty_has x n e).1;
  count = omega arith;
  sessions = tt;
  actors = omega arith;
}

-- sessions

valid-append : (ss : List Session) (s : Session) → AreValidSessions ss → IsValidSession s → AreValidSessions (ss ++ s ∷ [])
valid-append [] s h k = (k, tt)
valid-append (x ∷ xs) s h k = (h.0, valid-append xs s h.1 k)

valid-set : (ss : List Session) (i : ℕ) (s : Session) → AreValidSessions ss → IsValidSession s → AreValidSessions (slice_set ss i s)
valid-set [] i s h k = h
valid-set (x ∷ xs) zero s h k = (k, h.1)
valid-set (x ∷ xs) (suc i) s h k = (h.0, valid-set xs i s h.1 k)

valid-get : (ss : List Session) (i : ℕ) (s : Session) → AreValidSessions ss → slice_get ss i ≡ Some s → IsValidSession s
valid-get [] i s h p = cc
valid-get (x ∷ xs) zero s h p = subst IsValidSession (some_inj x s p) h.0
valid-get (x ∷ xs) (suc i) s h p = valid-get xs i s h.1 p

valid-at : (ss : List Session) (i c : ℕ) (o : Option Session) → slice_get ss i ≡ o → AreValidSessions ss → c ≤ most → AreValidSessions (with_last_at ss i c o)
valid-at ss i c None p h k = h
valid-at ss i c (Some s) p h k =
    let old = valid-get ss i s h p in
    valid-set ss i (record s { last = c }) h (record { key = old.key; last = k; name = old.name })

valid-with : (ss : List Session) (a c : ℕ) → AreValidSessions ss → c ≤ most → AreValidSessions (with_last ss a c)
valid-with ss zero c h k = h
valid-with ss (suc i) c h k = valid-at ss i c (slice_get ss i) refl h k

length-at : (ss : List Session) (i c : ℕ) (o : Option Session) → length (with_last_at ss i c o) ≡ length ss
length-at ss i c None = refl
length-at ss i c (Some s) = length-set ss i (record s { last = c })

length-with : (ss : List Session) (a c : ℕ) → length (with_last ss a c) ≡ length ss
length-with ss zero c = refl
length-with ss (suc i) c = length-at ss i c (slice_get ss i)

length-joined : (ss : List Session) (s : Session) (actor : ℕ) → ((actor == suc (length ss)) && nat_le actor most_actor) ≡ true → length (ss ++ s ∷ []) ≤ most_actor
length-joined ss s actor e =
    let parts = (Decides-and _ _ (Decides-eqb actor (suc (length ss))) (Decides-le actor most_actor)).0 e in
    omega (arith, parts, length-append ss (s ∷ []))

-- entries

valid_next : KeepsSound → KeepsShallow → (s : State) (e : Entry) → IsValidState s → IsNext s e → IsValidState (after s e)
valid_next keeps shallows s (Join actor key name) v n = record {
  formed = v.formed;
  sound = v.sound;
  shallow = v.shallow;
  count = v.count;
  sessions = valid-append s.sessions (record { key = key; last = 0; name = name }) v.sessions (record { key = n.1.0; last = omega arith; name = n.1.1 });
  actors = length-joined s.sessions (record { key = key; last = 0; name = name }) actor n.0;
}
valid_next keeps shallows s (Updated u) v n =
    let next : IsNextUpdate s u = (follows_exactly s u).0 n.0 in
    record {
      formed = formed-fold s.tree v.formed u.bodies;
      sound = keeps.fold s.tree u.bodies v.formed v.sound n.1;
      shallow = shallows.fold s.tree u.bodies v.shallow next.shallow;
      count = next.count;
      sessions = valid-with s.sessions u.actor (last_from u.first u.bodies) v.sessions next.last;
      actors = omega (arith, v.actors, length-with s.sessions u.actor (last_from u.first u.bodies));
    }

valid_all : KeepsSound → KeepsShallow → (s : State) (es : List Entry) → IsValidState s → IsValidLog s es → IsValidState (state_after s es)
valid_all keeps shallows s [] v h = v
valid_all keeps shallows s (e ∷ es) v h = valid_all keeps shallows (after s e) es (valid_next keeps shallows s e v h.0) h.1

pub valid_after : KeepsSound → KeepsShallow → ValidAfter
valid_after keeps shallows = record { empty = valid_empty; entry = valid_next keeps shallows; log = valid_all keeps shallows }
