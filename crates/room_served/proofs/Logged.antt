-- From what a step says to what the log has.
use Rattle.std.proofs.Common.{◌≡◌, ◌+◌, ◌<◌, ◌==◌, ◌&&◌, nat_le, ℕ, zero, suc, Bool, true, false, List, [], ◌∷◌, ◌++◌}
use Rattle.std.proofs.Common.{length, refl, sym, ap, ◌∙◌, subst, arith, append_assoc, ⊎_elim, ◌⊎◌, inl, inr}
use Rattle.std.specs.Prelude.{Option, Some, None, slice_get, slice_set}
use Rattle.std.proofs.lemmas.Bool.{cases_eq}
use Rattle.std.proofs.lemmas.Option.{slice_get_within, slice_get-get_or}
use Rattle.std.proofs.lemmas.List.{get_or-set_same}
use Rattle.std.proofs.Math.ListN.{length-set}
use Rattle.std.proofs.lemmas.Bool.{eqb-true}
use Rattle.room_msg.specs.declared.messages.ServerMsg.{ServerMsg}
use Rattle.room_msg.specs.declared.messages.ServerMsg.TheVariants as server
use Rattle.room_log.specs.Log.{Session, State, Update, Entry, Join, Updated, after, state_after, session_of, updates_of}
use Rattle.room_log.specs.Log.{with_last, with_last_at, last_from}
use Rattle.room_log.specs.Follows.{IsValidLog, most_actor}
use Rattle.room_model.specs.Server.{Outbound, Pong, Message, Closed}
use Rattle.room_model.specs.World.{entries_in}
use Rattle.room_laws.proofs.Facts.{some_is, none_some}
use Rattle.room_served.specs.Laws.{IsKnown, HasJoined, IsLoggedMessage, IsLogged, AreLogged}
use Rattle.room_served.proofs.Says.{SaysMessage, Says, AllSay}

updates_of-append : (es fs : List Entry) → updates_of (es ++ fs) ≡ updates_of es ++ updates_of fs
updates_of-append [] fs = refl
updates_of-append (Join a key name ∷ es) fs = updates_of-append es fs
updates_of-append (Updated u ∷ es) fs = ap (λ us. u ∷ us) (updates_of-append es fs)

-- sessions with another last clock of one of them

set_same : (ss : List Session) (i : ℕ) (x y : Session) → slice_get ss i ≡ Some x
    → slice_get (slice_set ss i y) i ≡ Some y
set_same ss i x y p =
    let within : i < length ss = slice_get_within ss i x p in
    let in_set : i < length (slice_set ss i y) = omega (arith, length-set ss i y) in
    slice_get-get_or (slice_set ss i y) i y in_set ∙ ap Some (get_or-set_same ss i y y within)

set_other : (ss : List Session) (i j : ℕ) (y : Session) → (j ≡ i → ⊥) → slice_get (slice_set ss i y) j ≡ slice_get ss j
set_other [] i j y e = refl
set_other (x ∷ xs) zero zero y e = absurd (e refl)
set_other (x ∷ xs) zero (suc j) y e = refl
set_other (x ∷ xs) (suc i) zero y e = refl
set_other (x ∷ xs) (suc i) (suc j) y e = set_other xs i j y (λ d. e (ap suc d))

same_at : (ss : List Session) (i c : ℕ) (x : Session) (o : Option Session) → slice_get ss i ≡ o → o ≡ Some x
    → slice_get (with_last_at ss i c o) i ≡ Some (record x { last = c })
same_at ss i c x None p q = absurd (none_some x q)
same_at ss i c x (Some y) p q =
    set_same ss i y (record y { last = c }) p ∙ ap (λ (z : Session). Some (record z { last = c })) (some_is y x q)

session_same : (ss : List Session) (a c : ℕ) (x : Session) → session_of ss a ≡ Some x
    → session_of (with_last ss a c) a ≡ Some (record x { last = c })
session_same ss zero c x p = absurd (none_some x p)
session_same ss (suc i) c x p = same_at ss i c x (slice_get ss i) refl p

other_at : (ss : List Session) (i j c : ℕ) (o : Option Session) → (j ≡ i → ⊥)
    → slice_get (with_last_at ss i c o) j ≡ slice_get ss j
other_at ss i j c None e = refl
other_at ss i j c (Some x) e = set_other ss i j (record x { last = c }) e

session_other : (ss : List Session) (a b c : ℕ) → (b ≡ a → ⊥) → session_of (with_last ss a c) b ≡ session_of ss b
session_other ss zero b c e = refl
session_other ss (suc i) zero c e = refl
session_other ss (suc i) (suc j) c e = other_at ss i j c (slice_get ss i) (λ d. e (ap suc d))

-- a session that is there after an entry was there before, with the same key, or joined

pub record Before (ss : List Session) (a : ℕ) (x : Session) : Type 0 where
  pub session : Session
  pub known : session_of ss a ≡ Some session
  pub same : session.key ≡ x.key

none_at : (ss : List Session) (i c : ℕ) (o : Option Session) → slice_get ss i ≡ o → o ≡ None
    → slice_get (with_last_at ss i c o) i ≡ None
none_at ss i c None p q = p
none_at ss i c (Some y) p q = absurd (none_some y (sym q))

none_same : (ss : List Session) (a c : ℕ) → session_of ss a ≡ None → session_of (with_last ss a c) a ≡ None
none_same ss zero c p = refl
none_same ss (suc i) c p = none_at ss i c (slice_get ss i) refl p

own : (ss : List Session) (a c : ℕ) (x : Session) (o : Option Session) → session_of ss a ≡ o
    → session_of (with_last ss a c) a ≡ Some x → Before ss a x
own ss a c x None p e = absurd (none_some x (sym (none_same ss a c p) ∙ e))
own ss a c x (Some y) p e =
    let is : record y { last = c } ≡ x = some_is (record y { last = c }) x (sym (session_same ss a c y p) ∙ e) in
    record { session = y; known = p; same = ap (λ (z : Session). z.key) is }

before_update : (ss : List Session) (b c a : ℕ) (x : Session) → session_of (with_last ss b c) a ≡ Some x → Before ss a x
before_update ss b c a x e = ⊎_elim
    (λ (i : a ≡ b). own ss a c x (session_of ss a) refl
    (subst (λ z. session_of (with_last ss z c) a ≡ Some x) (sym i) e))
    (λ (i : a ≡ b → ⊥). record { session = x; known = sym (session_other ss b a c i) ∙ e; same = refl })
    (cases_eq a b)

got : (ss : List Session) (z : Session) (i : ℕ) (x : Session) → slice_get (ss ++ z ∷ []) i ≡ Some x
    → (slice_get ss i ≡ Some x) ⊎ ((i ≡ length ss) × (z ≡ x))
got [] z zero x e = inr (refl, some_is z x e)
got [] z (suc i) x e = absurd (none_some x e)
got (s ∷ ss) z zero x e = inl e
got (s ∷ ss) z (suc i) x e =
    ⊎_elim (λ p. inl p) (λ (p : (i ≡ length ss) × (z ≡ x)). inr (ap suc p.0, p.1)) (got ss z i x e)

before_join : (ss : List Session) (z : Session) (a : ℕ) (x : Session) → session_of (ss ++ z ∷ []) a ≡ Some x
    → (session_of ss a ≡ Some x) ⊎ ((a ≡ suc (length ss)) × (z ≡ x))
before_join ss z zero x e = absurd (none_some x e)
before_join ss z (suc i) x e =
    ⊎_elim (λ p. inl p) (λ (p : (i ≡ length ss) × (z ≡ x)). inr (ap suc p.0, p.1)) (got ss z i x e)

left : (a b : Bool) → (a && b) ≡ true → a ≡ true
left true b e = refl
left false b e = e

-- a session that the log leads to is one of the first state, or joined

behind : (e : Entry) (es : List Entry) (a key : ℕ) → HasJoined es a key → HasJoined (e ∷ es) a key
behind e es a key j = record { before = e ∷ j.before; name = j.name; behind = j.behind; at = ap (λ l. e ∷ l) j.at }

known_from : (s : State) (log : List Entry) (a key : ℕ) → IsValidLog s log → IsKnown (state_after s log) a key
    → IsKnown s a key ⊎ HasJoined log a key
known_from s [] a key valid k = inl k
known_from s (Join b bkey name ∷ es) a key valid k =
    ⊎_elim on_known (λ j. inr (behind (Join b bkey name) es a key j))
    (known_from (after s (Join b bkey name)) es a key valid.1 k)
  where
    new : Session
    new = record { key = bkey; last = 0; name = name }

    on_known : IsKnown (after s (Join b bkey name)) a key → IsKnown s a key ⊎ HasJoined (Join b bkey name ∷ es) a key
    on_known h = ⊎_elim
        (λ (p : session_of s.sessions a ≡ Some h.session).
        inl (record { session = h.session; known = p; same = h.same }))
        (λ (p : (a ≡ suc (length s.sessions)) × (new ≡ h.session)).
        let actor : b ≡ a =
        eqb-true b (suc (length s.sessions)) (left (b == suc (length s.sessions)) (nat_le b most_actor) valid.0.0)
        ∙ sym p.0 in
        let keys : bkey ≡ key = ap (λ (z : Session). z.key) p.1 ∙ h.same in
        inr (record {
          before = [];
          name = name;
          behind = es;
          at = ap (λ z. Join z bkey name ∷ es) actor
              ∙ ap (λ z. Join a z name ∷ es) keys;
        }))
        (before_join s.sessions new a h.session h.known)
known_from s (Updated u ∷ es) a key valid k =
    ⊎_elim on_known (λ j. inr (behind (Updated u) es a key j)) (known_from (after s (Updated u)) es a key valid.1 k)
  where
    on_known : IsKnown (after s (Updated u)) a key → IsKnown s a key ⊎ HasJoined (Updated u ∷ es) a key
    on_known h =
        let was = before_update s.sessions u.actor (last_from u.first u.bodies) a h.session h.known in
        inl (record { session = was.session; known = was.known; same = was.same ∙ h.same })

-- numbers of updates

count_after : (s : State) (es : List Entry) → (state_after s es).count ≡ s.count + length (updates_of es)
count_after s [] = omega arith
count_after s (Join a key name ∷ es) = count_after (after s (Join a key name)) es
count_after s (Updated u ∷ es) = let r = count_after (after s (Updated u)) es in omega (arith, r)

-- a log that goes on

joined_more : (log more : List Entry) (a key : ℕ) → HasJoined log a key → HasJoined (log ++ more) a key
joined_more log more a key j = record {
  before = j.before;
  name = j.name;
  behind = j.behind ++ more;
  at = ap (λ l. l ++ more) j.at ∙ append_assoc j.before (Join a key j.name ∷ j.behind) more;
}

message_more : (s : State) (log more : List Entry) (m : ServerMsg) → IsLoggedMessage s log m
    → IsLoggedMessage s (log ++ more) m
message_more s log more (server.Presence a target patch) h = tt
message_more s log more (server.Joined a) h = tt
message_more s log more (server.Left a) h = tt
message_more s log more (server.Broadcast a e) h = tt
message_more s log more (server.RoomState a key users) h =
    ⊎_elim (λ k. inl k) (λ j. inr (joined_more log more a key j)) h
message_more s log more (server.State seq last items parts) h = tt
message_more s log more (server.Update seq os) h = record {
  before = h.before;
  update = h.update;
  behind = h.behind ++ updates_of more;
  at = updates_of-append log more ∙ ap (λ l. l ++ updates_of more) h.at
      ∙ append_assoc h.before (h.update ∷ h.behind) (updates_of more);
  number = h.number;
  ops = h.ops;
}

logged_more : (s : State) (log more : List Entry) (o : Outbound) → IsLogged s log o → IsLogged s (log ++ more) o
logged_more s log more Pong h = tt
logged_more s log more (Message m) h = message_more s log more m h
logged_more s log more (Closed code text) h = tt

pub all_more : (s : State) (log more : List Entry) (os : List (ℕ × Outbound)) → AreLogged s log os
    → AreLogged s (log ++ more) os
all_more s log more [] h = tt
all_more s log more (o ∷ os) h = (logged_more s log more o.1 h.0, all_more s log more os h.1)

pub logged-append : (s : State) (log : List Entry) (os ps : List (ℕ × Outbound)) → AreLogged s log os
    → AreLogged s log ps → AreLogged s log (os ++ ps)
logged-append s log [] ps h k = k
logged-append s log (o ∷ os) ps h k = (h.0, logged-append s log os ps h.1 k)

-- what a step says is in the log with its entry

module _ (s : State) (log : List Entry) (e : Option Entry) (valid : IsValidLog s log) where
  message_logged : (m : ServerMsg) → SaysMessage (state_after s log) e m → IsLoggedMessage s (log ++ entries_in e) m
  message_logged (server.Presence a target patch) h = tt
  message_logged (server.Joined a) h = tt
  message_logged (server.Left a) h = tt
  message_logged (server.Broadcast a event) h = tt
  message_logged (server.RoomState a key users) h = ⊎_elim
      (λ k. ⊎_elim (λ (i : IsKnown s a key). inl i) (λ j. inr (joined_more log (entries_in e) a key j))
      (known_from s log a key valid k))
      (λ j. inr (record { before = log; name = j.name; behind = []; at = ap (λ d. log ++ entries_in d) j.entry }))
      h
  message_logged (server.State seq last items more) h = tt
  message_logged (server.Update seq os) h =
      let u = h.0 in
      record {
        before = updates_of log;
        update = u;
        behind = [];
        at = ap (λ d. updates_of (log ++ entries_in d)) h.1.entry ∙ updates_of-append log (Updated u ∷ []);
        number = h.1.number ∙ ap (λ n. n + 1) (count_after s log);
        ops = h.2;
      }

  one_logged : (o : Outbound) → Says (state_after s log) e o → IsLogged s (log ++ entries_in e) o
  one_logged Pong h = tt
  one_logged (Message m) h = message_logged m h
  one_logged (Closed code text) h = tt

  pub all_logged : (os : List (ℕ × Outbound)) → AllSay (state_after s log) e os → AreLogged s (log ++ entries_in e) os
  all_logged [] h = tt
  all_logged (o ∷ os) h = (one_logged o.1 h.0, all_logged os h.1)
