-- A session begins or goes on: the connection k is given the actor of w.
use Rattle.std.proofs.Common.{◌≡◌, ℕ, zero, suc, ◌<◌, ◌≤◌, ◌⊎◌, inl, inr, true, false, List, [], ◌∷◌, ◌++◌, length, refl, sym, ap, ◌∙◌, subst, arith, append-nil, ⊎_elim}
use Rattle.std.specs.Prelude.{Option, Some, None, is_some, slice_get}
use Rattle.std.proofs.lemmas.Bool.{cases_eq}
use Rattle.std.specs.FinMap.{get}
use Rattle.room_msg.specs.declared.messages.Resume.{Resume}
use Rattle.room_msg.specs.declared.messages.ServerMsg.TheVariants as server
use Rattle.room_log.specs.Log.{State, Session, Update, last_of, last_in, session_of, updates_of}
use Rattle.room_model.specs.Account.{Dialled, Connected, Synced}
use Rattle.room_model.specs.Server.{Outbound, Message, Closed, Link, Inbound, has_session}
use Rattle.room_model.specs.World.{state_in, slot}
use Rattle.room_model.specs.Run.{Run, all_given, IsUndisturbed}
use Rattle.room_laws.specs.Ledger.{Silent}
use Rattle.room_laws.specs.Core.{actor}
use Rattle.room_laws.specs.Queues.{Place, IsOn, Waits}
use Rattle.room_laws.specs.Invariant
use Rattle.room_laws.proofs.Maps.{passes}
use Rattle.room_laws.proofs.Queues.{grown}
use Rattle.room_laws.proofs.Owns.{rest_is}
use Rattle.room_laws.proofs.RunSteps.{given_before, given_last, given_owner, given_else}
use Rattle.room_laws.proofs.Served.{served, fed}
use Rattle.room_laws.proofs.Sent.{present_said, present_left, present_closed}
use Rattle.room_laws.proofs.Calm.{SaidTo, passes_said}
use Rattle.room_laws.proofs.Stops.{own_same}
use Rattle.room_laws.proofs.Facts.{some_is, none_some}

-- sessions, after one more

pub last_join_at : (ss : List Session) (x : Session) (i : ℕ) → x.last ≡ 0 → last_in (slice_get (ss ++ x ∷ []) i) ≡ last_in (slice_get ss i)
last_join_at [] x zero e = e
last_join_at [] x (suc i) e = refl
last_join_at (y ∷ ss) x zero e = refl
last_join_at (y ∷ ss) x (suc i) e = last_join_at ss x i e

pub last_join : (ss : List Session) (x : Session) (b : ℕ) → x.last ≡ 0 → last_of (ss ++ x ∷ []) b ≡ last_of ss b
last_join ss x zero e = refl
last_join ss x (suc i) e = last_join_at ss x i e

pub slice_join : (ss : List Session) (x y : Session) (i : ℕ) → slice_get ss i ≡ Some y → slice_get (ss ++ x ∷ []) i ≡ Some y
slice_join [] x y i e = absurd (none_some e)
  where
    none_some : None ≡ Some y → ⊥
    none_some d = cc
slice_join (z ∷ ss) x y zero e = e
slice_join (z ∷ ss) x y (suc i) e = slice_join ss x y i e

pub session_join : (ss : List Session) (x y : Session) (a : ℕ) → session_of ss a ≡ Some y → session_of (ss ++ x ∷ []) a ≡ Some y
session_join ss x y zero e = e
session_join ss x y (suc i) e = slice_join ss x y i e

pub slice_new : (ss : List Session) (x : Session) → slice_get (ss ++ x ∷ []) (length ss) ≡ Some x
slice_new [] x = refl
slice_new (y ∷ ss) x = slice_new ss x

pub silent_within : (a n : ℕ) (us : List Update) → n < a → Invariant.Within n us → Silent a us
silent_within a n [] l w = tt
silent_within a n (u ∷ us) l w = record { other = λ e. absurd (omega (arith, w.actor)); more = silent_within a n us l w.more }

-- the connection that is welcomed
module _ (s : State) (us : List Update) (ss ts : List Session) (given more : List (ℕ × Option ℕ)) (c : ℕ) (session : Option Resume) (here : Place) (q : List Outbound) (l l' : Link) (w : Resume) (users : List (ℕ × List ℕ)) where
  pub present_room : l.actor ≡ None → l'.actor ≡ Some w.actor → l'.fetched ≡ false → last_of s.sessions w.actor ≡ 0
      → (session ≡ Some w) ⊎ record { unknown : session ≡ None; new : all_given c w.actor (given ++ more) ≡ true → Invariant.New s (us ++ []) ts w }
      → Invariant.Present s us ss given c session here q (Some l)
      → Invariant.Present s (us ++ []) ts (given ++ more) c session (grown [] here) (q ++ Message (server.RoomState w.actor w.key users) ∷ []) (Some l')
  present_room bare actor fetched begun named p = ⊎_elim begins (λ k. absurd (none_some (k.resume).actor (sym bare ∙ k.actor))) p.linked
    where
      begins : record { none : l.actor ≡ None; unfetched : l.fetched ≡ false; empty : q ≡ []; dialled : here.stage ≡ Dialled; whole : p.end.parts ≡ [] }
          → Invariant.Present s (us ++ []) ts (given ++ more) c session (grown [] here) (q ++ Message (server.RoomState w.actor w.key users) ∷ []) (Some l')
      begins k = record {
        who = Some w;
        named = named;
        known = λ i. absurd (subst IsOn k.dialled i);
        begun = begun;
        end = record (grown [] here) { stage = Connected };
        waits = rw k.empty (record { next = record (grown [] here) { stage = Connected }; says = record { before = k.dialled; mine = refl; place = refl }; more = refl });
        linked = inr (record { resume = w; some = refl; actor = actor; on = tt; whole = ap (λ (o : Place). o.parts) (subst (λ (d : List Outbound). Waits s p.who here d p.end) k.empty p.waits) ∙ k.whole; fetched = λ i. absurd (no (sym fetched ∙ i)) });
      }
        where
          no : false ≡ true → ⊥
          no i = cc

-- What becomes of the connections: k is given w, others that hold it are closed, and all others are told.
module _ (s : State) (r t : Run) (k : ℕ) (l l' : Link) (w : Resume) (users : List (ℕ × List ℕ)) (sends : ℕ → List Outbound) (inbounds : ℕ → List Inbound) (st : Invariant.Inv s r)
    (slots : (d : ℕ) → slot t.world d ≡ slot r.world d)
    (batches : (d : ℕ) → Invariant.issued_by t d ≡ Invariant.issued_by r d)
    (opened : t.world.opened ≡ r.world.opened)
    (log : updates_of t.log ≡ updates_of r.log)
    (given_is : t.given ≡ r.given ++ (w.actor, (Invariant.conn r.world k).owner) ∷ [])
    (hosts : Invariant.Hosts t.world.host)
    (logged : Invariant.Logged s (updates_of r.log) (state_in t.world.host))
    (conns : (j : ℕ) → Invariant.conn t.world j ≡ fed (Invariant.conn r.world j) (inbounds j) (sends j))
    (there : (j : ℕ) → is_some (get r.world.conns j) ≡ true → is_some (get t.world.conns j) ≡ true)
    (unopened : (j : ℕ) → r.world.opened < j → inbounds j ≡ [])
    (attached : Invariant.link r.world k ≡ Some l) (bare : l.actor ≡ None)
    (now : Invariant.link t.world k ≡ Some l') (actor_is : l'.actor ≡ Some w.actor) (fetched : l'.fetched ≡ false)
    (positive : 0 < w.actor) (within : w.actor ≤ length (Invariant.sessions t)) (many : length (Invariant.sessions r) ≤ length (Invariant.sessions t))
    (lasts : (b : ℕ) → last_of (Invariant.sessions t) b ≡ last_of (Invariant.sessions r) b)
    (stands : (v : Resume) → Invariant.Stands s (Invariant.sessions r) v → Invariant.Stands s (Invariant.sessions t) v)
    (sent : sends k ≡ Message (server.RoomState w.actor w.key users) ∷ [])
    (else : (j : ℕ) → (j ≡ k → ⊥) → ((Invariant.link t.world j ≡ Invariant.link r.world j) × (sends j ≡ passes has_session (Message (server.Joined w.actor)) (Invariant.link r.world j)) × (inbounds j ≡ (Invariant.conn r.world j).inbound))
    ⊎ ((Invariant.link t.world j ≡ None) × (inbounds j ≡ []) × ((code : ℕ) × ((text : List ℕ) × (sends j ≡ Closed code text ∷ [])))))
    -- an undisturbed client's hello was the only frame; its session goes on, or it has none yet and this one is new
    (popped : (d : ℕ) → (Invariant.conn r.world k).owner ≡ Some d → IsUndisturbed r d → (inbounds k ≡ []) × (((slot r.world d).present ≡ Some k) → last_of s.sessions w.actor ≡ 0) × (((slot r.world d).present ≡ Some k) → ((Invariant.core_of r.world d).session ≡ Some w) ⊎ (((Invariant.core_of r.world d).session ≡ None) × Invariant.New s (updates_of r.log) (Invariant.sessions t) w))) where
  abbrev us : List Update
  us = updates_of r.log

  abbrev more : List (ℕ × Option ℕ)
  more = (w.actor, (Invariant.conn r.world k).owner) ∷ []

  stays : (d : ℕ) (v : Resume) → (Invariant.core_of r.world d).session ≡ None → all_given d v.actor (r.given ++ more) ≡ true → Invariant.New s us (Invariant.sessions r) v → Invariant.New s (us ++ []) (Invariant.sessions t) v
  stays d v z u n = rw (append-nil us) (record { stands = stands v n.stands; unused = lasts v.actor ∙ n.unused; silent = n.silent })

  joined_said : (j : ℕ) → SaidTo (Invariant.link r.world j) (passes has_session (Message (server.Joined w.actor)) (Invariant.link r.world j))
  joined_said j = passes_said (Message (server.Joined w.actor)) (Invariant.link r.world j) (λ s w p on. record { on = on; place = refl })

  said_at : (d : ℕ) (session : Option Resume) (here : Place) (q ms : List Outbound) (o : Option Link) → session ≡ (Invariant.core_of r.world d).session → SaidTo o ms
      → Invariant.Present s us (Invariant.sessions r) r.given d session here q o → Invariant.Present s (us ++ []) (Invariant.sessions t) (r.given ++ more) d session (grown [] here) (q ++ ms) o
  said_at d session here q ms None e f p = rw (f.bare tt) (present_left s us (Invariant.sessions r) r.given more d session here q [] (Invariant.sessions t) None (λ v z u n. stays d v (sym e ∙ z) u n) p)
  said_at d session here q ms (Some m) e f p = present_said s us (Invariant.sessions r) r.given more d session here q (Invariant.sessions t) ms m (λ v z u n. stays d v (sym e ∙ z) u n) f.bare f.said p

  present_at : (d j : ℕ) → IsUndisturbed r d → (slot r.world d).present ≡ Some j → (here : Place) → (j ≡ k) ⊎ (j ≡ k → ⊥)
      → Invariant.Present s us (Invariant.sessions r) r.given d (Invariant.core_of r.world d).session here (Invariant.conn r.world j).outbound (Invariant.link r.world j)
      → Invariant.Present s (us ++ []) (Invariant.sessions t) (r.given ++ more) d (Invariant.core_of r.world d).session (grown [] here) ((Invariant.conn r.world j).outbound ++ sends j) (Invariant.link t.world j)
  present_at d j u e here (inl i) p =
      let at_k : (slot r.world d).present ≡ Some k = e ∙ ap Some i in
      let f = popped d (st.shape.present d k at_k).owner u in
      rw i (rw (sent, now) (present_room s us (Invariant.sessions r) (Invariant.sessions t) r.given more d (Invariant.core_of r.world d).session here (Invariant.conn r.world k).outbound l l' w users bare actor_is fetched (f.1 at_k)
      (⊎_elim (λ g. inl g) (λ g. inr (record { unknown = g.0; new = λ z. rw (append-nil us) g.1 })) (f.2 at_k))
      (subst (λ (o : Option Link). Invariant.Present s us (Invariant.sessions r) r.given d (Invariant.core_of r.world d).session here (Invariant.conn r.world k).outbound o) attached
      (subst (λ n. Invariant.Present s us (Invariant.sessions r) r.given d (Invariant.core_of r.world d).session here (Invariant.conn r.world n).outbound (Invariant.link r.world n)) i p))))
  present_at d j u e here (inr i) p = ⊎_elim
      (λ f. rw (f.0, f.1) (said_at d (Invariant.core_of r.world d).session here (Invariant.conn r.world j).outbound (passes has_session (Message (server.Joined w.actor)) (Invariant.link r.world j)) (Invariant.link r.world j) refl (joined_said j) p))
      (λ f. rw (f.0, f.2.1.1) (present_closed s us (Invariant.sessions r) r.given more d (Invariant.core_of r.world d).session here (Invariant.conn r.world j).outbound (Invariant.sessions t) f.2.0 f.2.1.0 (Invariant.link r.world j) (stays d) p))
      (else j i)

  tried_le : (d : ℕ) → IsUndisturbed r d → (o : Option ℕ) → (slot r.world d).present ≡ o → o ≡ Some k → Invariant.tried (Invariant.core_of r.world d) ≤ last_of (Invariant.sessions r) (actor (Invariant.core_of r.world d))
  tried_le d u o e i =
      let h = st.client d u in
      let p : Invariant.Present s us (Invariant.sessions r) r.given d (Invariant.core_of r.world d).session (Invariant.place (Invariant.core_of r.world d) h.done h.coming) (Invariant.conn r.world k).outbound (Some l) =
      subst (λ (m : Option Link). Invariant.Present s us (Invariant.sessions r) r.given d (Invariant.core_of r.world d).session (Invariant.place (Invariant.core_of r.world d) h.done h.coming) (Invariant.conn r.world k).outbound m) attached
      (subst (λ (n : Option ℕ). Invariant.Standing s us (Invariant.sessions r) r.given d n (Invariant.core_of r.world d).session (Invariant.place (Invariant.core_of r.world d) h.done h.coming) (Invariant.present_outbound r.world n) (Invariant.present_link r.world n)) (e ∙ i) h.standing) in
      let told = (rest_is s us (last_of (Invariant.sessions r) (actor (Invariant.core_of r.world d))) (Invariant.core_of r.world d) (Invariant.issued_by r d) h.done h.coming h.own).above in
      ⊎_elim
      (λ g. ⊎_elim (λ sync. absurd (no (sym g.dialled ∙ sync))) (λ none. rw none told) h.own.unsent)
      (λ g. absurd (none_some (g.resume).actor (sym bare ∙ g.actor)))
      p.linked
    where
      no : Dialled ≡ Synced → ⊥
      no i = cc

  inbounds_at : (d j : ℕ) → (j ≡ k) ⊎ (j ≡ k → ⊥) → (Invariant.conn r.world j).owner ≡ Some d → IsUndisturbed r d
      → Invariant.Inbounds ((slot r.world d).present ≡ Some j) (Invariant.core_of r.world d).session (Invariant.tried (Invariant.core_of r.world d)) (Invariant.issued_by r d)
      (last_of (Invariant.sessions t) (actor (Invariant.core_of r.world d))) (Invariant.link t.world j) (inbounds j)
  inbounds_at d j (inl i) o u =
      let f = popped d (subst (λ n. (Invariant.conn r.world n).owner ≡ Some d) i o) u in
      rw i (rw (now, f.0) (rw actor_is (record {
        some = positive;
        reach = last_of (Invariant.sessions t) (actor (Invariant.core_of r.world d));
        order = refl;
        sent = λ n. rw (lasts (actor (Invariant.core_of r.world d))) (tried_le d u (slot r.world d).present refl n);
      })))
  inbounds_at d j (inr i) o u = ⊎_elim
      (λ f. rw (f.0, f.2, lasts (actor (Invariant.core_of r.world d))) (st.inbounds d j o u))
      (λ f. rw (f.0, f.1) refl)
      (else j i)

  link_at : (j : ℕ) (m : Link) → (j ≡ k) ⊎ (j ≡ k → ⊥) → Invariant.link t.world j ≡ Some m → ((j ≡ k) × (m ≡ l')) ⊎ (Invariant.link r.world j ≡ Some m)
  link_at j m (inl i) e = inl (i, some_is m l' (sym e ∙ subst (λ n. Invariant.link t.world n ≡ Some l') (sym i) now))
  link_at j m (inr i) e = inr (⊎_elim (λ f. sym f.0 ∙ e) (λ f. absurd (none_some m (sym f.0 ∙ e))) (else j i))

  pub keeps_welcome : Invariant.Inv s t
  keeps_welcome = served s r t [] more sends inbounds st (record {
    slots = slots;
    batches = batches;
    opened = opened;
    log = log ∙ sym (append-nil us);
    given_is = given_is;
    conns = conns;
    there = there;
    hosts = hosts;
    unopened = unopened;
    attached = λ j m e. ⊎_elim (λ f. (l, ap (λ n. Invariant.link r.world n) f.0 ∙ attached)) (λ f. (m, f)) (link_at j m (cases_eq j k) e);
    logged = rw (append-nil us) logged;
    given = λ j a m e f d g. ⊎_elim
        (λ i. ap (λ n. (Invariant.conn r.world n).owner) i.0 ∙ given_owner d w.actor (Invariant.conn r.world k).owner
        (given_last d w.actor r.given more (subst (λ b. all_given d b (r.given ++ more) ≡ true) (some_is a w.actor (sym f ∙ ap (λ (z : Link). z.actor) i.1 ∙ actor_is)) g)))
        (λ i. st.given j a m i f d (given_before d a r.given more g))
        (link_at j m (cases_eq j k) e);
    actors = λ j a m e f. ⊎_elim
        (λ i. let same : a ≡ w.actor = some_is a w.actor (sym f ∙ ap (λ (z : Link). z.actor) i.1 ∙ actor_is) in (subst (λ n. 0 < n) (sym same) positive, subst (λ n. n ≤ length (Invariant.sessions t)) (sym same) within))
        (λ i. let old = st.actors j a m i f in (old.0, omega (arith, old.1, many)))
        (link_at j m (cases_eq j k) e);
    nobody = λ c. given_else c 0 w.actor (Invariant.conn r.world k).owner (λ e. absurd (omega (arith, positive)));
    owns = λ d u h. own_same s us (last_of (Invariant.sessions t) (actor (Invariant.core_of r.world d))) (Invariant.core_of r.world d) (Invariant.issued_by r d) h.done h.coming
        (subst (λ n. Invariant.Own s us n (Invariant.core_of r.world d) (Invariant.issued_by r d) h.done h.coming) (sym (lasts (actor (Invariant.core_of r.world d)))) h.own);
    stands = stands;
    presents = λ d j u e here z h p. present_at d j (given_before d (actor (Invariant.core_of r.world d)) r.given more u) e here (cases_eq j k) p;
    inbounds_are = λ d j o u. inbounds_at d j (cases_eq j k) o (given_before d (actor (Invariant.core_of r.world d)) r.given more u);
  })
