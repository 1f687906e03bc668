-- An update is committed.
use Rattle.std.proofs.Common.{◌≡◌, ℕ, zero, suc, ◌+◌, ◌<◌, ◌≤◌, ◌⊎◌, inl, inr, true, cond, ◌==◌, List, [], ◌∷◌, ◌++◌, length, refl, sym, ap, ◌∙◌, subst, arith, append-nil, length-append}
use Rattle.std.specs.Prelude.{Option, Some, None, is_some, slice_get, slice_set}
use Rattle.std.proofs.lemmas.Bool.{cases_eq, eq-eqb, ne_eqb}
use Rattle.std.proofs.lemmas.Option.{slice_get_within, slice_get-get_or}
use Rattle.std.proofs.lemmas.List.{get_or-set_same}
use Rattle.std.proofs.Math.ListN.{length-set}
use Rattle.std.specs.FinMap.{FinMap, get, entries}
use Rattle.std.specs.Ordering.{nat_cmp}
use Rattle.room_nodes.specs.Steps
use Rattle.room_items.specs.Items.{tree_in, items_of}
use Rattle.room_msg.specs.declared.messages.Resume.{Resume}
use Rattle.room_msg.specs.declared.messages.ServerMsg.TheVariants as server
use Rattle.room_nodes.specs.Steps.{settle_all}
use Rattle.room_log.specs.Log.{State, Session, Update, Updated, last_after, last_from, last_of, last_in, session_of, with_last, with_last_at, updated, updates_of, ops_of}
use Rattle.room_model.specs.Account.{Batch, actor_in}
use Rattle.room_model.specs.Server.{Server, Outbound, Message, Link, Inbound, has_fetched, to_each}
use Rattle.room_model.specs.World.{World, Conn, Host, Running, Fuse, state_in, links_of, deliver, stopped, slot, slot_in}
use Rattle.room_model.specs.Run.{Run, all_given, IsUndisturbed}
use Rattle.room_laws.specs.Ledger.{Silent}
use Rattle.room_laws.specs.Core.{actor}
use Rattle.room_laws.specs.Invariant
use Rattle.room_laws.proofs.Advance.{tree_after-append}
use Rattle.room_laws.proofs.Matches.{length-settle_all}
use Rattle.room_laws.proofs.Maps.{mine, passes, to_each_of, deliver_there, get_none, emptied_at, hushed}
use Rattle.room_laws.proofs.Stops.{keeps_stopping}
use Rattle.room_laws.proofs.Queues.{order_raise}
use Rattle.room_laws.proofs.Owns.{own_other, own_next}
use Rattle.room_laws.proofs.RunSteps.{updates_of-append, given_before}
use Rattle.room_laws.proofs.Served.{served, ClientOf}
use Rattle.room_laws.proofs.Sent.{present_news}
use Rattle.room_laws.proofs.Calm.{inbounds_after}
use Rattle.room_laws.proofs.Leaving.{delivered, inbounds_passed}
use Rattle.room_laws.proofs.Facts.{some_is, none_some}

-- sessions

set_same : (ss : List Session) (i : ℕ) (x y : Session) → slice_get ss i ≡ Some x → slice_get (slice_set ss i y) i ≡ Some y
set_same ss i x y p =
    let within : i < length ss = slice_get_within ss i x p in
    let in_set : i < length (slice_set ss i y) = omega (arith, length-set ss i y) in
    slice_get-get_or (slice_set ss i y) i y in_set ∙ ap Some (get_or-set_same ss i y y within)

set_other : (ss : List Session) (i j : ℕ) (y : Session) → (j ≡ i → ⊥) → slice_get (slice_set ss i y) j ≡ slice_get ss j
set_other [] i j y e = refl
set_other (x ∷ xs) zero zero y e = absurd (e refl)
set_other (x ∷ xs) zero (suc j) y e = refl
set_other (x ∷ xs) (suc i) zero y e = refl
set_other (x ∷ xs) (suc i) (suc j) y e = set_other xs i j y (λ d. e (ap suc d))

length_with_at : (ss : List Session) (i c : ℕ) (o : Option Session) → length (with_last_at ss i c o) ≡ length ss
length_with_at ss i c None = refl
length_with_at ss i c (Some x) = length-set ss i (record x { last = c })

pub length_with : (ss : List Session) (a c : ℕ) → length (with_last ss a c) ≡ length ss
length_with ss zero c = refl
length_with ss (suc i) c = length_with_at ss i c (slice_get ss i)

-- the session of the actor has the new clock, and all others stay
session_same_at : (ss : List Session) (i c : ℕ) (x : Session) (o : Option Session) → slice_get ss i ≡ o → o ≡ Some x → slice_get (with_last_at ss i c o) i ≡ Some (record x { last = c })
session_same_at ss i c x None p q = absurd (none_some x q)
session_same_at ss i c x (Some y) p q = set_same ss i y (record y { last = c }) p ∙ ap (λ (z : Session). Some (record z { last = c })) (some_is y x q)

pub session_same : (ss : List Session) (a c : ℕ) (x : Session) → session_of ss a ≡ Some x → session_of (with_last ss a c) a ≡ Some (record x { last = c })
session_same ss zero c x p = absurd (none_some x p)
session_same ss (suc i) c x p = session_same_at ss i c x (slice_get ss i) refl p

session_other_at : (ss : List Session) (i j c : ℕ) (o : Option Session) → (j ≡ i → ⊥) → slice_get (with_last_at ss i c o) j ≡ slice_get ss j
session_other_at ss i j c None e = refl
session_other_at ss i j c (Some x) e = set_other ss i j (record x { last = c }) e

pub session_other : (ss : List Session) (a b c : ℕ) → (b ≡ a → ⊥) → session_of (with_last ss a c) b ≡ session_of ss b
session_other ss zero b c e = refl
session_other ss (suc i) zero c e = refl
session_other ss (suc i) (suc j) c e = session_other_at ss i j c (slice_get ss i) (λ d. e (ap suc d))

last_after-append : (a c : ℕ) (us vs : List Update) → last_after a c (us ++ vs) ≡ last_after a (last_after a c us) vs
last_after-append a c [] vs = refl
last_after-append a c (u ∷ us) vs = last_after-append a (cond (u.actor == a) (last_from u.first u.bodies) c) us vs

within_push : (n m : ℕ) (us : List Update) (u : Update) → n ≡ m → Invariant.Within n us → u.actor ≤ m → Invariant.Within m (us ++ u ∷ [])
within_push n m [] u e w l = record { actor = l; more = tt }
within_push n m (v ∷ us) u e w l = record { actor = rw (← e) w.actor; more = within_push n m us u e w.more l }

silent_push : (a : ℕ) (us : List Update) (u : Update) → (u.actor ≡ a → ⊥) → Silent a us → Silent a (us ++ u ∷ [])
silent_push a [] u e h = record { other = e; more = tt }
silent_push a (v ∷ us) u e h = record { other = h.other; more = silent_push a us u e h.more }

-- the log went on by another way: inbound queues go on standing
pub inbounds_raise : (now : Type 0) (w : Option Resume) (tried : ℕ) (all : List Batch) (c d : ℕ) (l : Option Link) (q : List Inbound) → c ≤ d → Invariant.Inbounds now w tried all c l q → Invariant.Inbounds now w tried all d l q
inbounds_raise now w tried all c d None q l u = u
inbounds_raise now w tried all c d (Some k) q l u = at k.actor u
  where
    at : (a : Option ℕ) → Invariant.InboundAt now w tried all c a q → Invariant.InboundAt now w tried all d a q
    at None u = record { resume = u.resume; is = u.is; old = u.old; current = u.current }
    at (Some a) u =
        let r = order_raise a (actor_in w) all c d q u.reach l u.order in
        record { some = u.some; reach = r.reach; order = r.order; sent = λ n. omega (arith, u.sent n, r.far) }

-- what an update is to the client whose connection sent it: its next batch
pub record Next (s : State) (r : Run) (u : Update) (d : ℕ) (h : ClientOf s r d) : Type 0 where
  pub own : u.actor ≡ actor (Invariant.core_of r.world d)
  pub batch : Batch
  pub more : List Batch
  pub next : h.own.ledger.rest ≡ batch ∷ more
  pub first : u.first ≡ batch.first
  pub bodies : u.bodies ≡ settle_all (state_in r.world.host).tree batch.bodies

module _ (s : State) (r : Run) (v : Server) (k : ℕ) (l : Link) (u : Update) (x : Session) (qs : FinMap nat_cmp Conn) (inbounds : ℕ → List Inbound) (fuse : Option Fuse) (st : Invariant.Inv s r)
    (runs : r.world.host ≡ Running v) (attached : get v.links k ≡ Some l) (named : l.actor ≡ Some u.actor)
    (known : session_of v.state.sessions u.actor ≡ Some x) (first : u.first ≡ x.last + 1) (some : 0 < length u.bodies)
    (spelled : tree_in (items_of (updated v.state u).tree) ≡ Some (updated v.state u).tree)
    (conns : (j : ℕ) → Invariant.conn_in (get qs j) ≡ record (Invariant.conn r.world j) { inbound = inbounds j })
    (there : (j : ℕ) → is_some (get r.world.conns j) ≡ true → is_some (get qs j) ≡ true)
    (else : (j : ℕ) → (j ≡ k → ⊥) → inbounds j ≡ (Invariant.conn r.world j).inbound)
    (unopened : (j : ℕ) → r.world.opened < j → inbounds j ≡ [])
    (owned : (d : ℕ) → (Invariant.conn r.world k).owner ≡ Some d → IsUndisturbed r d → (h : ClientOf s r d) → Next s r u d h)
    (popped : (d : ℕ) → (Invariant.conn r.world k).owner ≡ Some d → IsUndisturbed r d → Invariant.Inbounds ((slot r.world d).present ≡ Some k) (Invariant.core_of r.world d).session (Invariant.tried (Invariant.core_of r.world d)) (Invariant.issued_by r d)
    (last_of (updated v.state u).sessions (actor (Invariant.core_of r.world d))) (Some l) (inbounds k)) where
  abbrev outs : List (ℕ × Outbound)
  outs = to_each has_fetched (Message (server.Update (v.state.count + 1) (ops_of u))) (entries v.links)

  abbrev t : Run
  t = record r {
    world = record (r.world) { host = Running (record v { state = updated v.state u }); fuse = fuse; conns = deliver qs (to_each has_fetched (Message (server.Update (v.state.count + 1) (ops_of u))) (entries v.links)) };
    log = r.log ++ Updated u ∷ [];
  }

  abbrev us : List Update
  us = updates_of r.log

  state_is : state_in r.world.host ≡ v.state
  state_is = ap state_in runs

  logged : Invariant.Logged s us v.state
  logged = subst (λ (z : State). Invariant.Logged s us z) state_is st.logged

  link_is : (j : ℕ) → Invariant.link r.world j ≡ get v.links j
  link_is j = ap (λ (g : Host). get (links_of g) j) runs

  link_here : Invariant.link r.world k ≡ Some l
  link_here = link_is k ∙ attached

  sends_are : (j : ℕ) → mine j outs ≡ passes has_fetched (Message (server.Update (v.state.count + 1) (ops_of u))) (get v.links j)
  sends_are j = to_each_of has_fetched (Message (server.Update (v.state.count + 1) (ops_of u))) j v.links

  inbounds_same : (j : ℕ) → inbounds_after (inbounds j) (mine j outs) ≡ inbounds j
  inbounds_same j = ap (λ ms. inbounds_after (inbounds j) ms) (sends_are j) ∙ inbounds_passed (inbounds j) has_fetched (server.Update (v.state.count + 1) (ops_of u)) (get v.links j)

  abbrev ts : List Session
  ts = (updated v.state u).sessions

  last_here : last_of ts u.actor ≡ last_from u.first u.bodies
  last_here = ap last_in (session_same v.state.sessions u.actor (last_from u.first u.bodies) x known)

  last_else : (b : ℕ) → (b ≡ u.actor → ⊥) → last_of ts b ≡ last_of v.state.sessions b
  last_else b e = ap last_in (session_other v.state.sessions u.actor b (last_from u.first u.bodies) e)

  last_was : last_of v.state.sessions u.actor ≡ x.last
  last_was = ap last_in known

  last_inbound : (b : ℕ) → (b ≡ u.actor) ⊎ (b ≡ u.actor → ⊥) → last_of v.state.sessions b ≤ last_of ts b
  last_inbound b (inl e) = rw e (omega (arith, last_here, last_was, first, some))
  last_inbound b (inr e) = omega (arith, last_else b e)

  lasts_at : (b : ℕ) → (b ≡ u.actor) ⊎ (b ≡ u.actor → ⊥) → last_of ts b ≡ last_after b (last_of s.sessions b) (us ++ u ∷ [])
  lasts_at b (inl e) = rw (last_after-append b (last_of s.sessions b) us (u ∷ [])) (rw (eq-eqb u.actor b (sym e)) (ap (last_of ts) e ∙ last_here))
  lasts_at b (inr e) = rw (last_after-append b (last_of s.sessions b) us (u ∷ [])) (rw (ne_eqb u.actor b (λ d. e (sym d))) (last_else b e ∙ logged.lasts b))

  owner_is : (d : ℕ) → all_given d u.actor r.given ≡ true → (Invariant.conn r.world k).owner ≡ Some d
  owner_is d g = st.given k u.actor l link_here named d g

  positive : 0 < u.actor
  positive = (st.actors k u.actor l link_here named).0

  undo : (d a : ℕ) → all_given d a (r.given ++ []) ≡ true → all_given d a r.given ≡ true
  undo d a g = given_before d a r.given [] g

  owns_at : (d : ℕ) → IsUndisturbed r d → (h : ClientOf s r d) → (u.actor ≡ actor (Invariant.core_of r.world d)) ⊎ (u.actor ≡ actor (Invariant.core_of r.world d) → ⊥)
      → Invariant.Own s (us ++ u ∷ []) (last_of ts (actor (Invariant.core_of r.world d))) (Invariant.core_of r.world d) (Invariant.issued_by r d) h.done (h.coming ++ u ∷ [])
  owns_at d g h (inl e) =
      let n = owned d (owner_is d (subst (λ a. all_given d a r.given ≡ true) (sym e) g)) g h in
      let same : last_of (Invariant.sessions r) (actor (Invariant.core_of r.world d)) ≡ x.last = ap (λ (z : State). last_of z.sessions (actor (Invariant.core_of r.world d))) state_is ∙ ap (last_of v.state.sessions) (sym e) ∙ last_was in
      let count : length u.bodies ≡ length n.batch.bodies = ap length n.bodies ∙ length-settle_all (state_in r.world.host).tree n.batch.bodies in
      let now : last_of (Invariant.sessions r) (actor (Invariant.core_of r.world d)) + length n.batch.bodies ≡ last_of ts (actor (Invariant.core_of r.world d)) =
      omega (arith, same, count, first, last_here, ap (last_of ts) e) in
      subst (λ i. Invariant.Own s (us ++ u ∷ []) i (Invariant.core_of r.world d) (Invariant.issued_by r d) h.done (h.coming ++ u ∷ [])) now
      (own_next s us (last_of (Invariant.sessions r) (actor (Invariant.core_of r.world d))) (Invariant.core_of r.world d) (Invariant.issued_by r d) h.done h.coming u n.batch (state_in r.world.host).tree n.own n.first n.bodies st.logged.tree h.own n.more n.next)
  owns_at d g h (inr e) =
      let same : last_of (Invariant.sessions r) (actor (Invariant.core_of r.world d)) ≡ last_of ts (actor (Invariant.core_of r.world d)) =
      ap (λ (z : State). last_of z.sessions (actor (Invariant.core_of r.world d))) state_is ∙ sym (last_else (actor (Invariant.core_of r.world d)) (λ i. e (sym i))) in
      subst (λ i. Invariant.Own s (us ++ u ∷ []) i (Invariant.core_of r.world d) (Invariant.issued_by r d) h.done (h.coming ++ u ∷ [])) same
      (own_other s us (last_of (Invariant.sessions r) (actor (Invariant.core_of r.world d))) (Invariant.core_of r.world d) (Invariant.issued_by r d) h.done h.coming u e h.own)

  stands_at : (w : Resume) → (w.actor ≡ u.actor) ⊎ (w.actor ≡ u.actor → ⊥) → Invariant.Stands s v.state.sessions w → Invariant.Stands s ts w
  stands_at w (inl e) h =
      let same : session_of v.state.sessions w.actor ≡ Some x = ap (session_of v.state.sessions) e ∙ known in
      record {
        session = record x { last = last_from u.first u.bodies };
        is = ap (session_of ts) e ∙ session_same v.state.sessions u.actor (last_from u.first u.bodies) x known;
        key = ap (λ (z : Session). z.key) (some_is x h.session (sym same ∙ h.is)) ∙ h.key;
        some = h.some;
        since = h.since;
      }
  stands_at w (inr e) h = record { session = h.session; is = session_other v.state.sessions u.actor w.actor (last_from u.first u.bodies) e ∙ h.is; key = h.key; some = h.some; since = h.since }

  stays : (d : ℕ) (w : Resume) → (Invariant.core_of r.world d).session ≡ None → all_given d w.actor (r.given ++ []) ≡ true → Invariant.New s us v.state.sessions w → Invariant.New s (us ++ u ∷ []) ts w
  stays d w z g n = at (cases_eq w.actor u.actor)
    where
      not_here : w.actor ≡ u.actor → ⊥
      not_here e =
          let quiet : IsUndisturbed r d = subst (λ (o : Option Resume). all_given d (actor_in o) r.given ≡ true) (sym z) (st.nobody d) in
          let m = owned d (owner_is d (subst (λ a. all_given d a r.given ≡ true) e (undo d w.actor g))) quiet (st.client d quiet) in
          absurd (omega (arith, m.own, ap actor_in z, positive))

      at : (w.actor ≡ u.actor) ⊎ (w.actor ≡ u.actor → ⊥) → Invariant.New s (us ++ u ∷ []) ts w
      at (inl e) = absurd (not_here e)
      at (inr e) = record { stands = stands_at w (inr e) n.stands; unused = last_else w.actor e ∙ n.unused; silent = silent_push w.actor us u (λ i. e (sym i)) n.silent }

  inbounds_at : (d j : ℕ) → (j ≡ k) ⊎ (j ≡ k → ⊥) → (Invariant.conn r.world j).owner ≡ Some d → IsUndisturbed r d
      → Invariant.Inbounds ((slot r.world d).present ≡ Some j) (Invariant.core_of r.world d).session (Invariant.tried (Invariant.core_of r.world d)) (Invariant.issued_by r d)
      (last_of ts (actor (Invariant.core_of r.world d))) (get v.links j) (inbounds j)
  inbounds_at d j (inl e) o g = rw e (rw attached (popped d (subst (λ n. (Invariant.conn r.world n).owner ≡ Some d) e o) g))
  inbounds_at d j (inr e) o g = rw (else j e, sym (link_is j)) (inbounds_raise ((slot r.world d).present ≡ Some j) (Invariant.core_of r.world d).session (Invariant.tried (Invariant.core_of r.world d)) (Invariant.issued_by r d)
      (last_of (Invariant.sessions r) (actor (Invariant.core_of r.world d))) (last_of ts (actor (Invariant.core_of r.world d))) (Invariant.link r.world j) (Invariant.conn r.world j).inbound
      (rw (ap (λ (z : State). last_of z.sessions (actor (Invariant.core_of r.world d))) state_is) (last_inbound (actor (Invariant.core_of r.world d)) (cases_eq (actor (Invariant.core_of r.world d)) u.actor))) (st.inbounds d j o g))

  pub logged_after : Invariant.Logged s (us ++ u ∷ []) (updated v.state u)
  logged_after = record {
    count = ap (λ i. i + 1) logged.count ∙ omega (arith, length-append us (u ∷ []));
    tree = ap (λ z. Steps.fold z u.bodies) logged.tree ∙ sym (tree_after-append s.tree us (u ∷ []));
    more = omega (arith, logged.more, length_with v.state.sessions u.actor (last_from u.first u.bodies));
    within = within_push (length v.state.sessions) (length ts) us u (sym (length_with v.state.sessions u.actor (last_from u.first u.bodies))) logged.within
        (omega (arith, (st.actors k u.actor l link_here named).1, ap (λ (z : State). length z.sessions) state_is, length_with v.state.sessions u.actor (last_from u.first u.bodies)));
    lasts = λ b. lasts_at b (cases_eq b u.actor);
    spelled = spelled;
  }

  -- a fuse fires in it, and leaves the entry alone; w: the world without the frame
  pub keeps_commit_stopped : (w : World) → w.clients ≡ r.world.clients → w.opened ≡ r.world.opened → w.conns ≡ qs
      → Invariant.Inv s (record r { world = stopped w (updated v.state u); log = r.log ++ Updated u ∷ [] })
  keeps_commit_stopped w c o q = keeps_stopping s r (record r { world = stopped w (updated v.state u); log = r.log ++ Updated u ∷ [] }) (u ∷ []) st (record {
    slots = λ d. ap (λ m. slot_in (get m d)) c;
    batches = λ d. refl;
    opened = o;
    log = updates_of-append r.log (Updated u ∷ []);
    given = refl;
    conns = λ j. emptied_at w.conns j ∙ ap (λ m. hushed (Invariant.conn_in (get m j))) q ∙ ap hushed (conns j);
    links = λ j. get_none j;
    hosts = tt;
    logged = logged_after;
    owns = λ d g h. owns_at d g h (cases_eq u.actor (actor (Invariant.core_of r.world d)));
    stands = λ b h. stands_at b (cases_eq b.actor u.actor) (subst (λ (z : State). Invariant.Stands s z.sessions b) state_is h);
  })

  pub keeps_commit : Invariant.Inv s t
  keeps_commit = served s r t (u ∷ []) [] (λ j. mine j outs) (λ j. inbounds_after (inbounds j) (mine j outs)) st (record {
    slots = λ d. refl;
    batches = λ d. refl;
    opened = refl;
    log = updates_of-append r.log (Updated u ∷ []);
    given_is = sym (append-nil r.given);
    conns = λ j. delivered r qs inbounds outs j (conns j);
    there = λ j e. deliver_there qs outs j (there j e);
    hosts = hosts_after (subst Invariant.Hosts runs st.shape.hosts);
    unopened = λ j e. inbounds_same j ∙ unopened j e;
    attached = λ j n e. (n, link_is j ∙ e);
    logged = logged_after;
    given = λ j a n e f d g. st.given j a n (link_is j ∙ e) f d (undo d a g);
    actors = λ j a n e f.
        let m = st.actors j a n (link_is j ∙ e) f in
        (m.0, omega (arith, m.1, ap (λ (z : State). length z.sessions) state_is, length_with v.state.sessions u.actor (last_from u.first u.bodies)));
    nobody = λ c. refl;
    owns = λ d g h. owns_at d (undo d (actor (Invariant.core_of r.world d)) g) h (cases_eq u.actor (actor (Invariant.core_of r.world d)));
    stands = λ w h. stands_at w (cases_eq w.actor u.actor) (subst (λ (z : State). Invariant.Stands s z.sessions w) state_is h);
    presents = λ d j g e here w h p. rw (sends_are j) (present_news s us v.state.sessions r.given [] d (Invariant.core_of r.world d).session here (Invariant.conn r.world j).outbound ts u (v.state.count + 1) (get v.links j)
        (stays d) w (ap (λ i. i + 1) logged.count)
        (subst (λ (o : Option Link). Invariant.Present s us v.state.sessions r.given d (Invariant.core_of r.world d).session here (Invariant.conn r.world j).outbound o) (link_is j)
        (subst (λ (z : State). Invariant.Present s us z.sessions r.given d (Invariant.core_of r.world d).session here (Invariant.conn r.world j).outbound (Invariant.link r.world j)) state_is p)));
    inbounds_are = λ d j o g. rw (inbounds_same j) (inbounds_at d j (cases_eq j k) o (undo d (actor (Invariant.core_of r.world d)) g));
  })
    where
      hosts_after : Invariant.Hosts (Running v) → Invariant.Hosts (Running (record v { state = updated v.state u }))
      hosts_after h = record { room = h.room; access = h.access; free = h.free }
