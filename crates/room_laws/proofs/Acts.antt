-- What a message of a session does.
use Rattle.std.proofs.Common.{◌≡◌, ℕ, ◌<◌, ◌⊎◌, inl, inr, Bool, true, false, cond, ◌==◌, List, [], ◌∷◌, ◌++◌, length, refl, sym, ap, ◌∙◌, subst, append-nil}
use Rattle.std.specs.Prelude.{Option, Some, None, is_some}
use Rattle.std.proofs.lemmas.Bool.{cases_eq, eq-eqb, ne_eqb}
use Rattle.std.specs.FinMap.{get, insert}
use Rattle.room_json.specs.Value.{Value}
use Rattle.room_items.specs.Items.{items_of}
use Rattle.room_msg.specs.declared.messages.ServerMsg.TheVariants as server
use Rattle.room_log.specs.Log.{State, last_of}
use Rattle.room_model.specs.Server.{Server, Outbound, Message, Link, Inbound, with_links, part_sends, parts_of}
use Rattle.room_model.specs.World
use Rattle.room_model.specs.World.{Conn, Slot, Host, Running, Fuse, state_in, links_of, deliver, slot}
use Rattle.room_model.specs.Run.{Run, IsUndisturbed}
use Rattle.room_laws.specs.Core.{actor}
use Rattle.room_laws.specs.Invariant
use Rattle.room_laws.proofs.Maps.{mine, deliver_there, get_same, get_other, conn_same, conn_other}
use Rattle.room_laws.proofs.Served.{fed}
use Rattle.room_laws.proofs.Calm.{inbounds_after, SaidTo, Same, Left, Fetched, calm, part_msgs}
use Rattle.room_laws.proofs.Leaving.{delivered}

outbound_nil : (b : Bool) (d : List Outbound) → cond b (d ++ []) d ≡ d
outbound_nil true d = append-nil d
outbound_nil false d = refl

-- The next frame of k is taken from its queue: whoever sent it, the invariant asks only that what is left goes on standing
module _ (s : State) (r : Run) (k : ℕ) (q : Conn) (us : List Inbound) (st : Invariant.Inv s r) (is : Invariant.conn r.world k ≡ q) (low : r.world.opened < k → ⊥)
    (popped : (d : ℕ) → (Invariant.conn r.world k).owner ≡ Some d → IsUndisturbed r d → Invariant.Inbounds ((slot r.world d).present ≡ Some k) (Invariant.core_of r.world d).session (Invariant.tried (Invariant.core_of r.world d)) (Invariant.issued_by r d)
    (last_of (Invariant.sessions r) (actor (Invariant.core_of r.world d))) (Invariant.link r.world k) us) where
  abbrev t : Run
  t = record r { world = World.with_conn r.world k (record q { inbound = us }) }

  abbrev inbounds : ℕ → List Inbound
  inbounds j = cond (j == k) us (Invariant.conn r.world j).inbound

  conn_at : (j : ℕ) → (j ≡ k) ⊎ (j ≡ k → ⊥) → Invariant.conn t.world j ≡ fed (Invariant.conn r.world j) (cond (j == k) us (Invariant.conn r.world j).inbound) []
  conn_at j (inl e) = rw (eq-eqb j k e) (rw e (conn_same r.world.conns k (record q { inbound = us }) ∙ ap (λ (p : Conn). record p { inbound = us }) (sym is)
      ∙ ap (λ (d : List Outbound). record { owner = (Invariant.conn r.world k).owner; inbound = us; outbound = d; listens = (Invariant.conn r.world k).listens }) (sym (outbound_nil (Invariant.conn r.world k).listens (Invariant.conn r.world k).outbound))))
  conn_at j (inr e) = rw (ne_eqb j k e) (conn_other r.world.conns k (record q { inbound = us }) j e
      ∙ ap (λ (d : List Outbound). record { owner = (Invariant.conn r.world j).owner; inbound = (Invariant.conn r.world j).inbound; outbound = d; listens = (Invariant.conn r.world j).listens }) (sym (outbound_nil (Invariant.conn r.world j).listens (Invariant.conn r.world j).outbound)))

  unopened_at : (j : ℕ) → (j ≡ k) ⊎ (j ≡ k → ⊥) → r.world.opened < j → cond (j == k) us (Invariant.conn r.world j).inbound ≡ []
  unopened_at j (inl e) i = absurd (low (subst (λ n. r.world.opened < n) e i))
  unopened_at j (inr e) i = rw (ne_eqb j k e) (ap (λ (p : Conn). p.inbound) (st.shape.unopened j i))

  inbounds_at : (d j : ℕ) → (j ≡ k) ⊎ (j ≡ k → ⊥) → (Invariant.conn r.world j).owner ≡ Some d → IsUndisturbed r d
      → Invariant.Inbounds ((slot r.world d).present ≡ Some j) (Invariant.core_of r.world d).session (Invariant.tried (Invariant.core_of r.world d)) (Invariant.issued_by r d)
      (last_of (Invariant.sessions r) (actor (Invariant.core_of r.world d))) (Invariant.link r.world j) (cond (j == k) us (Invariant.conn r.world j).inbound)
  inbounds_at d j (inl e) o u = rw (eq-eqb j k e) (rw e (popped d (subst (λ n. (Invariant.conn r.world n).owner ≡ Some d) e o) u))
  inbounds_at d j (inr e) o u = rw (ne_eqb j k e) (st.inbounds d j o u)

  there_at : (j : ℕ) → (j ≡ k) ⊎ (j ≡ k → ⊥) → is_some (get r.world.conns j) ≡ true → is_some (get t.world.conns j) ≡ true
  there_at j (inl e) i = rw e (ap is_some (get_same r.world.conns k (record q { inbound = us })))
  there_at j (inr e) i = ap is_some (get_other r.world.conns k (record q { inbound = us }) j e) ∙ i

  pub pops : Invariant.Inv s t
  pops = calm s r t (λ j. []) (λ j. cond (j == k) us (Invariant.conn r.world j).inbound) st (record {
    slots = λ d. refl;
    batches = λ d. refl;
    opened = refl;
    log = refl;
    given = refl;
    state = refl;
    hosts = st.shape.hosts;
    conns = λ j. conn_at j (cases_eq j k);
    there = λ j e. there_at j (cases_eq j k) e;
    unopened = λ j e. unopened_at j (cases_eq j k) e;
    at = λ j d o u. inl (record { link = refl; said = record { said = tt; bare = λ e. refl } });
    links = λ j l e. (l, e, refl);
    inbounds_are = λ d j o u. inbounds_at d j (cases_eq j k) o u;
  })

-- What is said to connections with a session
module _ (s : State) (r : Run) (v : Server) (fuse : Option Fuse) (outs : List (ℕ × Outbound)) (st : Invariant.Inv s r) (runs : r.world.host ≡ Running v)
    (said : (j d : ℕ) → (Invariant.conn r.world j).owner ≡ Some d → IsUndisturbed r d → SaidTo (get v.links j) (mine j outs)) (opens : (j : ℕ) (us : List Inbound) → inbounds_after us (mine j outs) ≡ us) where
  link_is : (j : ℕ) → Invariant.link r.world j ≡ get v.links j
  link_is j = ap (λ (g : Host). get (links_of g) j) runs

  pub keeps_say : Invariant.Inv s (record r { world = record (r.world) { host = Running v; fuse = fuse; conns = deliver r.world.conns outs } })
  keeps_say = calm s r (record r { world = record (r.world) { host = Running v; fuse = fuse; conns = deliver r.world.conns outs } }) (λ j. mine j outs) (λ j. inbounds_after (Invariant.conn r.world j).inbound (mine j outs)) st (record {
    slots = λ d. refl;
    batches = λ d. refl;
    opened = refl;
    log = refl;
    given = refl;
    state = ap state_in (sym runs);
    hosts = subst Invariant.Hosts runs st.shape.hosts;
    conns = λ j. delivered r r.world.conns (λ i. (Invariant.conn r.world i).inbound) outs j refl;
    there = λ j e. deliver_there r.world.conns outs j e;
    unopened = λ j e. opens j (Invariant.conn r.world j).inbound ∙ ap (λ (p : Conn). p.inbound) (st.shape.unopened j e);
    at = λ j d o u. inl (record { link = sym (link_is j); said = rw (link_is j) (said j d o u) });
    links = λ j l e. (l, link_is j ∙ e, refl);
    inbounds_are = λ d j o u. rw (opens j (Invariant.conn r.world j).inbound, sym (link_is j)) (st.inbounds d j o u);
  })

-- A fetch
sends_here : (k seq last : ℕ) (ps : List (List Value × Bool)) → mine k (part_sends k seq last ps) ≡ part_msgs seq last ps
sends_here k seq last [] = refl
sends_here k seq last (p ∷ ps) = rw (eq-eqb k k refl) (ap (λ ms. Message (server.State seq last p.0 p.1) ∷ ms) (sends_here k seq last ps))

sends_else : (k j seq last : ℕ) (ps : List (List Value × Bool)) → (j ≡ k → ⊥) → mine j (part_sends k seq last ps) ≡ []
sends_else k j seq last [] e = refl
sends_else k j seq last (p ∷ ps) e = rw (ne_eqb k j (λ d. e (sym d))) (sends_else k j seq last ps e)

inbounds_parts : (us : List Inbound) (seq last : ℕ) (ps : List (List Value × Bool)) → inbounds_after us (part_msgs seq last ps) ≡ us
inbounds_parts us seq last [] = refl
inbounds_parts us seq last (p ∷ ps) = inbounds_parts us seq last ps

module _ (s : State) (r : Run) (v : Server) (fuse : Option Fuse) (k a : ℕ) (l : Link) (st : Invariant.Inv s r) (runs : r.world.host ≡ Running v) (attached : get v.links k ≡ Some l) (named : l.actor ≡ Some a) where
  abbrev sends : List (ℕ × Outbound)
  sends = part_sends k v.state.count (last_of v.state.sessions a) (parts_of (items_of v.state.tree))

  abbrev now : Link
  now = record l { fetched = true }

  abbrev after : Run
  after = record r { world = record (r.world) { host = Running (with_links v (insert v.links k (record l { fetched = true }))); fuse = fuse; conns = deliver r.world.conns (part_sends k v.state.count (last_of v.state.sessions a) (parts_of (items_of v.state.tree))) } }

  link_was : (j : ℕ) → Invariant.link r.world j ≡ get v.links j
  link_was j = ap (λ (g : Host). get (links_of g) j) runs

  opens : (j : ℕ) (us : List Inbound) → (j ≡ k) ⊎ (j ≡ k → ⊥) → inbounds_after us (mine j sends) ≡ us
  opens j us (inl e) = rw e (ap (λ ms. inbounds_after us ms) (sends_here k v.state.count (last_of v.state.sessions a) (parts_of (items_of v.state.tree))) ∙ inbounds_parts us v.state.count (last_of v.state.sessions a) (parts_of (items_of v.state.tree)))
  opens j us (inr e) = ap (λ ms. inbounds_after us ms) (sends_else k j v.state.count (last_of v.state.sessions a) (parts_of (items_of v.state.tree)) e)

  at : (j : ℕ) → (j ≡ k) ⊎ (j ≡ k → ⊥) → Same (Invariant.link r.world j) (Invariant.link after.world j) (mine j sends)
      ⊎ (Left (Invariant.link after.world j) (mine j sends) (inbounds_after (Invariant.conn r.world j).inbound (mine j sends)) ⊎ Fetched (state_in r.world.host) (Invariant.link r.world j) (Invariant.link after.world j) (mine j sends))
  at j (inl e) = inr (inr (rw e (record {
    before = l;
    actor = a;
    link = link_was k ∙ attached;
    named = named;
    now = get_same v.links k (record l { fetched = true });
    size = length (items_of v.state.tree);
    sent = rw runs (sends_here k v.state.count (last_of v.state.sessions a) (parts_of (items_of v.state.tree)));
  })))
  at j (inr e) = inl (record { link = get_other v.links k (record l { fetched = true }) j e ∙ sym (link_was j); said = rw (sends_else k j v.state.count (last_of v.state.sessions a) (parts_of (items_of v.state.tree)) e) (record { said = tt; bare = λ i. refl }) })

  some_is : {A : Type 0} (x y : A) → Some x ≡ Some y → x ≡ y
  some_is x y e = cc

  links_at : (j : ℕ) (n : Link) → (j ≡ k) ⊎ (j ≡ k → ⊥) → Invariant.link after.world j ≡ Some n → (m : Link) × (Invariant.link r.world j ≡ Some m) × (m.actor ≡ n.actor)
  links_at j n (inl e) i =
      let same : record l { fetched = true } ≡ n = some_is (record l { fetched = true }) n (sym (get_same v.links k (record l { fetched = true })) ∙ subst (λ b. get (insert v.links k (record l { fetched = true })) b ≡ Some n) e i) in
      (l, ap (λ b. Invariant.link r.world b) e ∙ link_was k ∙ attached, ap (λ (z : Link). z.actor) same)
  links_at j n (inr e) i = (n, link_was j ∙ sym (get_other v.links k (record l { fetched = true }) j e) ∙ i, refl)

  inbounds_then : (d j : ℕ) → (j ≡ k) ⊎ (j ≡ k → ⊥) → (Invariant.conn r.world j).owner ≡ Some d → IsUndisturbed r d
      → Invariant.Inbounds ((slot r.world d).present ≡ Some j) (Invariant.core_of r.world d).session (Invariant.tried (Invariant.core_of r.world d)) (Invariant.issued_by r d)
      (last_of (Invariant.sessions r) (actor (Invariant.core_of r.world d))) (Invariant.link after.world j) (inbounds_after (Invariant.conn r.world j).inbound (mine j sends))
  inbounds_then d j (inl e) o u = rw (opens j (Invariant.conn r.world j).inbound (inl e)) (rw e (rw (get_same v.links k (record l { fetched = true }))
      (subst (λ (z : Option Link). Invariant.Inbounds ((slot r.world d).present ≡ Some k) (Invariant.core_of r.world d).session (Invariant.tried (Invariant.core_of r.world d)) (Invariant.issued_by r d)
      (last_of (Invariant.sessions r) (actor (Invariant.core_of r.world d))) z (Invariant.conn r.world k).inbound) (link_was k ∙ attached) (st.inbounds d k (subst (λ n. (Invariant.conn r.world n).owner ≡ Some d) e o) u))))
  inbounds_then d j (inr e) o u = rw (opens j (Invariant.conn r.world j).inbound (inr e), get_other v.links k (record l { fetched = true }) j e ∙ sym (link_was j)) (st.inbounds d j o u)

  hosts_after : Invariant.Hosts (Running v) → Invariant.Hosts (Running (with_links v (insert v.links k (record l { fetched = true }))))
  hosts_after h = record { room = h.room; access = h.access; free = λ j n i. free_at h j n (cases_eq j k) i }
    where
      free_at : Invariant.Hosts (Running v) → (j : ℕ) (n : Link) → (j ≡ k) ⊎ (j ≡ k → ⊥) → get (insert v.links k (record l { fetched = true })) j ≡ Some n → (n.decision ≡ None) × (0 < n.key)
      free_at h j n (inl e) i =
          let same : record l { fetched = true } ≡ n = some_is (record l { fetched = true }) n (sym (get_same v.links k (record l { fetched = true })) ∙ subst (λ b. get (insert v.links k (record l { fetched = true })) b ≡ Some n) e i) in
          (ap (λ (z : Link). z.decision) (sym same) ∙ (h.free k l attached).0, subst (λ i. 0 < i) (ap (λ (z : Link). z.key) same) (h.free k l attached).1)
      free_at h j n (inr e) i = h.free j n (sym (get_other v.links k (record l { fetched = true }) j e) ∙ i)

  pub keeps_fetch : Invariant.Inv s after
  keeps_fetch = calm s r after (λ j. mine j sends) (λ j. inbounds_after (Invariant.conn r.world j).inbound (mine j sends)) st (record {
    slots = λ d. refl;
    batches = λ d. refl;
    opened = refl;
    log = refl;
    given = refl;
    state = ap state_in (sym runs);
    hosts = hosts_after (subst Invariant.Hosts runs st.shape.hosts);
    conns = λ j. delivered r r.world.conns (λ i. (Invariant.conn r.world i).inbound) sends j refl;
    there = λ j e. deliver_there r.world.conns sends j e;
    unopened = λ j e. opens j (Invariant.conn r.world j).inbound (cases_eq j k) ∙ ap (λ (p : Conn). p.inbound) (st.shape.unopened j e);
    at = λ j d o u. at j (cases_eq j k);
    links = λ j n e. links_at j n (cases_eq j k) e;
    inbounds_are = λ d j o u. inbounds_then d j (cases_eq j k) o u;
  })
