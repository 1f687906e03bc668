-- The server closes a connection, or notices that it is gone.
use Rattle.std.proofs.Common.{◌≡◌, ℕ, ◌<◌, ◌⊎◌, inl, inr, Bool, true, false, cond, List, [], ◌∷◌, ◌++◌, refl, sym, ap, ◌∙◌, subst, append-nil, ⊎_elim, ◌==◌}
use Rattle.std.specs.Prelude.{Option, Some, None, is_some}
use Rattle.std.proofs.lemmas.Bool.{cases_eq, eq-eqb, ne_eqb}
use Rattle.std.specs.FinMap.{FinMap, get, remove}
use Rattle.std.specs.Ordering.{nat_cmp}
use Rattle.room_msg.specs.declared.messages.ServerMsg.{ServerMsg}
use Rattle.room_msg.specs.declared.messages.ServerMsg.TheVariants as server
use Rattle.room_log.specs.Log.{State, last_of}
use Rattle.room_model.specs.Server.{Server, Outbound, Message, Closed, Link, Inbound, has_session, left_to, with_links, gone_at}
use Rattle.room_model.specs.World
use Rattle.room_model.specs.World.{Conn, Slot, Host, Running, Stopped, Fuse, state_in, links_of, deliver, with_outbound, is_close, slot}
use Rattle.room_model.specs.Run.{Run, IsUndisturbed, with_step}
use Rattle.room_laws.specs.Core.{actor}
use Rattle.room_laws.specs.Invariant
use Rattle.room_laws.proofs.Maps.{mine, mine-append, given_all, passes, deliver_at, deliver_there, to_others_same, to_others_other, removed_same, removed_other, left_here, left_else, get_same, get_other}
use Rattle.room_laws.proofs.Served.{fed}
use Rattle.room_laws.proofs.Calm.{inbounds_after, given_fed, SaidTo, passes_said, Same, Left, Fetched, calm}
use Rattle.room_laws.proofs.OwnLines.{keeps_saying}
use Rattle.room_laws.proofs.Facts.{none_some}

pub inbounds_passed : (us : List Inbound) (p : Link → Bool) (m : ServerMsg) (l : Option Link) → inbounds_after us (passes p (Message m) l) ≡ us
inbounds_passed us p m None = refl
inbounds_passed us p m (Some l) = at (p l)
  where
    at : (b : Bool) → inbounds_after us (cond b (Message m ∷ []) []) ≡ us
    at true = refl
    at false = refl

pub inbounds_none : (ms : List Outbound) → inbounds_after [] ms ≡ []
inbounds_none [] = refl
inbounds_none (m ∷ ms) = at (inbounds_none ms) (is_close m)
  where
    at : inbounds_after [] ms ≡ [] → (b : Bool) → inbounds_after (cond b [] []) ms ≡ []
    at h true = h
    at h false = h

-- connections after a delivery: ups are the inbound queues before it
pub delivered : (r : Run) (qs : FinMap nat_cmp Conn) (inbounds : ℕ → List Inbound) (outs : List (ℕ × Outbound)) (j : ℕ) → Invariant.conn_in (get qs j) ≡ record (Invariant.conn r.world j) { inbound = inbounds j }
    → Invariant.conn_in (get (deliver qs outs) j) ≡ fed (Invariant.conn r.world j) (inbounds_after (inbounds j) (mine j outs)) (mine j outs)
delivered r qs inbounds outs j e = deliver_at qs outs j ∙ ap (λ (q : Conn). given_all q (mine j outs)) e ∙ given_fed (record (Invariant.conn r.world j) { inbound = inbounds j }) (mine j outs)

-- what a connection with a session leaves behind
abbrev pub left_passes : Option ℕ → Option Link → List Outbound
left_passes None l = []
left_passes (Some a) l = passes has_session (Message (server.Left a)) l

pub left_same : (ls : FinMap nat_cmp Link) (k : ℕ) (o : Option ℕ) → mine k (left_to ls k o) ≡ []
left_same ls k None = refl
left_same ls k (Some a) = to_others_same (server.Left a) k ls

pub left_other : (ls : FinMap nat_cmp Link) (k j : ℕ) (o : Option ℕ) → (j ≡ k → ⊥) → mine j (left_to ls k o) ≡ left_passes o (get ls j)
left_other ls k j None e = refl
left_other ls k j (Some a) e = to_others_other (server.Left a) k j ls e

left_said : (o : Option ℕ) (l : Option Link) → SaidTo l (left_passes o l)
left_said None l = record { said = tt; bare = λ e. refl }
left_said (Some a) l = passes_said (Message (server.Left a)) l (λ s w p on. record { on = on; place = refl })

left_inbounds : (us : List Inbound) (o : Option ℕ) (l : Option Link) → inbounds_after us (left_passes o l) ≡ us
left_inbounds us None l = refl
left_inbounds us (Some a) l = inbounds_passed us has_session (server.Left a) l

-- The connection k, attached by l, is detached. qs: the connections before what is sent, ups: their inbound queues; pre: what comes down k
module _ (s : State) (r : Run) (v : Server) (k : ℕ) (l : Link) (qs : FinMap nat_cmp Conn) (inbounds : ℕ → List Inbound) (fuse : Option Fuse) (pre : List (ℕ × Outbound)) (st : Invariant.Inv s r)
    (runs : r.world.host ≡ Running v) (attached : get v.links k ≡ Some l)
    (conns : (j : ℕ) → Invariant.conn_in (get qs j) ≡ record (Invariant.conn r.world j) { inbound = inbounds j })
    (there : (j : ℕ) → is_some (get r.world.conns j) ≡ true → is_some (get qs j) ≡ true)
    (else : (j : ℕ) → (j ≡ k → ⊥) → inbounds j ≡ (Invariant.conn r.world j).inbound)
    (pre_else : (j : ℕ) → (j ≡ k → ⊥) → mine j pre ≡ [])
    (pre_here : (mine k pre ≡ []) ⊎ ((code : ℕ) × ((text : List ℕ) × (mine k pre ≡ Closed code text ∷ []))))
    (empty : inbounds_after (inbounds k) (mine k pre) ≡ []) where
  abbrev outs : List (ℕ × Outbound)
  outs = pre ++ left_to v.links k l.actor

  abbrev t : Run
  t = record r { world = record (r.world) { host = Running (with_links v (remove v.links k)); fuse = fuse; conns = deliver qs (pre ++ left_to v.links k l.actor) } }

  sends_here : mine k outs ≡ mine k pre
  sends_here = mine-append k pre (left_to v.links k l.actor) ∙ ap (λ ms. mine k pre ++ ms) (left_same v.links k l.actor) ∙ append-nil (mine k pre)

  sends_else : (j : ℕ) → (j ≡ k → ⊥) → mine j outs ≡ left_passes l.actor (get v.links j)
  sends_else j e = mine-append j pre (left_to v.links k l.actor) ∙ ap (λ ms. ms ++ mine j (left_to v.links k l.actor)) (pre_else j e) ∙ left_other v.links k j l.actor e

  link_before : (j : ℕ) → Invariant.link r.world j ≡ get v.links j
  link_before j = ap (λ (g : Host). get (links_of g) j) runs

  inbounds_else : (j : ℕ) → (j ≡ k → ⊥) → inbounds_after (inbounds j) (mine j outs) ≡ (Invariant.conn r.world j).inbound
  inbounds_else j e = ap (λ ms. inbounds_after (inbounds j) ms) (sends_else j e) ∙ left_inbounds (inbounds j) l.actor (get v.links j) ∙ else j e

  inbounds_here : inbounds_after (inbounds k) (mine k outs) ≡ []
  inbounds_here = ap (λ ms. inbounds_after (inbounds k) ms) sends_here ∙ empty

  at : (j : ℕ) → (j ≡ k) ⊎ (j ≡ k → ⊥) → Same (Invariant.link r.world j) (Invariant.link t.world j) (mine j outs)
      ⊎ (Left (Invariant.link t.world j) (mine j outs) (inbounds_after (inbounds j) (mine j outs)) ⊎ Fetched (state_in r.world.host) (Invariant.link r.world j) (Invariant.link t.world j) (mine j outs))
  at j (inl e) = inr (inl (rw e (record { link = removed_same v.links k; inbounds = inbounds_here; sent = rw sends_here pre_here })))
  at j (inr e) = inl (record { link = removed_other v.links k j e ∙ sym (link_before j); said = rw (sends_else j e, link_before j) (left_said l.actor (get v.links j)) })

  links_at : (j : ℕ) (n : Link) → (j ≡ k) ⊎ (j ≡ k → ⊥) → Invariant.link t.world j ≡ Some n → (m : Link) × (Invariant.link r.world j ≡ Some m) × (m.actor ≡ n.actor)
  links_at j n (inl e) i = absurd (none_some n (sym (removed_same v.links k) ∙ subst (λ b. get (remove v.links k) b ≡ Some n) e i))
  links_at j n (inr e) i = (n, link_before j ∙ sym (removed_other v.links k j e) ∙ i, refl)

  inbounds_at : (d j : ℕ) → (j ≡ k) ⊎ (j ≡ k → ⊥) → (Invariant.conn r.world j).owner ≡ Some d → IsUndisturbed r d
      → Invariant.Inbounds ((slot r.world d).present ≡ Some j) (Invariant.core_of r.world d).session (Invariant.tried (Invariant.core_of r.world d)) (Invariant.issued_by r d)
      (last_of (Invariant.sessions r) (actor (Invariant.core_of r.world d))) (Invariant.link t.world j) (inbounds_after (inbounds j) (mine j outs))
  inbounds_at d j (inl e) o u = rw e (rw (removed_same v.links k) inbounds_here)
  inbounds_at d j (inr e) o u = rw (removed_other v.links k j e ∙ sym (link_before j), inbounds_else j e) (st.inbounds d j o u)

  unopened_at : (j : ℕ) → (j ≡ k) ⊎ (j ≡ k → ⊥) → r.world.opened < j → inbounds_after (inbounds j) (mine j outs) ≡ []
  unopened_at j (inl e) i = rw e inbounds_here
  unopened_at j (inr e) i = inbounds_else j e ∙ ap (λ (q : Conn). q.inbound) (st.shape.unopened j i)

  hosts_after : Invariant.Hosts (Running v) → Invariant.Hosts (Running (with_links v (remove v.links k)))
  hosts_after h = record { room = h.room; access = h.access; free = λ j n i. free_at h j n (cases_eq j k) i }
    where
      free_at : Invariant.Hosts (Running v) → (j : ℕ) (n : Link) → (j ≡ k) ⊎ (j ≡ k → ⊥) → get (remove v.links k) j ≡ Some n → (n.decision ≡ None) × (0 < n.key)
      free_at h j n (inl e) i = absurd (none_some n (sym (removed_same v.links k) ∙ subst (λ b. get (remove v.links k) b ≡ Some n) e i))
      free_at h j n (inr e) i = h.free j n (sym (removed_other v.links k j e) ∙ i)

  pub keeps_leaving : Invariant.Inv s t
  keeps_leaving = calm s r t (λ j. mine j outs) (λ j. inbounds_after (inbounds j) (mine j outs)) st (record {
    slots = λ d. refl;
    batches = λ d. refl;
    opened = refl;
    log = refl;
    given = refl;
    state = ap state_in (sym runs);
    hosts = hosts_after (subst Invariant.Hosts runs st.shape.hosts);
    conns = λ j. delivered r qs inbounds outs j (conns j);
    there = λ j e. deliver_there qs outs j (there j e);
    unopened = λ j e. unopened_at j (cases_eq j k) e;
    at = λ j d o u. at j (cases_eq j k);
    links = λ j n e. links_at j n (cases_eq j k) e;
    inbounds_are = λ d j o u. inbounds_at d j (cases_eq j k) o u;
  })

-- the line
module _ (s : State) (r : Run) (k : ℕ) (st : Invariant.Inv s r) where
  left_inbound : (j : ℕ) → (j ≡ k) ⊎ (j ≡ k → ⊥) → Invariant.conn_in (get (World.gone_conn r.world.conns k (get r.world.conns k)) j) ≡ record (Invariant.conn r.world j) { inbound = cond (j == k) [] (Invariant.conn r.world j).inbound }
  left_inbound j (inl e) = rw (eq-eqb j k e) (subst (λ b. Invariant.conn_in (get (World.gone_conn r.world.conns k (get r.world.conns k)) b) ≡ record (Invariant.conn r.world b) { inbound = [] }) (sym e) (left_here r.world.conns k))
  left_inbound j (inr e) = rw (ne_eqb j k e) (left_else r.world.conns k j e)

  left_there : (o : Option Conn) (j : ℕ) → get r.world.conns k ≡ o → is_some (get r.world.conns j) ≡ true → is_some (get (World.gone_conn r.world.conns k o) j) ≡ true
  left_there None j e i = i
  left_there (Some q) j e i = ⊎_elim (λ d. rw d (ap is_some (get_same r.world.conns k (record q { inbound = [] })))) (λ d. ap is_some (get_other r.world.conns k (record q { inbound = [] }) j d) ∙ i) (cases_eq j k)

  gone_here : (v : Server) (o : Option Link) → r.world.host ≡ Running v → get v.links k ≡ o → is_some o ≡ true
      → Invariant.Inv s (record r { world = record (r.world) { host = Running (gone_at v k o).server; conns = deliver (World.gone_conn r.world.conns k (get r.world.conns k)) (gone_at v k o).outs } })
  gone_here v None e f g = absurd (no g)
    where
      no : false ≡ true → ⊥
      no i = cc
  gone_here v (Some l) e f g = keeps_leaving s r v k l (World.gone_conn r.world.conns k (get r.world.conns k)) (λ j. cond (j == k) [] (Invariant.conn r.world j).inbound) r.world.fuse [] st e f
      (λ j. left_inbound j (cases_eq j k)) (λ j i. left_there (get r.world.conns k) j refl i) (λ j i. rw (ne_eqb j k i) refl) (λ j i. refl) (inl refl) (rw (eq-eqb k k refl) refl)

  goes_on : (g : Host) (b : Bool) → r.world.host ≡ g → World.is_attached r.world k ≡ b → Invariant.Inv s (record r { world = World.gone_on r.world k g b })
  goes_on (Running v) true e f = gone_here v (get v.links k) e refl (ap (λ (g : Host). is_some (get (links_of g) k)) (sym e) ∙ f)
  goes_on (Running v) false e f = st
  goes_on (Stopped n) b e f = st

  pub keeps_gone : Invariant.Inv s (with_step r (World.quiet (World.goes r.world k)))
  keeps_gone = keeps_saying s (record r { world = World.goes r.world k }) [] (goes_on r.world.host (World.is_attached r.world k) refl refl)
