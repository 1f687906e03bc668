-- A line that changes one client and connections of that client alone.
use Rattle.std.proofs.Common.{◌≡◌, ℕ, ◌<◌, ◌≤◌, ◌⊎◌, inl, inr, true, List, length, refl, sym, ap, ◌∙◌, subst, ⊎_elim, ap₂}
use Rattle.std.specs.Prelude.{Option, Some, None}
use Rattle.std.proofs.lemmas.Bool.{cases_eq}
use Rattle.room_msg.specs.declared.messages.Resume.{Resume}
use Rattle.room_log.specs.Log.{State, Session, Update, last_of, updates_of}
use Rattle.room_model.specs.Account.{Batch, actor_in}
use Rattle.room_model.specs.Server.{Outbound, Link, Inbound}
use Rattle.room_model.specs.World.{Conn, Slot, state_in, slot, account}
use Rattle.room_model.specs.Run.{Run, all_given, IsUndisturbed}
use Rattle.room_laws.specs.Core.{Core, core, actor}
use Rattle.room_laws.specs.Invariant
use Rattle.room_laws.proofs.Facts.{some_is, none_some}

abbrev pub Undisturbed : List (ℕ × Option ℕ) → ℕ → Core → Type 0
Undisturbed given c x = all_given c (actor x) given ≡ true

-- the same at equal things
pub client_as : (s : State) (us vs : List Update) (ss ts : List Session) (given nevig : List (ℕ × Option ℕ)) (c : ℕ) (p p' : Option ℕ) (x y : Core) (all bll : List Batch) (q q' : List Outbound) (l l' : Option Link)
    → vs ≡ us → ts ≡ ss → nevig ≡ given → p' ≡ p → y ≡ x → bll ≡ all → q' ≡ q → l' ≡ l
    → Invariant.Client s us ss given c p x all q l → Invariant.Client s vs ts nevig c p' y bll q' l'
client_as s us vs ss ts given nevig c p p' x y all bll q q' l l' a b d e f g i j h = rw (a, b, d, e, f, g, i, j) h

pub inbounds_as : (now now' : Type 0) (w w' : Option Resume) (tried tried' : ℕ) (all bll : List Batch) (last last' : ℕ) (l l' : Option Link) (q q' : List Inbound)
    → (now' → now) → w' ≡ w → tried' ≡ tried → bll ≡ all → last' ≡ last → l' ≡ l → q' ≡ q
    → Invariant.Inbounds now w tried all last l q → Invariant.Inbounds now' w' tried' bll last' l' q'
inbounds_as now now' w w' tried tried' all bll last last' l l' q q' f a b d e g i h = rw (a, b, d, e, g, i) (if_now l h)
  where
    at_actor : (a : Option ℕ) → Invariant.InboundAt now w tried all last a q → Invariant.InboundAt now' w tried all last a q
    at_actor None u = record { resume = u.resume; is = u.is; old = u.old; current = λ n. u.current (f n) }
    at_actor (Some a) u = record { some = u.some; reach = u.reach; order = u.order; sent = λ n. u.sent (f n) }

    if_now : (l : Option Link) → Invariant.Inbounds now w tried all last l q → Invariant.Inbounds now' w tried all last l q
    if_now None u = u
    if_now (Some k) u = at_actor k.actor u

-- r before, t after; y is what the client's slot will be, and bs all that it issued
module _ (r t : Run) (c : ℕ) where
  -- a connection of the client, before or only now
  pub record Mine (j : ℕ) : Type 0 where
    pub owner : (Invariant.conn t.world j).owner ≡ Some c
    pub was : ((Invariant.conn r.world j).owner ≡ Some c) ⊎ (r.world.opened < j)

  pub record Still (j : ℕ) : Type 0 where
    pub conn : Invariant.conn t.world j ≡ Invariant.conn r.world j
    pub link : Invariant.link t.world j ≡ Invariant.link r.world j

  pub record Change (y : Slot) (bs : List Batch) (s : State) : Type 0 where
    pub slot_is : slot t.world c ≡ y
    pub batches_are : Invariant.issued_by t c ≡ bs
    pub shape : Invariant.Shape t.world
    pub log : updates_of t.log ≡ updates_of r.log
    pub state : state_in t.world.host ≡ state_in r.world.host
    pub given : t.given ≡ r.given
    pub slots : (d : ℕ) → (d ≡ c → ⊥) → slot t.world d ≡ slot r.world d
    pub batches : (d : ℕ) → (d ≡ c → ⊥) → Invariant.issued_by t d ≡ Invariant.issued_by r d
    pub conns : (j : ℕ) → Mine j ⊎ Still j
    -- no connection is given an actor
    pub links : (j a : ℕ) (l : Link) → Invariant.link t.world j ≡ Some l → l.actor ≡ Some a
        → (k : Link) × (Invariant.link r.world j ≡ Some k) × (k.actor ≡ Some a) × ((Invariant.conn t.world j).owner ≡ (Invariant.conn r.world j).owner)
    pub client : Undisturbed r.given c (core y.account)
        → Invariant.Client s (updates_of r.log) (Invariant.sessions r) r.given c y.present (core y.account) bs
        (Invariant.present_outbound t.world y.present) (Invariant.present_link t.world y.present)
    pub inbounds : (j : ℕ) → (Invariant.conn t.world j).owner ≡ Some c → Undisturbed r.given c (core y.account)
        → Invariant.Inbounds (y.present ≡ Some j) (y.account).session (Invariant.tried (core y.account)) bs
        (last_of (Invariant.sessions r) (actor (core y.account))) (Invariant.link t.world j) (Invariant.conn t.world j).inbound

module _ (r t : Run) (c : ℕ) (y : Slot) (bs : List Batch) (s : State) (st : Invariant.Inv s r) (h : Change r t c y bs s) where
  same_sessions : Invariant.sessions t ≡ Invariant.sessions r
  same_sessions = ap (λ (v : State). v.sessions) h.state

  undisturbed_before : (d : ℕ) → (d ≡ c → ⊥) → IsUndisturbed t d → IsUndisturbed r d
  undisturbed_before d e u = subst (λ (y : Slot). all_given d (actor_in (y.account).session) r.given ≡ true) (h.slots d e)
      (subst (λ (g : List (ℕ × Option ℕ)). all_given d (actor_in (account t.world d).session) g ≡ true) h.given u)

  -- another client's present connection is not touched
  untouched : (d k : ℕ) → (d ≡ c → ⊥) → (slot r.world d).present ≡ Some k → Mine r t c k ⊎ Still r t c k → Still r t c k
  untouched d k e p (inr i) = i
  untouched d k e p (inl m) = absurd (⊎_elim (λ o. e (some_is d c (sym (st.shape.present d k p).owner ∙ o))) (λ i. absent i) m.was)
    where
      absent : r.world.opened < k → ⊥
      absent i = none_some d (sym (ap (λ (q : Conn). q.owner) (st.shape.unopened k i)) ∙ (st.shape.present d k p).owner)

  outbound_same : (d : ℕ) (p : Option ℕ) → (d ≡ c → ⊥) → (slot r.world d).present ≡ p → Invariant.present_outbound t.world p ≡ Invariant.present_outbound r.world p
  outbound_same d None e i = refl
  outbound_same d (Some k) e i = ap (λ (q : Conn). q.outbound) (untouched d k e i (h.conns k)).conn

  link_same : (d : ℕ) (p : Option ℕ) → (d ≡ c → ⊥) → (slot r.world d).present ≡ p → Invariant.present_link t.world p ≡ Invariant.present_link r.world p
  link_same d None e i = refl
  link_same d (Some k) e i = (untouched d k e i (h.conns k)).link

  abbrev ClientIn : Run → ℕ → Type 0
  ClientIn o d = Invariant.Client s (updates_of o.log) (Invariant.sessions o) o.given d (slot o.world d).present (Invariant.core_of o.world d) (Invariant.issued_by o d)
      (Invariant.present_outbound o.world (slot o.world d).present) (Invariant.present_link o.world (slot o.world d).present)

  that_client : (d : ℕ) → (d ≡ c → ⊥) → IsUndisturbed t d → ClientIn t d
  that_client d e u = client_as s (updates_of r.log) (updates_of t.log) (Invariant.sessions r) (Invariant.sessions t) r.given t.given d (slot r.world d).present (slot t.world d).present
      (Invariant.core_of r.world d) (Invariant.core_of t.world d) (Invariant.issued_by r d) (Invariant.issued_by t d)
      (Invariant.present_outbound r.world (slot r.world d).present) (Invariant.present_outbound t.world (slot t.world d).present)
      (Invariant.present_link r.world (slot r.world d).present) (Invariant.present_link t.world (slot t.world d).present)
      h.log same_sessions h.given (ap (λ (y : Slot). y.present) (h.slots d e)) (ap (λ (y : Slot). core y.account) (h.slots d e)) (h.batches d e)
      (ap (λ (y : Slot). Invariant.present_outbound t.world y.present) (h.slots d e) ∙ outbound_same d (slot r.world d).present e refl)
      (ap (λ (y : Slot). Invariant.present_link t.world y.present) (h.slots d e) ∙ link_same d (slot r.world d).present e refl)
      (st.client d (undisturbed_before d e u))

  undisturbed_here : IsUndisturbed t c → Undisturbed r.given c (core y.account)
  undisturbed_here u = subst (λ (z : Slot). all_given c (actor_in (z.account).session) r.given ≡ true) h.slot_is
      (subst (λ (g : List (ℕ × Option ℕ)). all_given c (actor_in (account t.world c).session) g ≡ true) h.given u)

  this_client : IsUndisturbed t c → ClientIn t c
  this_client u = client_as s (updates_of r.log) (updates_of t.log) (Invariant.sessions r) (Invariant.sessions t) r.given t.given c y.present (slot t.world c).present
      (core y.account) (Invariant.core_of t.world c) bs (Invariant.issued_by t c)
      (Invariant.present_outbound t.world y.present) (Invariant.present_outbound t.world (slot t.world c).present)
      (Invariant.present_link t.world y.present) (Invariant.present_link t.world (slot t.world c).present)
      h.log same_sessions h.given (ap (λ (z : Slot). z.present) h.slot_is) (ap (λ (z : Slot). core z.account) h.slot_is) h.batches_are
      (ap (λ (z : Slot). Invariant.present_outbound t.world z.present) h.slot_is) (ap (λ (z : Slot). Invariant.present_link t.world z.present) h.slot_is) (h.client (undisturbed_here u))

  client_of : (d : ℕ) → (d ≡ c) ⊎ (d ≡ c → ⊥) → IsUndisturbed t d → ClientIn t d
  client_of d (inl e) u = subst (λ i. ClientIn t i) (sym e) (this_client (subst (λ i. IsUndisturbed t i) e u))
  client_of d (inr e) u = that_client d e u

  abbrev InboundsIn : Run → ℕ → ℕ → Type 0
  InboundsIn o d j = Invariant.Inbounds ((slot o.world d).present ≡ Some j) (Invariant.core_of o.world d).session (Invariant.tried (Invariant.core_of o.world d)) (Invariant.issued_by o d)
      (last_of (Invariant.sessions o) (actor (Invariant.core_of o.world d))) (Invariant.link o.world j) (Invariant.conn o.world j).inbound

  this_inbounds : (j : ℕ) → (Invariant.conn t.world j).owner ≡ Some c → IsUndisturbed t c → InboundsIn t c j
  this_inbounds j o u =
      inbounds_as (y.present ≡ Some j) ((slot t.world c).present ≡ Some j) (y.account).session (Invariant.core_of t.world c).session
      (Invariant.tried (core y.account)) (Invariant.tried (Invariant.core_of t.world c)) bs (Invariant.issued_by t c)
      (last_of (Invariant.sessions r) (actor (core y.account))) (last_of (Invariant.sessions t) (actor (Invariant.core_of t.world c)))
      (Invariant.link t.world j) (Invariant.link t.world j) (Invariant.conn t.world j).inbound (Invariant.conn t.world j).inbound
      (λ n. ap (λ (z : Slot). z.present) (sym h.slot_is) ∙ n)
      (ap (λ (z : Slot). (z.account).session) h.slot_is) (ap (λ (z : Slot). Invariant.tried (core z.account)) h.slot_is) h.batches_are
      (ap₂ (λ (ts : List Session) (z : Slot). last_of ts (actor (core z.account))) same_sessions h.slot_is)
      refl refl
      (h.inbounds j o (undisturbed_here u))

  that_inbounds : (d j : ℕ) → (d ≡ c → ⊥) → Still r t c j → (Invariant.conn r.world j).owner ≡ Some d → IsUndisturbed t d → InboundsIn t d j
  that_inbounds d j e i o u =
      inbounds_as ((slot r.world d).present ≡ Some j) ((slot t.world d).present ≡ Some j) (Invariant.core_of r.world d).session (Invariant.core_of t.world d).session
      (Invariant.tried (Invariant.core_of r.world d)) (Invariant.tried (Invariant.core_of t.world d)) (Invariant.issued_by r d) (Invariant.issued_by t d)
      (last_of (Invariant.sessions r) (actor (Invariant.core_of r.world d))) (last_of (Invariant.sessions t) (actor (Invariant.core_of t.world d)))
      (Invariant.link r.world j) (Invariant.link t.world j) (Invariant.conn r.world j).inbound (Invariant.conn t.world j).inbound
      (λ n. ap (λ (y : Slot). y.present) (sym (h.slots d e)) ∙ n)
      (ap (λ (y : Slot). (core y.account).session) (h.slots d e)) (ap (λ (y : Slot). Invariant.tried (core y.account)) (h.slots d e)) (h.batches d e)
      (ap₂ (λ (ts : List Session) (y : Slot). last_of ts (actor (core y.account))) same_sessions (h.slots d e))
      i.link (ap (λ (q : Conn). q.inbound) i.conn)
      (st.inbounds d j o (undisturbed_before d e u))

  inbounds_at : (d j : ℕ) → (d ≡ c → ⊥) → Mine r t c j ⊎ Still r t c j → (Invariant.conn t.world j).owner ≡ Some d → IsUndisturbed t d → InboundsIn t d j
  inbounds_at d j e (inl m) o u = absurd (e (some_is d c (sym o ∙ m.owner)))
  inbounds_at d j e (inr i) o u = that_inbounds d j e i (ap (λ (q : Conn). q.owner) (sym i.conn) ∙ o) u

  inbounds_of : (d j : ℕ) → (d ≡ c) ⊎ (d ≡ c → ⊥) → (Invariant.conn t.world j).owner ≡ Some d → IsUndisturbed t d → InboundsIn t d j
  inbounds_of d j (inl e) o u = subst (λ i. InboundsIn t i j) (sym e) (this_inbounds j (o ∙ ap Some e) (subst (λ i. IsUndisturbed t i) e u))
  inbounds_of d j (inr e) o u = inbounds_at d j e (h.conns j) o u

  pub changed : Invariant.Inv s t
  changed = record {
    shape = h.shape;
    logged = subst (λ us. Invariant.Logged s us (state_in t.world.host)) (sym h.log) (subst (λ (v : State). Invariant.Logged s (updates_of r.log) v) (sym h.state) st.logged);
    given = λ k a l e f d g.
        let m = h.links k a l e f in
        m.3 ∙ st.given k a m.0 m.1 m.2 d (subst (λ (x : List (ℕ × Option ℕ)). all_given d a x ≡ true) h.given g);
    actors = λ k a l e f.
        let m = h.links k a l e f in
        subst (λ (ts : List Session). (0 < a) × (a ≤ length ts)) (sym same_sessions) (st.actors k a m.0 m.1 m.2);
    nobody = λ d. subst (λ (x : List (ℕ × Option ℕ)). all_given d 0 x ≡ true) (sym h.given) (st.nobody d);
    client = λ d u. client_of d (cases_eq d c) u;
    inbounds = λ d j o u. inbounds_of d j (cases_eq d c) o u;
  }
