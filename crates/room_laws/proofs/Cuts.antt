-- A client notices that its connection is lost.
use Rattle.std.proofs.Common.{◌≡◌, ℕ, ◌<◌, ◌⊎◌, inl, inr, true, false, List, [], refl, sym, ap, ◌∙◌, subst, ⊎_elim}
use Rattle.std.specs.Prelude.{Option, Some, None, is_some}
use Rattle.std.proofs.lemmas.Bool.{cases_eq}
use Rattle.std.specs.FinMap.{get}
use Rattle.room_msg.specs.declared.messages.Resume.{Resume}
use Rattle.room_log.specs.Log.{State, last_of, updates_of}
use Rattle.room_model.specs.Account.{Batch, Idle, Synced, actor_in}
use Rattle.room_model.specs.Server.{Link, Inbound}
use Rattle.room_model.specs.World.{Host, Conn, Slot, state_in, links_of, slot}
use Rattle.room_model.specs.Run.{Run, all_given, IsUndisturbed}
use Rattle.room_laws.specs.Core.{Core, core, actor}
use Rattle.room_laws.specs.Invariant
use Rattle.room_laws.proofs.Maps.{cut}
use Rattle.room_laws.proofs.Owns.{off, own_off}
use Rattle.room_laws.proofs.Keep.{Undisturbed, Mine, Still, changed, inbounds_as}
use Rattle.room_laws.proofs.Facts.{some_is, none_some, true_false}

pub idle_synced : Idle ≡ Synced → ⊥
idle_synced e = cc

-- another session's clocks aside, a inbound queue goes on standing where what is sent on it counts no more
pub inbounds_idle : (now : Type 0) (w : Option Resume) (tried tried' : ℕ) (all : List Batch) (last : ℕ) (l : Option Link) (q : List Inbound) → (now → ⊥)
    → Invariant.Inbounds ⊥ w tried all last l q → Invariant.Inbounds now w tried' all last l q
inbounds_idle now w tried tried' all last None q f h = h
inbounds_idle now w tried tried' all last (Some l) q f h = at_actor l.actor h
  where
    at_actor : (a : Option ℕ) → Invariant.InboundAt ⊥ w tried all last a q → Invariant.InboundAt now w tried' all last a q
    at_actor None u = record { resume = u.resume; is = u.is; old = u.old; current = λ n. absurd (f n) }
    at_actor (Some a) u = record { some = u.some; reach = u.reach; order = u.order; sent = λ n. absurd (f n) }

pub inbounds_any : (now : Type 0) (w : Option Resume) (tried : ℕ) (all : List Batch) (last : ℕ) (l : Option Link) (q : List Inbound)
    → Invariant.Inbounds now w tried all last l q → Invariant.Inbounds ⊥ w tried all last l q
inbounds_any now w tried all last l q h = inbounds_as now ⊥ w w tried tried all all last last l l q q (λ n. absurd n) refl refl refl refl refl refl h

pub record CutOff (r t : Run) (c : ℕ) (y : Slot) : Type 0 where
  pub host : t.world.host ≡ r.world.host
  pub opened : t.world.opened ≡ r.world.opened
  pub slot_is : slot t.world c ≡ y
  pub slots : (d : ℕ) → (d ≡ c → ⊥) → slot t.world d ≡ slot r.world d
  pub none : y.present ≡ None
  pub lost : core y.account ≡ off Idle (Invariant.core_of r.world c)
  pub here : (k : ℕ) → (slot r.world c).present ≡ Some k → Invariant.conn t.world k ≡ cut (Invariant.conn r.world k)
  pub else : (j : ℕ) → ((slot r.world c).present ≡ Some j → ⊥) → Invariant.conn t.world j ≡ Invariant.conn r.world j
  pub there : (j : ℕ) → is_some (get r.world.conns j) ≡ true → is_some (get t.world.conns j) ≡ true
  pub log : updates_of t.log ≡ updates_of r.log
  pub given : t.given ≡ r.given
  pub batches : (d : ℕ) → Invariant.issued_by t d ≡ Invariant.issued_by r d

-- a client's present connection, or another
pub is_present : (o : Option ℕ) (j : ℕ) → (o ≡ Some j) ⊎ (o ≡ Some j → ⊥)
is_present None j = inr (λ e. none_some j e)
is_present (Some k) j = ⊎_elim (λ e. inl (ap Some e)) (λ e. inr (λ i. e (some_is k j i))) (cases_eq k j)

module _ (s : State) (r t : Run) (c : ℕ) (y : Slot) (st : Invariant.Inv s r) (h : CutOff r t c y) where
  link_same : (j : ℕ) → Invariant.link t.world j ≡ Invariant.link r.world j
  link_same j = ap (λ (g : Host). get (links_of g) j) h.host

  abbrev At : ℕ → Type 0
  At j = ((slot r.world c).present ≡ Some j) ⊎ ((slot r.world c).present ≡ Some j → ⊥)

  at : (j : ℕ) → At j
  at j = is_present (slot r.world c).present j

  owner_at : (j : ℕ) → At j → (Invariant.conn t.world j).owner ≡ (Invariant.conn r.world j).owner
  owner_at j (inl e) = ap (λ (q : Conn). q.owner) (h.here j e)
  owner_at j (inr e) = ap (λ (q : Conn). q.owner) (h.else j e)

  inbound_at : (j : ℕ) → At j → (Invariant.conn t.world j).inbound ≡ (Invariant.conn r.world j).inbound
  inbound_at j (inl e) = ap (λ (q : Conn). q.inbound) (h.here j e)
  inbound_at j (inr e) = ap (λ (q : Conn). q.inbound) (h.else j e)

  gone : (slot t.world c).present ≡ None
  gone = ap (λ (z : Slot). z.present) h.slot_is ∙ h.none

  present_at : (d j : ℕ) → (d ≡ c) ⊎ (d ≡ c → ⊥) → At j → (slot t.world d).present ≡ Some j → Invariant.ListensFor (Invariant.conn t.world j) d
  present_at d j (inl e) a i = absurd (none_some j (sym gone ∙ subst (λ n. (slot t.world n).present ≡ Some j) e i))
  present_at d j (inr e) (inl a) i = absurd (e (some_is d c (sym (st.shape.present d j (ap (λ (z : Slot). z.present) (sym (h.slots d e)) ∙ i)).owner ∙ (st.shape.present c j a).owner)))
  present_at d j (inr e) (inr a) i = rw (h.else j a) (st.shape.present d j (ap (λ (z : Slot). z.present) (sym (h.slots d e)) ∙ i))

  heard_at : (d j : ℕ) → (d ≡ c) ⊎ (d ≡ c → ⊥) → At j → Invariant.ListensFor (Invariant.conn t.world j) d → (slot t.world d).present ≡ Some j
  heard_at d j e (inl a) o = absurd (true_false (sym o.listens ∙ ap (λ (q : Conn). q.listens) (h.here j a)))
  heard_at d j (inl e) (inr a) o = absurd (a (st.shape.heard c j (subst (λ n. Invariant.ListensFor (Invariant.conn r.world j) n) e (subst (λ (q : Conn). Invariant.ListensFor q d) (h.else j a) o))))
  heard_at d j (inr e) (inr a) o = ap (λ (z : Slot). z.present) (h.slots d e) ∙ st.shape.heard d j (subst (λ (q : Conn). Invariant.ListensFor q d) (h.else j a) o)

  deaf_at : (j : ℕ) → At j → (Invariant.conn t.world j).listens ≡ false → (Invariant.conn t.world j).outbound ≡ []
  deaf_at j (inl e) i = ap (λ (q : Conn). q.outbound) (h.here j e)
  deaf_at j (inr e) i = ap (λ (q : Conn). q.outbound) (h.else j e) ∙ st.shape.deaf j (sym (ap (λ (q : Conn). q.listens) (h.else j e)) ∙ i)

  unopened_at : (j : ℕ) → At j → r.world.opened < j → Invariant.conn t.world j ≡ Invariant.no_conn
  unopened_at j (inl e) i = absurd (none_some c (sym (ap (λ (q : Conn). q.owner) (st.shape.unopened j i)) ∙ (st.shape.present c j e).owner))
  unopened_at j (inr e) i = h.else j e ∙ st.shape.unopened j i

  conns_at : (j : ℕ) → At j → Mine r t c j ⊎ Still r t c j
  conns_at j (inl e) = inl (record { owner = owner_at j (inl e) ∙ (st.shape.present c j e).owner; was = inl (st.shape.present c j e).owner })
  conns_at j (inr e) = inr (record { conn = h.else j e; link = link_same j })

  session_same : (y.account).session ≡ (Invariant.core_of r.world c).session
  session_same = ap (λ (x : Core). x.session) h.lost

  before : Undisturbed r.given c (core y.account) → IsUndisturbed r c
  before u = subst (λ (w : Option Resume). all_given c (actor_in w) r.given ≡ true) session_same u

  cut_client : IsUndisturbed r c → Invariant.Client s (updates_of r.log) (Invariant.sessions r) r.given c None (off Idle (Invariant.core_of r.world c)) (Invariant.issued_by r c) [] None
  cut_client u =
      let k = st.client c u in
      record {
        done = k.done;
        coming = k.coming;
        own = own_off s (updates_of r.log) (last_of (Invariant.sessions r) (actor (Invariant.core_of r.world c))) (Invariant.core_of r.world c) (Invariant.issued_by r c) k.done k.coming Idle idle_synced k.own;
        stands = k.stands;
        standing = record { idle = refl; bare = refl };
      }

  pub keeps_cut : Invariant.Inv s t
  keeps_cut = changed r t c y (Invariant.issued_by r c) s st (record {
    slot_is = h.slot_is;
    batches_are = h.batches c;
    shape = record {
      hosts = subst Invariant.Hosts (sym h.host) st.shape.hosts;
      present = λ d j e. present_at d j (cases_eq d c) (at j) e;
      heard = λ d j o. heard_at d j (cases_eq d c) (at j) o;
      deaf = λ j e. deaf_at j (at j) e;
      unlinked = λ j e. link_same j ∙ st.shape.unlinked j (subst (λ n. n < j) h.opened e);
      unopened = λ j e. unopened_at j (at j) (subst (λ n. n < j) h.opened e);
      there = λ j l e. h.there j (st.shape.there j l (sym (link_same j) ∙ e));
    };
    log = h.log;
    state = ap state_in h.host;
    given = h.given;
    slots = h.slots;
    batches = λ d e. h.batches d;
    conns = λ j. conns_at j (at j);
    links = λ j a l e i. (l, sym (link_same j) ∙ e, i, owner_at j (at j));
    client = λ u. rw (h.none, h.lost) (cut_client (before u));
    inbounds = λ j o u. inbounds_after j o (before u);
  })
    where
      inbounds_after : (j : ℕ) → (Invariant.conn t.world j).owner ≡ Some c → IsUndisturbed r c
          → Invariant.Inbounds (y.present ≡ Some j) (y.account).session (Invariant.tried (core y.account)) (Invariant.issued_by r c)
          (last_of (Invariant.sessions r) (actor (core y.account))) (Invariant.link t.world j) (Invariant.conn t.world j).inbound
      inbounds_after j o u =
          let x = Invariant.core_of r.world c in
          let last = last_of (Invariant.sessions r) (actor x) in
          let old = inbounds_any ((slot r.world c).present ≡ Some j) x.session (Invariant.tried x) (Invariant.issued_by r c) last (Invariant.link r.world j) (Invariant.conn r.world j).inbound
          (st.inbounds c j (sym (owner_at j (at j)) ∙ o) u) in
          let new = inbounds_idle (None ≡ Some j) x.session (Invariant.tried x) (Invariant.tried (off Idle x)) (Invariant.issued_by r c) last (Invariant.link r.world j) (Invariant.conn r.world j).inbound (λ n. none_some j n) old in
          subst (λ (p : Option ℕ). Invariant.Inbounds (p ≡ Some j) (y.account).session (Invariant.tried (core y.account)) (Invariant.issued_by r c)
          (last_of (Invariant.sessions r) (actor (core y.account))) (Invariant.link t.world j) (Invariant.conn t.world j).inbound) (sym h.none)
          (subst (λ (z : Core). Invariant.Inbounds (None ≡ Some j) z.session (Invariant.tried z) (Invariant.issued_by r c)
          (last_of (Invariant.sessions r) (actor z)) (Invariant.link t.world j) (Invariant.conn t.world j).inbound) (sym h.lost)
          (rw (link_same j, inbound_at j (at j)) new))
