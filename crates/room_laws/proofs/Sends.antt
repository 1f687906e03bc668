-- A client goes on with its present connection: its account changes, its outbound queue gets shorter, and frames go up.
use Rattle.std.proofs.Common.{◌≡◌, ℕ, ◌<◌, ◌⊎◌, inl, inr, Bool, true, false, cond, List, [], ◌++◌, refl, sym, ap, ◌∙◌, subst, ⊎_elim}
use Rattle.std.specs.Prelude.{Option, Some, None, is_some}
use Rattle.std.proofs.lemmas.Bool.{cases_eq}
use Rattle.std.specs.FinMap.{get}
use Rattle.room_log.specs.Log.{State, Session, Update, last_of, updates_of}
use Rattle.room_model.specs.Account.{Batch}
use Rattle.room_model.specs.Server.{Outbound, Link, Inbound}
use Rattle.room_model.specs.World.{World, Host, Conn, Slot, state_in, links_of, is_attached, inbounds_on, send_inbound, slot}
use Rattle.room_model.specs.Run.{Run, IsUndisturbed}
use Rattle.room_laws.specs.Core.{Core, core, actor}
use Rattle.room_laws.specs.Invariant
use Rattle.room_laws.proofs.Maps.{conn_same, conn_other, get_same, get_other}
use Rattle.room_laws.proofs.Keep.{Undisturbed, Mine, Still, changed, inbounds_as}

abbrev pub sent_on : Conn → Bool → List Inbound → Conn
sent_on q attached us = record q { inbound = cond attached (q.inbound ++ us) q.inbound }

-- what becomes of a world by frames that go up on k
pub record SentUp (w v : World) (k : ℕ) (us : List Inbound) : Type 0 where
  pub host : v.host ≡ w.host
  pub clients : v.clients ≡ w.clients
  pub opened : v.opened ≡ w.opened
  pub here : Invariant.conn v k ≡ sent_on (Invariant.conn w k) (is_attached w k) us
  pub else : (j : ℕ) → (j ≡ k → ⊥) → Invariant.conn v j ≡ Invariant.conn w j
  pub there : (j : ℕ) → is_some (get w.conns j) ≡ true → is_some (get v.conns j) ≡ true

false_true : false ≡ true → ⊥
false_true e = cc

sent_inbound_at : (w : World) (k : ℕ) (us : List Inbound) (b : Bool) (o : Option Conn) → is_attached w k ≡ b → get w.conns k ≡ o → (b ≡ true → is_some o ≡ true) → SentUp w (inbounds_on w k us b o) k us
sent_inbound_at w k us true (Some q) e f h = record {
  host = refl;
  clients = refl;
  opened = refl;
  here = rw (e, f) (conn_same w.conns k (record q { inbound = q.inbound ++ us }));
  else = λ j i. conn_other w.conns k (record q { inbound = q.inbound ++ us }) j i;
  there = λ j i. ⊎_elim (λ d. rw d (ap is_some (get_same w.conns k (record q { inbound = q.inbound ++ us })))) (λ d. ap is_some (get_other w.conns k (record q { inbound = q.inbound ++ us }) j d) ∙ i) (cases_eq j k);
}
sent_inbound_at w k us true None e f h = absurd (false_true (h refl))
sent_inbound_at w k us false o e f h = record { host = refl; clients = refl; opened = refl; here = rw e refl; else = λ j i. refl; there = λ j i. i }

attached_there : (w : World) (k : ℕ) (l : Option Link) → Invariant.link w k ≡ l → ((m : Link) → Invariant.link w k ≡ Some m → is_some (get w.conns k) ≡ true) → is_some l ≡ true → is_some (get w.conns k) ≡ true
attached_there w k None e h i = absurd (false_true i)
attached_there w k (Some m) e h i = h m e

pub sent_inbound : (w : World) (k : ℕ) (us : List Inbound) → ((m : Link) → Invariant.link w k ≡ Some m → is_some (get w.conns k) ≡ true) → SentUp w (send_inbound w k us) k us
sent_inbound w k us h = sent_inbound_at w k us (is_attached w k) (get w.conns k) refl refl (λ e. attached_there w k (Invariant.link w k) refl h e)

-- the connection k of the client c, present before and after
pub record Turn (r t : Run) (c k : ℕ) (y : Slot) (ms : List Outbound) (us : List Inbound) : Type 0 where
  pub host : t.world.host ≡ r.world.host
  pub opened : t.world.opened ≡ r.world.opened
  pub before : (slot r.world c).present ≡ Some k
  pub after : y.present ≡ Some k
  pub slot_is : slot t.world c ≡ y
  pub slots : (d : ℕ) → (d ≡ c → ⊥) → slot t.world d ≡ slot r.world d
  pub here : Invariant.conn t.world k ≡ sent_on (record (Invariant.conn r.world k) { outbound = ms }) (is_some (Invariant.link r.world k)) us
  pub else : (j : ℕ) → (j ≡ k → ⊥) → Invariant.conn t.world j ≡ Invariant.conn r.world j
  pub there : (j : ℕ) → is_some (get r.world.conns j) ≡ true → is_some (get t.world.conns j) ≡ true
  pub log : updates_of t.log ≡ updates_of r.log
  pub given : t.given ≡ r.given
  pub batches : (d : ℕ) → Invariant.issued_by t d ≡ Invariant.issued_by r d

-- what the client's part of it is; x before, y after
pub record Turned (s : State) (us : List Update) (ss : List Session) (given : List (ℕ × Option ℕ)) (c k : ℕ) (x y : Core) (all : List Batch) (ms : List Outbound) (l : Option Link) (inbounds : List Inbound) : Type 0 where
  pub client : Invariant.Client s us ss given c (Some k) y all ms l
  pub own : Invariant.Inbounds (Some k ≡ Some k) y.session (Invariant.tried y) all (last_of ss (actor y)) l inbounds
  -- queues of its other connections go on standing
  pub others : (m : Option Link) (q : List Inbound) → Invariant.Inbounds ⊥ x.session (Invariant.tried x) all (last_of ss (actor x)) m q → Invariant.Inbounds ⊥ y.session (Invariant.tried y) all (last_of ss (actor y)) m q

module _ (s : State) (r t : Run) (c k : ℕ) (y : Slot) (ms : List Outbound) (us : List Inbound) (st : Invariant.Inv s r) (h : Turn r t c k y ms us) where
  open_here : Invariant.ListensFor (Invariant.conn r.world k) c
  open_here = st.shape.present c k h.before

  link_same : (j : ℕ) → Invariant.link t.world j ≡ Invariant.link r.world j
  link_same j = ap (λ (g : Host). get (links_of g) j) h.host

  -- owners and listening stay
  conn_as : (j : ℕ) → (j ≡ k) ⊎ (j ≡ k → ⊥) → ((Invariant.conn t.world j).owner ≡ (Invariant.conn r.world j).owner) × ((Invariant.conn t.world j).listens ≡ (Invariant.conn r.world j).listens)
  conn_as j (inl e) = rw e (ap (λ (q : Conn). q.owner) h.here, ap (λ (q : Conn). q.listens) h.here)
  conn_as j (inr e) = (ap (λ (q : Conn). q.owner) (h.else j e), ap (λ (q : Conn). q.listens) (h.else j e))

  presents : (d : ℕ) → (d ≡ c) ⊎ (d ≡ c → ⊥) → (slot t.world d).present ≡ (slot r.world d).present
  presents d (inl e) = rw e (ap (λ (z : Slot). z.present) h.slot_is ∙ h.after ∙ sym h.before)
  presents d (inr e) = ap (λ (z : Slot). z.present) (h.slots d e)

  deaf_at : (j : ℕ) → (j ≡ k) ⊎ (j ≡ k → ⊥) → (Invariant.conn t.world j).listens ≡ false → (Invariant.conn t.world j).outbound ≡ []
  deaf_at j (inl e) i = absurd (true_false (sym (open_here).listens ∙ sym (subst (λ n. (Invariant.conn t.world n).listens ≡ (Invariant.conn r.world n).listens) e (conn_as j (inl e)).1) ∙ subst (λ n. (Invariant.conn t.world n).listens ≡ false) e i))
    where
      true_false : true ≡ false → ⊥
      true_false d = cc
  deaf_at j (inr e) i = ap (λ (q : Conn). q.outbound) (h.else j e) ∙ st.shape.deaf j (sym (conn_as j (inr e)).1 ∙ i)

  unopened_at : (j : ℕ) → (j ≡ k) ⊎ (j ≡ k → ⊥) → r.world.opened < j → Invariant.conn t.world j ≡ Invariant.no_conn
  unopened_at j (inl e) i = absurd (none_some (sym (ap (λ (q : Conn). q.owner) (st.shape.unopened j i)) ∙ subst (λ n. (Invariant.conn r.world n).owner ≡ Some c) (sym e) (open_here).owner))
    where
      none_some : None ≡ Some c → ⊥
      none_some d = cc
  unopened_at j (inr e) i = h.else j e ∙ st.shape.unopened j i

  shape_after : Invariant.Shape t.world
  shape_after = record {
    hosts = subst Invariant.Hosts (sym h.host) st.shape.hosts;
    present = λ d j e.
        let o = st.shape.present d j (sym (presents d (cases_eq d c)) ∙ e) in
        record { owner = (conn_as j (cases_eq j k)).0 ∙ o.owner; listens = (conn_as j (cases_eq j k)).1 ∙ o.listens };
    heard = λ d j o. presents d (cases_eq d c)
        ∙ st.shape.heard d j (record { owner = sym (conn_as j (cases_eq j k)).0 ∙ o.owner; listens = sym (conn_as j (cases_eq j k)).1 ∙ o.listens });
    deaf = λ j e. deaf_at j (cases_eq j k) e;
    unlinked = λ j e. link_same j ∙ st.shape.unlinked j (subst (λ n. n < j) h.opened e);
    unopened = λ j e. unopened_at j (cases_eq j k) (subst (λ n. n < j) h.opened e);
    there = λ j l e. h.there j (st.shape.there j l (sym (link_same j) ∙ e));
  }

  conns_at : (j : ℕ) → (j ≡ k) ⊎ (j ≡ k → ⊥) → Mine r t c j ⊎ Still r t c j
  conns_at j (inl e) = inl (rw e (record { owner = (conn_as k (inl refl)).0 ∙ (open_here).owner; was = inl (open_here).owner }))
  conns_at j (inr e) = inr (record { conn = h.else j e; link = link_same j })

  some_is : {A : Type 0} (a b : A) → Some a ≡ Some b → a ≡ b
  some_is a b e = cc

  pub turns : (Undisturbed r.given c (core y.account) → IsUndisturbed r c × Turned s (updates_of r.log) (Invariant.sessions r) r.given c k (Invariant.core_of r.world c) (core y.account) (Invariant.issued_by r c) ms (Invariant.link r.world k)
      (cond (is_some (Invariant.link r.world k)) ((Invariant.conn r.world k).inbound ++ us) (Invariant.conn r.world k).inbound)) → Invariant.Inv s t
  turns f = changed r t c y (Invariant.issued_by r c) s st (record {
    slot_is = h.slot_is;
    batches_are = h.batches c;
    shape = shape_after;
    log = h.log;
    state = ap state_in h.host;
    given = h.given;
    slots = h.slots;
    batches = λ d e. h.batches d;
    conns = λ j. conns_at j (cases_eq j k);
    links = λ j a l e i. (l, sym (link_same j) ∙ e, i, (conn_as j (cases_eq j k)).0);
    client = λ u. rw h.after (rw (ap (λ (q : Conn). q.outbound) h.here, link_same k) (f u).1.client);
    inbounds = λ j o u. inbounds_at j (cases_eq j k) o u;
  })
    where
      inbounds_at : (j : ℕ) → (j ≡ k) ⊎ (j ≡ k → ⊥) → (Invariant.conn t.world j).owner ≡ Some c → Undisturbed r.given c (core y.account)
          → Invariant.Inbounds (y.present ≡ Some j) (y.account).session (Invariant.tried (core y.account)) (Invariant.issued_by r c)
          (last_of (Invariant.sessions r) (actor (core y.account))) (Invariant.link t.world j) (Invariant.conn t.world j).inbound
      inbounds_at j (inl e) o u = rw e (rw h.after (rw (ap (λ (q : Conn). q.inbound) h.here, link_same k) (f u).1.own))
      inbounds_at j (inr e) o u =
          let apart : (y.present ≡ Some j) → ⊥ = λ n. e (some_is j k (sym n ∙ h.after)) in
          let old = st.inbounds c j (sym (conn_as j (inr e)).0 ∙ o) (f u).0 in
          rw (link_same j, ap (λ (q : Conn). q.inbound) (h.else j e))
          (inbounds_as ⊥ (y.present ≡ Some j) (y.account).session (y.account).session (Invariant.tried (core y.account)) (Invariant.tried (core y.account)) (Invariant.issued_by r c) (Invariant.issued_by r c)
          (last_of (Invariant.sessions r) (actor (core y.account))) (last_of (Invariant.sessions r) (actor (core y.account))) (Invariant.link r.world j) (Invariant.link r.world j)
          (Invariant.conn r.world j).inbound (Invariant.conn r.world j).inbound apart refl refl refl refl refl refl
          ((f u).1.others (Invariant.link r.world j) (Invariant.conn r.world j).inbound
          (inbounds_as ((slot r.world c).present ≡ Some j) ⊥ (Invariant.core_of r.world c).session (Invariant.core_of r.world c).session (Invariant.tried (Invariant.core_of r.world c)) (Invariant.tried (Invariant.core_of r.world c)) (Invariant.issued_by r c) (Invariant.issued_by r c)
          (last_of (Invariant.sessions r) (actor (Invariant.core_of r.world c))) (last_of (Invariant.sessions r) (actor (Invariant.core_of r.world c))) (Invariant.link r.world j) (Invariant.link r.world j)
          (Invariant.conn r.world j).inbound (Invariant.conn r.world j).inbound (λ n. absurd n) refl refl refl refl refl refl old)))
