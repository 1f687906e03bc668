-- Connections that no client dialled.
use Rattle.std.proofs.Common.{◌≡◌, ℕ, ◌+◌, ◌<◌, ◌≤◌, ◌⊎◌, inl, inr, Bool, true, false, List, [], ◌∷◌, ◌++◌, length, refl, sym, ap, ◌∙◌, subst, arith}
use Rattle.std.specs.Prelude.{Option, Some, None, is_some}
use Rattle.std.proofs.lemmas.Bool.{cases_eq}
use Rattle.std.specs.FinMap.{get}
use Rattle.room_msg.specs.Frame.{client_frame_in}
use Rattle.room_log.specs.Log.{State, last_of, updates_of}
use Rattle.room_model.specs.Server.{Link, Inbound}
use Rattle.room_model.specs.World
use Rattle.room_model.specs.World.{Conn, Slot, Host, Running, Stopped, state_in, links_of, slot}
use Rattle.room_model.specs.Run.{Run, with_step}
use Rattle.room_laws.specs.Core.{actor}
use Rattle.room_laws.specs.Invariant
use Rattle.room_laws.proofs.Maps.{conn_same, conn_other, get_same, get_other}
use Rattle.room_laws.proofs.Keep.{client_as, inbounds_as}
use Rattle.room_laws.proofs.Dials.{OpenedHost, opened_at_host, BareIn}
use Rattle.room_laws.proofs.Strange.{keeps_strange}
use Rattle.room_laws.proofs.OwnLines.{keeps_saying}
use Rattle.room_laws.proofs.Facts.{some_is, none_some}

bare_none : (o : Option Link) (l : Link) (a : ℕ) → BareIn o → o ≡ Some l → l.actor ≡ Some a → ⊥
bare_none None l a b e f = none_some l e
bare_none (Some k) l a b e f = none_some a (sym b.actor ∙ ap (λ (n : Link). n.actor) (some_is k l e) ∙ f)

-- a new connection of nobody
module _ (s : State) (r : Run) (st : Invariant.Inv s r) where
  abbrev new : ℕ
  new = r.world.opened + 1

  abbrev fresh : Conn
  fresh = World.new_conn None

  abbrev t : Run
  t = record r { world = World.open_conn r.world None }

  opened : OpenedHost r.world.host t.world.host new
  opened = opened_at_host r.world.host new (omega arith) (st.shape.unlinked new (omega arith))

  here : Invariant.conn t.world new ≡ fresh
  here = conn_same r.world.conns new fresh

  else : (j : ℕ) → (j ≡ new → ⊥) → Invariant.conn t.world j ≡ Invariant.conn r.world j
  else j e = conn_other r.world.conns new fresh j e

  absent : (d j : ℕ) → (Invariant.conn r.world j).owner ≡ Some d → j ≡ new → ⊥
  absent d j o e = none_some d (sym (ap (λ (q : Conn). q.owner) (st.shape.unopened j (omega arith))) ∙ o)

  absent_after : (d j : ℕ) → (Invariant.conn t.world j).owner ≡ Some d → j ≡ new → ⊥
  absent_after d j o e = none_some d (sym (ap (λ (q : Conn). q.owner) here) ∙ subst (λ n. (Invariant.conn t.world n).owner ≡ Some d) e o)

  deaf_at : (j : ℕ) → (j ≡ new) ⊎ (j ≡ new → ⊥) → (Invariant.conn t.world j).listens ≡ false → (Invariant.conn t.world j).outbound ≡ []
  deaf_at j (inl e) i = rw e (ap (λ (q : Conn). q.outbound) here)
  deaf_at j (inr e) i = ap (λ (q : Conn). q.outbound) (else j e) ∙ st.shape.deaf j (sym (ap (λ (q : Conn). q.listens) (else j e)) ∙ i)

  there_at : (j : ℕ) (l : Link) → (j ≡ new) ⊎ (j ≡ new → ⊥) → Invariant.link t.world j ≡ Some l → is_some (get t.world.conns j) ≡ true
  there_at j l (inl e) i = rw e (ap is_some (get_same r.world.conns new fresh))
  there_at j l (inr e) i = ap is_some (get_other r.world.conns new fresh j e) ∙ st.shape.there j l (sym (opened.others j e) ∙ i)

  link_at : (j a : ℕ) (l : Link) → (j ≡ new) ⊎ (j ≡ new → ⊥) → Invariant.link t.world j ≡ Some l → l.actor ≡ Some a → (Invariant.link r.world j ≡ Some l) × ((Invariant.conn t.world j).owner ≡ (Invariant.conn r.world j).owner)
  link_at j a l (inl e) i f = absurd (bare_none (Invariant.link t.world new) l a opened.link (subst (λ n. Invariant.link t.world n ≡ Some l) e i) f)
  link_at j a l (inr e) i f = (sym (opened.others j e) ∙ i, ap (λ (q : Conn). q.owner) (else j e))

  outbound_at : (d : ℕ) (o : Option ℕ) → (slot r.world d).present ≡ o → Invariant.present_outbound t.world o ≡ Invariant.present_outbound r.world o
  outbound_at d None e = refl
  outbound_at d (Some j) e = ap (λ (q : Conn). q.outbound) (else j (absent d j (st.shape.present d j e).owner))

  present_link_at : (d : ℕ) (o : Option ℕ) → (slot r.world d).present ≡ o → Invariant.present_link t.world o ≡ Invariant.present_link r.world o
  present_link_at d None e = refl
  present_link_at d (Some j) e = opened.others j (absent d j (st.shape.present d j e).owner)

  opens : Invariant.Inv s t
  opens = record {
    shape = record {
      hosts = opened.hosts st.shape.hosts;
      present = λ d j e.
          let o = st.shape.present d j e in
          subst (λ (q : Conn). Invariant.ListensFor q d) (sym (else j (absent d j o.owner))) o;
      heard = λ d j o. st.shape.heard d j (subst (λ (q : Conn). Invariant.ListensFor q d) (else j (absent_after d j o.owner)) o);
      deaf = λ j e. deaf_at j (cases_eq j new) e;
      unlinked = λ j e. opened.others j (λ i. absurd (omega arith)) ∙ st.shape.unlinked j (omega arith);
      unopened = λ j e. else j (λ i. absurd (omega arith)) ∙ st.shape.unopened j (omega arith);
      there = λ j l e. there_at j l (cases_eq j new) e;
    };
    logged = subst (λ (z : State). Invariant.Logged s (updates_of r.log) z) (sym opened.state) st.logged;
    given = λ j a l e f d g. let m = link_at j a l (cases_eq j new) e f in m.1 ∙ st.given j a l m.0 f d g;
    actors = λ j a l e f. subst (λ (z : State). (0 < a) × (a ≤ length z.sessions)) (sym opened.state) (st.actors j a l (link_at j a l (cases_eq j new) e f).0 f);
    nobody = st.nobody;
    client = λ d u. client_as s (updates_of r.log) (updates_of r.log) (Invariant.sessions r) (Invariant.sessions t) r.given r.given d (slot r.world d).present (slot r.world d).present
        (Invariant.core_of r.world d) (Invariant.core_of r.world d) (Invariant.issued_by r d) (Invariant.issued_by r d)
        (Invariant.present_outbound r.world (slot r.world d).present) (Invariant.present_outbound t.world (slot r.world d).present)
        (Invariant.present_link r.world (slot r.world d).present) (Invariant.present_link t.world (slot r.world d).present)
        refl (ap (λ (z : State). z.sessions) opened.state) refl refl refl refl (outbound_at d (slot r.world d).present refl) (present_link_at d (slot r.world d).present refl) (st.client d u);
    inbounds = λ d j o u.
        let e = absent_after d j o in
        inbounds_as ((slot r.world d).present ≡ Some j) ((slot r.world d).present ≡ Some j) (Invariant.core_of r.world d).session (Invariant.core_of r.world d).session
        (Invariant.tried (Invariant.core_of r.world d)) (Invariant.tried (Invariant.core_of r.world d)) (Invariant.issued_by r d) (Invariant.issued_by r d)
        (last_of (Invariant.sessions r) (actor (Invariant.core_of r.world d))) (last_of (Invariant.sessions t) (actor (Invariant.core_of r.world d)))
        (Invariant.link r.world j) (Invariant.link t.world j) (Invariant.conn r.world j).inbound (Invariant.conn t.world j).inbound
        (λ n. n) refl refl refl (ap (λ (z : State). last_of z.sessions (actor (Invariant.core_of r.world d))) opened.state) (opened.others j e) (ap (λ (q : Conn). q.inbound) (else j e))
        (st.inbounds d j (ap (λ (q : Conn). q.owner) (sym (else j e)) ∙ o) u);
  }

  pub keeps_link : Invariant.Inv s (with_step r (World.quiet (World.open_conn r.world None)))
  keeps_link = keeps_saying s t [] opens

  -- a text goes up on one
  raw_sent : (k : ℕ) (us : List Inbound) (b : Bool) (q : Conn) → World.is_attached r.world k ≡ b → get r.world.conns k ≡ Some q → q.owner ≡ None → Invariant.Inv s (record r { world = World.inbounds_on r.world k us b (Some q) })
  raw_sent k us false q a e o = st
  raw_sent k us true q a e o = keeps_strange s r k q (record q { inbound = q.inbound ++ us }) st (ap Invariant.conn_in e) o o
      (λ i. ap (λ (x : Conn). x.outbound) (sym (ap Invariant.conn_in e)) ∙ st.shape.deaf k (ap (λ (x : Conn). x.listens) (ap Invariant.conn_in e) ∙ i))
      (λ i. no (sym (ap is_some (st.shape.unlinked k i)) ∙ a))
    where
      no : false ≡ true → ⊥
      no d = cc

  raw_on : (k : ℕ) (text : List ℕ) (q : Conn) (o : Option ℕ) → get r.world.conns k ≡ Some q → q.owner ≡ o → Invariant.Inv s (record r { world = World.raw_on r.world k text o })
  raw_on k text q (Some c) e f = st
  raw_on k text q None e f = rw e (raw_sent k (client_frame_in text ∷ []) (World.is_attached r.world k) q refl e f)

  raw_at : (k : ℕ) (text : List ℕ) (o : Option Conn) → get r.world.conns k ≡ o → Invariant.Inv s (record r { world = World.raw_at r.world k text o })
  raw_at k text None e = st
  raw_at k text (Some q) e = raw_on k text q q.owner e refl

  pub keeps_raw : (k : ℕ) (text : List ℕ) → Invariant.Inv s (with_step r (World.quiet (World.raw_at r.world k text (get r.world.conns k))))
  keeps_raw k text = keeps_saying s (record r { world = World.raw_at r.world k text (get r.world.conns k) }) [] (raw_at k text (get r.world.conns k) refl)
