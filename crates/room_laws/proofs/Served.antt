-- A step of the server.
use Rattle.std.proofs.Common.{◌≡◌, ℕ, ◌<◌, ◌≤◌, Bool, true, false, cond, List, [], ◌++◌, length, refl, sym, ap, ◌∙◌, subst}
use Rattle.std.specs.Prelude.{Option, Some, None, is_some}
use Rattle.std.specs.FinMap.{get}
use Rattle.room_msg.specs.declared.messages.Resume.{Resume}
use Rattle.room_log.specs.Log.{State, Update, last_of, updates_of}
use Rattle.room_model.specs.Account.{actor_in}
use Rattle.room_model.specs.Server.{Outbound, Link, Inbound}
use Rattle.room_model.specs.World.{Conn, Slot, state_in, slot, account}
use Rattle.room_model.specs.Run.{Run, all_given, IsUndisturbed}
use Rattle.room_laws.specs.Core.{core, actor}
use Rattle.room_laws.specs.Queues.{Place}
use Rattle.room_laws.specs.Invariant
use Rattle.room_laws.proofs.Queues.{grown}
use Rattle.room_laws.proofs.Keep.{inbounds_as, client_as}
use Rattle.room_laws.proofs.RunSteps.{given_before, given_all}

-- a connection after the step
abbrev pub fed : Conn → List Inbound → List Outbound → Conn
fed q us ms = record { owner = q.owner; inbound = us; outbound = cond q.listens (q.outbound ++ ms) q.outbound; listens = q.listens }

abbrev pub ClientOf : State → Run → ℕ → Type 0
ClientOf s r d = Invariant.Client s (updates_of r.log) (Invariant.sessions r) r.given d (slot r.world d).present (Invariant.core_of r.world d) (Invariant.issued_by r d)
    (Invariant.present_outbound r.world (slot r.world d).present) (Invariant.present_link r.world (slot r.world d).present)

-- `grew`: the updates that it took; `more`: the actors that it gave; `sends` and `inbounds`: what it sent, and what is left in the inbound queues
pub record ServerTurn (s : State) (r t : Run) (grew : List Update) (more : List (ℕ × Option ℕ)) (sends : ℕ → List Outbound) (inbounds : ℕ → List Inbound) : Type 0 where
  pub slots : (d : ℕ) → slot t.world d ≡ slot r.world d
  pub batches : (d : ℕ) → Invariant.issued_by t d ≡ Invariant.issued_by r d
  pub opened : t.world.opened ≡ r.world.opened
  pub log : updates_of t.log ≡ updates_of r.log ++ grew
  pub given_is : t.given ≡ r.given ++ more
  pub conns : (j : ℕ) → Invariant.conn t.world j ≡ fed (Invariant.conn r.world j) (inbounds j) (sends j)
  pub there : (j : ℕ) → is_some (get r.world.conns j) ≡ true → is_some (get t.world.conns j) ≡ true
  pub hosts : Invariant.Hosts t.world.host
  pub unopened : (j : ℕ) → r.world.opened < j → inbounds j ≡ []
  pub attached : (j : ℕ) (l : Link) → Invariant.link t.world j ≡ Some l → (m : Link) × (Invariant.link r.world j ≡ Some m)
  pub logged : Invariant.Logged s (updates_of r.log ++ grew) (state_in t.world.host)
  pub given : (j a : ℕ) (l : Link) → Invariant.link t.world j ≡ Some l → l.actor ≡ Some a → Invariant.IsGiven (r.given ++ more) (Invariant.conn r.world j).owner a
  pub actors : (j a : ℕ) (l : Link) → Invariant.link t.world j ≡ Some l → l.actor ≡ Some a → (0 < a) × (a ≤ length (Invariant.sessions t))
  pub nobody : (c : ℕ) → all_given c 0 more ≡ true
  pub owns : (d : ℕ) → all_given d (actor (Invariant.core_of r.world d)) (r.given ++ more) ≡ true → (h : ClientOf s r d)
      → Invariant.Own s (updates_of r.log ++ grew) (last_of (Invariant.sessions t) (actor (Invariant.core_of r.world d))) (Invariant.core_of r.world d) (Invariant.issued_by r d) h.done (h.coming ++ grew)
  pub stands : (w : Resume) → Invariant.Stands s (Invariant.sessions r) w → Invariant.Stands s (Invariant.sessions t) w
  pub presents : (d j : ℕ) → all_given d (actor (Invariant.core_of r.world d)) (r.given ++ more) ≡ true → (slot r.world d).present ≡ Some j → (here : Place)
      → updates_of r.log ≡ here.done ++ here.coming → ClientOf s r d
      → Invariant.Present s (updates_of r.log) (Invariant.sessions r) r.given d (Invariant.core_of r.world d).session here (Invariant.conn r.world j).outbound (Invariant.link r.world j)
      → Invariant.Present s (updates_of r.log ++ grew) (Invariant.sessions t) (r.given ++ more) d (Invariant.core_of r.world d).session (grown grew here) ((Invariant.conn r.world j).outbound ++ sends j) (Invariant.link t.world j)
  pub inbounds_are : (d j : ℕ) → (Invariant.conn r.world j).owner ≡ Some d → all_given d (actor (Invariant.core_of r.world d)) (r.given ++ more) ≡ true
      → Invariant.Inbounds ((slot r.world d).present ≡ Some j) (Invariant.core_of r.world d).session (Invariant.tried (Invariant.core_of r.world d)) (Invariant.issued_by r d)
      (last_of (Invariant.sessions t) (actor (Invariant.core_of r.world d))) (Invariant.link t.world j) (inbounds j)

module _ (s : State) (r t : Run) (grew : List Update) (more : List (ℕ × Option ℕ)) (sends : ℕ → List Outbound) (inbounds : ℕ → List Inbound) (st : Invariant.Inv s r) (h : ServerTurn s r t grew more sends inbounds) where
  undisturbed : (d : ℕ) → IsUndisturbed t d → all_given d (actor (Invariant.core_of r.world d)) (r.given ++ more) ≡ true
  undisturbed d u = subst (λ (y : Slot). all_given d (actor_in (y.account).session) (r.given ++ more) ≡ true) (h.slots d)
      (subst (λ (g : List (ℕ × Option ℕ)). all_given d (actor_in (account t.world d).session) g ≡ true) h.given_is u)

  before : (d : ℕ) → all_given d (actor (Invariant.core_of r.world d)) (r.given ++ more) ≡ true → IsUndisturbed r d
  before d u = given_before d (actor (Invariant.core_of r.world d)) r.given more u

  stands_in : (o : Option Resume) → Invariant.StandsIn s (Invariant.sessions r) o → Invariant.StandsIn s (Invariant.sessions t) o
  stands_in None k = tt
  stands_in (Some w) k = h.stands w k

  open_before : (j d : ℕ) → Invariant.ListensFor (Invariant.conn t.world j) d → Invariant.ListensFor (Invariant.conn r.world j) d
  open_before j d o = record { owner = ap (λ (q : Conn). q.owner) (sym (h.conns j)) ∙ o.owner; listens = ap (λ (q : Conn). q.listens) (sym (h.conns j)) ∙ o.listens }

  open_after : (j d : ℕ) → Invariant.ListensFor (Invariant.conn r.world j) d → Invariant.ListensFor (Invariant.conn t.world j) d
  open_after j d o = record { owner = ap (λ (q : Conn). q.owner) (h.conns j) ∙ o.owner; listens = ap (λ (q : Conn). q.listens) (h.conns j) ∙ o.listens }

  deaf_at : (j : ℕ) (b : Bool) → (Invariant.conn r.world j).listens ≡ b → (Invariant.conn t.world j).listens ≡ false → (Invariant.conn t.world j).outbound ≡ []
  deaf_at j true e i = absurd (no (sym e ∙ ap (λ (q : Conn). q.listens) (sym (h.conns j)) ∙ i))
    where
      no : true ≡ false → ⊥
      no d = cc
  deaf_at j false e i = ap (λ (q : Conn). q.outbound) (h.conns j) ∙ ap (λ b. cond b ((Invariant.conn r.world j).outbound ++ sends j) (Invariant.conn r.world j).outbound) e ∙ st.shape.deaf j e

  unopened_at : (j : ℕ) → r.world.opened < j → Invariant.conn t.world j ≡ Invariant.no_conn
  unopened_at j i = h.conns j ∙ ap (λ (us : List Inbound). fed (Invariant.conn r.world j) us (sends j)) (h.unopened j i) ∙ ap (λ (q : Conn). fed q [] (sends j)) (st.shape.unopened j i)

  outbound_open : (j d : ℕ) → Invariant.ListensFor (Invariant.conn r.world j) d → (Invariant.conn t.world j).outbound ≡ (Invariant.conn r.world j).outbound ++ sends j
  outbound_open j d o = ap (λ (q : Conn). q.outbound) (h.conns j) ∙ ap (λ b. cond b ((Invariant.conn r.world j).outbound ++ sends j) (Invariant.conn r.world j).outbound) o.listens

  standing_at : (d : ℕ) (o : Option ℕ) → all_given d (actor (Invariant.core_of r.world d)) (r.given ++ more) ≡ true → (slot r.world d).present ≡ o → (here : Place) → updates_of r.log ≡ here.done ++ here.coming → ClientOf s r d
      → Invariant.Standing s (updates_of r.log) (Invariant.sessions r) r.given d o (Invariant.core_of r.world d).session here (Invariant.present_outbound r.world o) (Invariant.present_link r.world o)
      → Invariant.Standing s (updates_of r.log ++ grew) (Invariant.sessions t) (r.given ++ more) d o (Invariant.core_of r.world d).session (grown grew here) (Invariant.present_outbound t.world o) (Invariant.present_link t.world o)
  standing_at d None u e here w c k = record { idle = k.idle; bare = k.bare }
  standing_at d (Some j) u e here w c k = rw (outbound_open j d (st.shape.present d j e)) (h.presents d j u e here w c k)

  client_at : (d : ℕ) → all_given d (actor (Invariant.core_of r.world d)) (r.given ++ more) ≡ true
      → Invariant.Client s (updates_of r.log ++ grew) (Invariant.sessions t) (r.given ++ more) d (slot r.world d).present (Invariant.core_of r.world d) (Invariant.issued_by r d)
      (Invariant.present_outbound t.world (slot r.world d).present) (Invariant.present_link t.world (slot r.world d).present)
  client_at d u =
      let k : ClientOf s r d = st.client d (before d u) in
      record {
        done = k.done;
        coming = k.coming ++ grew;
        own = h.owns d u k;
        stands = stands_in (Invariant.core_of r.world d).session k.stands;
        standing = standing_at d (slot r.world d).present u refl (Invariant.place (Invariant.core_of r.world d) k.done k.coming) k.own.whole k k.standing;
      }

  pub served : Invariant.Inv s t
  served = record {
    shape = record {
      hosts = h.hosts;
      present = λ d j e. open_after j d (st.shape.present d j (ap (λ (y : Slot). y.present) (sym (h.slots d)) ∙ e));
      heard = λ d j o. ap (λ (y : Slot). y.present) (h.slots d) ∙ st.shape.heard d j (open_before j d o);
      deaf = λ j e. deaf_at j (Invariant.conn r.world j).listens refl e;
      unlinked = λ j e. unlinked_at j (Invariant.link t.world j) refl (subst (λ n. n < j) h.opened e);
      unopened = λ j e. unopened_at j (subst (λ n. n < j) h.opened e);
      there = λ j l e. let m = h.attached j l e in h.there j (st.shape.there j m.0 m.1);
    };
    logged = rw h.log h.logged;
    given = λ j a l e f d g. ap (λ (q : Conn). q.owner) (h.conns j) ∙ h.given j a l e f d (subst (λ (x : List (ℕ × Option ℕ)). all_given d a x ≡ true) h.given_is g);
    actors = h.actors;
    nobody = λ d. rw h.given_is (given_all d 0 r.given more (st.nobody d) (h.nobody d));
    client = λ d u. client_as s (updates_of r.log ++ grew) (updates_of t.log) (Invariant.sessions t) (Invariant.sessions t) (r.given ++ more) t.given d (slot r.world d).present (slot t.world d).present
        (Invariant.core_of r.world d) (Invariant.core_of t.world d) (Invariant.issued_by r d) (Invariant.issued_by t d)
        (Invariant.present_outbound t.world (slot r.world d).present) (Invariant.present_outbound t.world (slot t.world d).present)
        (Invariant.present_link t.world (slot r.world d).present) (Invariant.present_link t.world (slot t.world d).present)
        h.log refl h.given_is (ap (λ (y : Slot). y.present) (h.slots d)) (ap (λ (y : Slot). core y.account) (h.slots d)) (h.batches d)
        (ap (λ (y : Slot). Invariant.present_outbound t.world y.present) (h.slots d)) (ap (λ (y : Slot). Invariant.present_link t.world y.present) (h.slots d))
        (client_at d (undisturbed d u));
    inbounds = λ d j o u.
        inbounds_as ((slot r.world d).present ≡ Some j) ((slot t.world d).present ≡ Some j) (Invariant.core_of r.world d).session (Invariant.core_of t.world d).session
        (Invariant.tried (Invariant.core_of r.world d)) (Invariant.tried (Invariant.core_of t.world d)) (Invariant.issued_by r d) (Invariant.issued_by t d)
        (last_of (Invariant.sessions t) (actor (Invariant.core_of r.world d))) (last_of (Invariant.sessions t) (actor (Invariant.core_of t.world d)))
        (Invariant.link t.world j) (Invariant.link t.world j) (inbounds j) (Invariant.conn t.world j).inbound
        (λ n. ap (λ (y : Slot). y.present) (sym (h.slots d)) ∙ n)
        (ap (λ (y : Slot). (core y.account).session) (h.slots d)) (ap (λ (y : Slot). Invariant.tried (core y.account)) (h.slots d)) (h.batches d)
        (ap (λ (y : Slot). last_of (Invariant.sessions t) (actor (core y.account))) (h.slots d)) refl (ap (λ (q : Conn). q.inbound) (h.conns j))
        (h.inbounds_are d j (ap (λ (q : Conn). q.owner) (sym (h.conns j)) ∙ o) (undisturbed d u));
  }
    where
      unlinked_at : (j : ℕ) (o : Option Link) → Invariant.link t.world j ≡ o → r.world.opened < j → o ≡ None
      unlinked_at j None e i = refl
      unlinked_at j (Some l) e i = let m = h.attached j l e in absurd (none_some m.0 (sym (st.shape.unlinked j i) ∙ m.1))
        where
          none_some : (l : Link) → None ≡ Some l → ⊥
          none_some l d = cc
