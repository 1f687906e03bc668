-- A client's own calls that send nothing.
use Rattle.std.proofs.Common.{◌≡◌, ℕ, ◌+◌, ◌<◌, ◌⊎◌, inl, inr, true, false, List, [], ◌∷◌, ◌++◌, length, refl, sym, ap, ◌∙◌, subst, append-nil}
use Rattle.std.specs.Prelude.{Option, Some, None}
use Rattle.std.proofs.lemmas.Bool.{cases_eq}
use Rattle.std.specs.FinMap.{get}
use Rattle.room_msg.specs.declared.messages.Resume.{Resume}
use Rattle.room_log.specs.Log.{State, Session, Update, last_of, updates_of}
use Rattle.room_model.specs.Account.{Batch, actor_in, ends}
use Rattle.room_model.specs.Server.{Outbound, Link, Inbound}
use Rattle.room_model.specs.World.{World, Slot, links_of, with_slot, issued_by, slot, slot_in}
use Rattle.room_model.specs.Run.{Run, with_step, all_given, IsUndisturbed}
use Rattle.room_laws.specs.Core.{Core, core, issued, actor}
use Rattle.room_laws.specs.Invariant
use Rattle.room_laws.proofs.Maps.{get_same, get_other}
use Rattle.room_laws.proofs.Queues.{order_issue}
use Rattle.room_laws.proofs.Owns.{issuing, own_issue}
use Rattle.room_laws.proofs.Keep.{Undisturbed, changed}
use Rattle.room_laws.proofs.RunSteps.{updates_of-nil, issued_own, issued_others}

-- A call leaves what the laws read, or issues one batch.
pub record Issues (x y : Core) (bs : List Batch) : Type 0 where
  pub batch : Batch
  pub one : bs ≡ batch ∷ []
  pub now : y ≡ issuing batch x
  pub first : batch.first ≡ ends x.told (issued x) + 1
  pub some : 0 < length batch.bodies

abbrev pub Called : Core → Core → List Batch → Type 0
Called x y bs = ((y ≡ x) × (bs ≡ [])) ⊎ Issues x y bs

called_client : (s : State) (us : List Update) (ss : List Session) (given : List (ℕ × Option ℕ)) (c : ℕ) (p : Option ℕ) (x y : Core) (all bs : List Batch) (q : List Outbound) (l : Option Link)
    → Called x y bs → Invariant.Client s us ss given c p x all q l → Invariant.Client s us ss given c p y (all ++ bs) q l
called_client s us ss given c p x y all bs q l (inl e) h = rw (e.0, e.1, append-nil all) h
called_client s us ss given c p x y all bs q l (inr e) h = rw (e.now, e.one) (record {
  done = h.done;
  coming = h.coming;
  own = own_issue s us (last_of ss (actor x)) x all h.done h.coming e.batch e.first e.some h.own;
  stands = h.stands;
  standing = h.standing;
})

inbounds_issue : (now : Type 0) (w : Option Resume) (tried : ℕ) (all bs : List Batch) (last : ℕ) (l : Option Link) (q : List Inbound)
    → Invariant.Inbounds now w tried all last l q → Invariant.Inbounds now w tried (all ++ bs) last l q
inbounds_issue now w tried all bs last None q h = h
inbounds_issue now w tried all bs last (Some l) q h = at_actor l.actor h
  where
    at_actor : (a : Option ℕ) → Invariant.InboundAt now w tried all last a q → Invariant.InboundAt now w tried (all ++ bs) last a q
    at_actor None u = record { resume = u.resume; is = u.is; old = u.old; current = u.current }
    at_actor (Some a) u = record { some = u.some; reach = u.reach; order = order_issue a (actor_in w) all last q u.reach bs u.order; sent = u.sent }

called_inbounds : (now : Type 0) (x y : Core) (all bs : List Batch) (ss : List Session) (l : Option Link) (q : List Inbound)
    → Called x y bs → Invariant.Inbounds now x.session (Invariant.tried x) all (last_of ss (actor x)) l q → Invariant.Inbounds now y.session (Invariant.tried y) (all ++ bs) (last_of ss (actor y)) l q
called_inbounds now x y all bs ss l q (inl e) h = rw (e.0, e.1, append-nil all) h
called_inbounds now x y all bs ss l q (inr e) h = rw e.now (inbounds_issue now x.session (Invariant.tried x) all bs (last_of ss (actor x)) l q h)

pub called_session : (x y : Core) (bs : List Batch) → Called x y bs → y.session ≡ x.session
called_session x y bs (inl e) = ap (λ (z : Core). z.session) e.0
called_session x y bs (inr e) = ap (λ (z : Core). z.session) e.now

pub slot_same : (w : World) (c : ℕ) (p : Slot) → slot (with_slot w c p) c ≡ p
slot_same w c p = ap slot_in (get_same w.clients c p)

pub slot_other : (w : World) (c d : ℕ) (p : Slot) → (d ≡ c → ⊥) → slot (with_slot w c p) d ≡ slot w d
slot_other w c d p e = ap slot_in (get_other w.clients c p d e)

-- the run after a call: the client's slot is y, and it issued bs
abbrev pub after_call : Run → ℕ → Slot → List (List ℕ) → List Batch → Run
after_call r c y ls bs = with_step r (record { world = with_slot r.world c y; lines = ls; entries = []; issues = issued_by c bs; given = [] })

-- the shape of a world in which one slot changes, and not its connection
pub shape_slot : (w v : World) → ((d : ℕ) → (slot v d).present ≡ (slot w d).present) → v.host ≡ w.host → v.conns ≡ w.conns → v.opened ≡ w.opened
    → Invariant.Shape w → Invariant.Shape v
shape_slot w v slots host conns opened h = record {
  hosts = subst Invariant.Hosts (sym host) h.hosts;
  present = λ c k e. rw conns (h.present c k (sym (slots c) ∙ e));
  heard = λ c k e. slots c ∙ h.heard c k (subst (λ qs. Invariant.ListensFor (Invariant.conn_in (get qs k)) c) conns e);
  deaf = λ k e. rw conns (h.deaf k (subst (λ qs. (Invariant.conn_in (get qs k)).listens ≡ false) conns e));
  unlinked = λ k e. rw host (h.unlinked k (subst (λ n. n < k) opened e));
  unopened = λ k e. rw conns (h.unopened k (subst (λ n. n < k) opened e));
  there = λ k l e. rw conns (h.there k l (subst (λ g. get (links_of g) k ≡ Some l) host e));
}

module _ (s : State) (r : Run) (c : ℕ) (y : Slot) (ls : List (List ℕ)) (bs : List Batch) (st : Invariant.Inv s r)
    (stays : y.present ≡ (slot r.world c).present) (named : (y.account).session ≡ (Invariant.core_of r.world c).session)
    (called : IsUndisturbed r c → Called (Invariant.core_of r.world c) (core y.account) bs) where
  abbrev t : Run
  t = after_call r c y ls bs

  presents : (d : ℕ) → (d ≡ c) ⊎ (d ≡ c → ⊥) → (slot t.world d).present ≡ (slot r.world d).present
  presents d (inl e) = rw e (ap (λ (z : Slot). z.present) (slot_same r.world c y) ∙ stays)
  presents d (inr e) = ap (λ (z : Slot). z.present) (slot_other r.world c d y e)

  before : Undisturbed r.given c (core y.account) → IsUndisturbed r c
  before u = subst (λ (w : Option Resume). all_given c (actor_in w) r.given ≡ true) named u

  pub keeps_call : Invariant.Inv s t
  keeps_call = changed r t c y (Invariant.issued_by r c ++ bs) s st (record {
    slot_is = slot_same r.world c y;
    batches_are = issued_own c r.issued bs;
    shape = shape_slot r.world t.world (λ d. presents d (cases_eq d c)) refl refl refl st.shape;
    log = updates_of-nil r.log;
    state = refl;
    given = append-nil r.given;
    slots = λ d e. slot_other r.world c d y e;
    batches = λ d e. issued_others c d r.issued bs e;
    conns = λ j. inr (record { conn = refl; link = refl });
    links = λ j a l e f. (l, e, f, refl);
    client = λ u. subst (λ (p : Option ℕ). Invariant.Client s (updates_of r.log) (Invariant.sessions r) r.given c p (core y.account) (Invariant.issued_by r c ++ bs)
        (Invariant.present_outbound r.world p) (Invariant.present_link r.world p)) (sym stays)
        (called_client s (updates_of r.log) (Invariant.sessions r) r.given c (slot r.world c).present (Invariant.core_of r.world c) (core y.account) (Invariant.issued_by r c) bs
        (Invariant.present_outbound r.world (slot r.world c).present) (Invariant.present_link r.world (slot r.world c).present) (called (before u)) (st.client c (before u)));
    inbounds = λ j o u. subst (λ (p : Option ℕ). Invariant.Inbounds (p ≡ Some j) (y.account).session (Invariant.tried (core y.account)) (Invariant.issued_by r c ++ bs)
        (last_of (Invariant.sessions r) (actor (core y.account))) (Invariant.link r.world j) (Invariant.conn r.world j).inbound) (sym stays)
        (called_inbounds ((slot r.world c).present ≡ Some j) (Invariant.core_of r.world c) (core y.account) (Invariant.issued_by r c) bs (Invariant.sessions r) (Invariant.link r.world j) (Invariant.conn r.world j).inbound
        (called (before u)) (st.inbounds c j o (before u)));
  })
