-- A client dials.
use Rattle.std.proofs.Common.{◌≡◌, ℕ, ◌+◌, ◌<◌, ◌⊎◌, inl, inr, true, false, cond, List, [], ◌∷◌, refl, sym, ap, ◌∙◌, subst, arith, ⊎_elim}
use Rattle.std.specs.Prelude.{Option, Some, None, is_some}
use Rattle.std.proofs.lemmas.Bool.{cases_eq}
use Rattle.std.specs.FinMap.{get, insert}
use Rattle.room_msg.specs.declared.messages.Resume.{Resume}
use Rattle.room_log.specs.Log.{State, last_of, updates_of}
use Rattle.room_model.specs.Account.{Batch, Dialled, Synced, actor_in}
use Rattle.room_model.specs.Server.{Link, Inbound, Server, opened_at}
use Rattle.room_model.specs.World.{room_name, Host, Running, Stopped, Conn, Slot, state_in, links_of, opened_host, slot}
use Rattle.room_model.specs.Run.{Run, all_given, IsUndisturbed}
use Rattle.room_laws.specs.Core.{Core, core, actor}
use Rattle.room_laws.specs.Queues.{Place}
use Rattle.room_laws.specs.Invariant
use Rattle.room_laws.proofs.Maps.{cut, get_same, get_other}
use Rattle.room_laws.proofs.Owns.{off, own_off}
use Rattle.room_laws.proofs.Keep.{Undisturbed, Mine, Still, changed}
use Rattle.room_laws.proofs.Sessions.{begun_since}
use Rattle.room_laws.proofs.Cuts.{is_present, inbounds_idle, inbounds_any}
use Rattle.room_laws.proofs.Facts.{some_is, none_some, true_false}

dialled_synced : Dialled ≡ Synced → ⊥
dialled_synced e = cc

false_true : false ≡ true → ⊥
false_true e = cc

-- a new link is attached, and holds nothing
pub record Bare (l : Link) : Type 0 where
  pub actor : l.actor ≡ None
  pub fetched : l.fetched ≡ false
  pub decision : l.decision ≡ None

abbrev pub BareIn : Option Link → Type 0
BareIn None = Unit {0}
BareIn (Some l) = Bare l

-- the host after a connection was opened
pub record OpenedHost (g f : Host) (k : ℕ) : Type 0 where
  pub state : state_in f ≡ state_in g
  pub link : BareIn (get (links_of f) k)
  pub others : (j : ℕ) → (j ≡ k → ⊥) → get (links_of f) j ≡ get (links_of g) j
  pub hosts : Invariant.Hosts g → Invariant.Hosts f

abbrev bare_link : ℕ → Link
bare_link key = record { key = key; actor = None; fetched = false; decision = None }

opened_running : (v : Server) (k : ℕ) (o : Option Link) → 0 < k → o ≡ None → OpenedHost (Running v) (Running (opened_at v k k o)) k
opened_running v k (Some l) pos e = absurd (none_some l (sym e))
opened_running v k None pos e = record {
  state = refl;
  link = rw (get_same v.links k (bare_link k)) (record { actor = refl; fetched = refl; decision = refl });
  others = λ j i. get_other v.links k (bare_link k) j i;
  hosts = λ h. record { room = h.room; access = h.access; free = λ j l i. free_at h j l (cases_eq j k) i };
}
  where
    free_at : Invariant.Hosts (Running v) → (j : ℕ) (l : Link) → (j ≡ k) ⊎ (j ≡ k → ⊥) → get (insert v.links k (bare_link k)) j ≡ Some l → (l.decision ≡ None) × (0 < l.key)
    free_at h j l (inl d) i =
        let m : Some (bare_link k) ≡ Some l = sym (get_same v.links k (bare_link k)) ∙ subst (λ n. get (insert v.links k (bare_link k)) n ≡ Some l) d i in
        let same : l ≡ bare_link k = sym (some_is (bare_link k) l m) in
        (ap (λ (n : Link). n.decision) same, subst (λ n. 0 < n) (ap (λ (n : Link). n.key) (sym same)) pos)
    free_at h j l (inr d) i = h.free j l (sym (get_other v.links k (bare_link k) j d) ∙ i)

pub opened_at_host : (g : Host) (k : ℕ) → 0 < k → get (links_of g) k ≡ None → OpenedHost g (opened_host g k) k
opened_at_host (Running v) k pos e = opened_running v k (get v.links k) pos e
opened_at_host (Stopped s) k pos e = record { state = refl; link = rw e tt; others = λ j i. refl; hosts = λ h. h }

-- a world in which c dialled: y is its slot, us what goes up at once
pub record Dialed (r t : Run) (c : ℕ) (y : Slot) : Type 0 where
  pub host : OpenedHost r.world.host t.world.host (r.world.opened + 1)
  pub opened : t.world.opened ≡ r.world.opened + 1
  pub slot_is : slot t.world c ≡ y
  pub slots : (d : ℕ) → (d ≡ c → ⊥) → slot t.world d ≡ slot r.world d
  pub present : y.present ≡ Some (r.world.opened + 1)
  pub dialled : core y.account ≡ off Dialled (Invariant.core_of r.world c)
  pub inbounds : List Inbound
  pub new : Invariant.conn t.world (r.world.opened + 1) ≡ record { owner = Some c; inbound = inbounds; outbound = []; listens = true }
  -- a hello goes up where the server has the connection
  pub hello : (Invariant.core_of r.world c).room ≡ room_name
      → inbounds ≡ cond (is_some (Invariant.link t.world (r.world.opened + 1))) (Invariant.hello_frame (Invariant.core_of r.world c).session ∷ []) []
  pub here : (k : ℕ) → (slot r.world c).present ≡ Some k → Invariant.conn t.world k ≡ cut (Invariant.conn r.world k)
  pub else : (j : ℕ) → (j ≡ r.world.opened + 1 → ⊥) → ((slot r.world c).present ≡ Some j → ⊥) → Invariant.conn t.world j ≡ Invariant.conn r.world j
  pub there : (j : ℕ) → is_some (get r.world.conns j) ≡ true → is_some (get t.world.conns j) ≡ true
  pub there_new : is_some (get t.world.conns (r.world.opened + 1)) ≡ true
  pub log : updates_of t.log ≡ updates_of r.log
  pub given : t.given ≡ r.given
  pub batches : (d : ℕ) → Invariant.issued_by t d ≡ Invariant.issued_by r d

hello_inbounds : (now : Type 0) (w : Option Resume) (tried : ℕ) (all : List Batch) (last : ℕ) (l : Option Link) → BareIn l
    → Invariant.Inbounds now w tried all last l (cond (is_some l) (Invariant.hello_frame w ∷ []) [])
hello_inbounds now w tried all last None b = refl
hello_inbounds now w tried all last (Some l) b = rw b.actor (record { resume = w; is = refl; old = inr refl; current = λ n. refl })

hello_linked : (w : Option Resume) (end : Place) (l : Option Link) → end.parts ≡ [] → BareIn l → Invariant.Linked w Dialled [] end l
hello_linked w end None e b = tt
hello_linked w end (Some l) e b = inl (record { none = b.actor; unfetched = b.fetched; empty = refl; dialled = refl; whole = e })

bare_actor : (o : Option Link) (l : Link) (a : ℕ) → BareIn o → o ≡ Some l → l.actor ≡ Some a → ⊥
bare_actor None l a b e f = none_some l e
bare_actor (Some k) l a b e f = none_some a (sym b.actor ∙ ap (λ (n : Link). n.actor) (some_is k l e) ∙ f)

module _ (s : State) (r t : Run) (c : ℕ) (y : Slot) (st : Invariant.Inv s r) (h : Dialed r t c y) where
  abbrev new : ℕ
  new = r.world.opened + 1

  abbrev At : ℕ → Type 0
  At j = (j ≡ new) ⊎ (((j ≡ new → ⊥) × ((slot r.world c).present ≡ Some j)) ⊎ ((j ≡ new → ⊥) × ((slot r.world c).present ≡ Some j → ⊥)))

  at : (j : ℕ) → At j
  at j = ⊎_elim (λ e. inl e) (λ e. ⊎_elim (λ i. inr (inl (e, i))) (λ i. inr (inr (e, i))) (is_present (slot r.world c).present j)) (cases_eq j new)

  -- the new one was nobody's
  absent : (d : ℕ) (o : Option ℕ) → (Invariant.conn r.world new).owner ≡ o → o ≡ Some d → ⊥
  absent d o e i = none_some d (sym (ap (λ (q : Conn). q.owner) (st.shape.unopened new (omega arith))) ∙ e ∙ i)

  owner_at : (j : ℕ) → (j ≡ new → ⊥) → At j → (Invariant.conn t.world j).owner ≡ (Invariant.conn r.world j).owner
  owner_at j n (inl e) = absurd (n e)
  owner_at j n (inr (inl e)) = ap (λ (q : Conn). q.owner) (h.here j e.1)
  owner_at j n (inr (inr e)) = ap (λ (q : Conn). q.owner) (h.else j e.0 e.1)

  inbound_at : (j : ℕ) → (j ≡ new → ⊥) → At j → (Invariant.conn t.world j).inbound ≡ (Invariant.conn r.world j).inbound
  inbound_at j n (inl e) = absurd (n e)
  inbound_at j n (inr (inl e)) = ap (λ (q : Conn). q.inbound) (h.here j e.1)
  inbound_at j n (inr (inr e)) = ap (λ (q : Conn). q.inbound) (h.else j e.0 e.1)

  link_same : (j : ℕ) → (j ≡ new → ⊥) → Invariant.link t.world j ≡ Invariant.link r.world j
  link_same j n = h.host.others j n

  now_present : (slot t.world c).present ≡ Some new
  now_present = ap (λ (z : Slot). z.present) h.slot_is ∙ h.present

  present_at : (d j : ℕ) → (d ≡ c) ⊎ (d ≡ c → ⊥) → At j → (slot t.world d).present ≡ Some j → Invariant.ListensFor (Invariant.conn t.world j) d
  present_at d j (inl e) a i =
      let k : new ≡ j = some_is new j (sym now_present ∙ subst (λ n. (slot t.world n).present ≡ Some j) e i) in
      subst (λ n. Invariant.ListensFor (Invariant.conn t.world n) d) k (rw h.new (record { owner = ap Some (sym e); listens = refl }))
  present_at d j (inr e) a i = other a
    where
      was : (slot r.world d).present ≡ Some j
      was = ap (λ (z : Slot). z.present) (sym (h.slots d e)) ∙ i

      other : At j → Invariant.ListensFor (Invariant.conn t.world j) d
      other (inl a) = absurd (absent d (Invariant.conn r.world new).owner refl (subst (λ n. (Invariant.conn r.world n).owner ≡ Some d) a (st.shape.present d j was).owner))
      other (inr (inl a)) = absurd (e (some_is d c (sym (st.shape.present d j was).owner ∙ (st.shape.present c j a.1).owner)))
      other (inr (inr a)) = rw (h.else j a.0 a.1) (st.shape.present d j was)

  heard_at : (d j : ℕ) → (d ≡ c) ⊎ (d ≡ c → ⊥) → At j → Invariant.ListensFor (Invariant.conn t.world j) d → (slot t.world d).present ≡ Some j
  heard_at d j e (inl a) o =
      let own : Some c ≡ Some d = sym (ap (λ (q : Conn). q.owner) h.new) ∙ subst (λ n. (Invariant.conn t.world n).owner ≡ Some d) a o.owner in
      subst (λ n. (slot t.world n).present ≡ Some j) (some_is c d own) (now_present ∙ ap Some (sym a))
  heard_at d j e (inr (inl a)) o = absurd (true_false (sym o.listens ∙ ap (λ (q : Conn). q.listens) (h.here j a.1)))
  heard_at d j (inl e) (inr (inr a)) o = absurd (a.1 (st.shape.heard c j (subst (λ n. Invariant.ListensFor (Invariant.conn r.world j) n) e (subst (λ (q : Conn). Invariant.ListensFor q d) (h.else j a.0 a.1) o))))
  heard_at d j (inr e) (inr (inr a)) o = ap (λ (z : Slot). z.present) (h.slots d e) ∙ st.shape.heard d j (subst (λ (q : Conn). Invariant.ListensFor q d) (h.else j a.0 a.1) o)

  deaf_at : (j : ℕ) → At j → (Invariant.conn t.world j).listens ≡ false → (Invariant.conn t.world j).outbound ≡ []
  deaf_at j (inl a) i = rw a (ap (λ (q : Conn). q.outbound) h.new)
  deaf_at j (inr (inl a)) i = ap (λ (q : Conn). q.outbound) (h.here j a.1)
  deaf_at j (inr (inr a)) i = ap (λ (q : Conn). q.outbound) (h.else j a.0 a.1) ∙ st.shape.deaf j (sym (ap (λ (q : Conn). q.listens) (h.else j a.0 a.1)) ∙ i)

  unopened_at : (j : ℕ) → At j → r.world.opened + 1 < j → Invariant.conn t.world j ≡ Invariant.no_conn
  unopened_at j (inl a) i = absurd (omega arith)
  unopened_at j (inr (inl a)) i = absurd (none_some c (sym (ap (λ (q : Conn). q.owner) (st.shape.unopened j (omega arith))) ∙ (st.shape.present c j a.1).owner))
  unopened_at j (inr (inr a)) i = h.else j a.0 a.1 ∙ st.shape.unopened j (omega arith)

  conns_at : (j : ℕ) → At j → Mine r t c j ⊎ Still r t c j
  conns_at j (inl a) = inl (rw a (record { owner = ap (λ (q : Conn). q.owner) h.new; was = inr (omega arith) }))
  conns_at j (inr (inl a)) = inl (record { owner = owner_at j a.0 (inr (inl a)) ∙ (st.shape.present c j a.1).owner; was = inl (st.shape.present c j a.1).owner })
  conns_at j (inr (inr a)) = inr (record { conn = h.else j a.0 a.1; link = link_same j a.0 })

  links_at : (j a : ℕ) (l : Link) → At j → Invariant.link t.world j ≡ Some l → l.actor ≡ Some a
      → (k : Link) × (Invariant.link r.world j ≡ Some k) × (k.actor ≡ Some a) × ((Invariant.conn t.world j).owner ≡ (Invariant.conn r.world j).owner)
  links_at j a l (inl d) e f = absurd (bare_actor (Invariant.link t.world new) l a h.host.link (subst (λ n. Invariant.link t.world n ≡ Some l) d e) f)
  links_at j a l (inr (inl d)) e f = (l, sym (link_same j d.0) ∙ e, f, owner_at j d.0 (inr (inl d)))
  links_at j a l (inr (inr d)) e f = (l, sym (link_same j d.0) ∙ e, f, owner_at j d.0 (inr (inr d)))

  there_at : (j : ℕ) (l : Link) → At j → Invariant.link t.world j ≡ Some l → is_some (get t.world.conns j) ≡ true
  there_at j l (inl a) e = rw a h.there_new
  there_at j l (inr (inl a)) e = h.there j (st.shape.there j l (sym (link_same j a.0) ∙ e))
  there_at j l (inr (inr a)) e = h.there j (st.shape.there j l (sym (link_same j a.0) ∙ e))

  unlinked_at : (j : ℕ) → r.world.opened + 1 < j → Invariant.link t.world j ≡ None
  unlinked_at j i = link_same j (λ e. absurd (omega arith)) ∙ st.shape.unlinked j (omega arith)

  before : Undisturbed r.given c (core y.account) → IsUndisturbed r c
  before u = subst (λ (w : Option Resume). all_given c (actor_in w) r.given ≡ true) (ap (λ (x : Core). x.session) h.dialled) u

  abbrev x : Core
  x = Invariant.core_of r.world c

  dial_client : IsUndisturbed r c → Invariant.Client s (updates_of r.log) (Invariant.sessions r) r.given c (Some new) (off Dialled x) (Invariant.issued_by r c) [] (Invariant.link t.world new)
  dial_client u =
      let k = st.client c u in
      record {
        done = k.done;
        coming = k.coming;
        own = own_off s (updates_of r.log) (last_of (Invariant.sessions r) (actor x)) x (Invariant.issued_by r c) k.done k.coming Dialled dialled_synced k.own;
        stands = k.stands;
        standing = record {
          who = x.session;
          named = inl refl;
          known = λ i. absurd i;
          begun = begun_since s (Invariant.sessions r) x.session k.stands;
          end = Invariant.place (off Dialled x) k.done k.coming;
          waits = refl;
          linked = hello_linked x.session (Invariant.place (off Dialled x) k.done k.coming) (Invariant.link t.world new) refl h.host.link;
        };
      }

  inbounds_at : (j : ℕ) → At j → (Invariant.conn t.world j).owner ≡ Some c → IsUndisturbed r c
      → Invariant.Inbounds (Some new ≡ Some j) x.session (Invariant.tried (off Dialled x)) (Invariant.issued_by r c) (last_of (Invariant.sessions r) (actor x)) (Invariant.link t.world j) (Invariant.conn t.world j).inbound
  inbounds_at j (inl a) o u = rw a (rw (ap (λ (q : Conn). q.inbound) h.new ∙ h.hello (st.client c u).own.room)
      (hello_inbounds (Some new ≡ Some new) x.session (Invariant.tried (off Dialled x)) (Invariant.issued_by r c) (last_of (Invariant.sessions r) (actor x)) (Invariant.link t.world new) h.host.link))
  inbounds_at j (inr a) o u = old (⊎_elim (λ i. i.0) (λ i. i.0) a)
    where
      old : (j ≡ new → ⊥) → Invariant.Inbounds (Some new ≡ Some j) x.session (Invariant.tried (off Dialled x)) (Invariant.issued_by r c) (last_of (Invariant.sessions r) (actor x)) (Invariant.link t.world j) (Invariant.conn t.world j).inbound
      old n = rw (link_same j n, inbound_at j n (inr a))
          (inbounds_idle (Some new ≡ Some j) x.session (Invariant.tried x) (Invariant.tried (off Dialled x)) (Invariant.issued_by r c) (last_of (Invariant.sessions r) (actor x)) (Invariant.link r.world j) (Invariant.conn r.world j).inbound
          (λ e. n (sym (some_is new j e)))
          (inbounds_any ((slot r.world c).present ≡ Some j) x.session (Invariant.tried x) (Invariant.issued_by r c) (last_of (Invariant.sessions r) (actor x)) (Invariant.link r.world j) (Invariant.conn r.world j).inbound
          (st.inbounds c j (sym (owner_at j n (inr a)) ∙ o) u)))

  pub keeps_dialed : Invariant.Inv s t
  keeps_dialed = changed r t c y (Invariant.issued_by r c) s st (record {
    slot_is = h.slot_is;
    batches_are = h.batches c;
    shape = record {
      hosts = h.host.hosts st.shape.hosts;
      present = λ d j e. present_at d j (cases_eq d c) (at j) e;
      heard = λ d j o. heard_at d j (cases_eq d c) (at j) o;
      deaf = λ j e. deaf_at j (at j) e;
      unlinked = λ j e. unlinked_at j (subst (λ n. n < j) h.opened e);
      unopened = λ j e. unopened_at j (at j) (subst (λ n. n < j) h.opened e);
      there = λ j l e. there_at j l (at j) e;
    };
    log = h.log;
    state = h.host.state;
    given = h.given;
    slots = h.slots;
    batches = λ d e. h.batches d;
    conns = λ j. conns_at j (at j);
    links = λ j a l e i. links_at j a l (at j) e i;
    client = λ u. rw (h.present, h.dialled) (rw (ap (λ (q : Conn). q.outbound) h.new) (dial_client (before u)));
    inbounds = λ j o u. inbounds_after j o (before u);
  })
    where
      inbounds_after : (j : ℕ) → (Invariant.conn t.world j).owner ≡ Some c → IsUndisturbed r c
          → Invariant.Inbounds (y.present ≡ Some j) (y.account).session (Invariant.tried (core y.account)) (Invariant.issued_by r c)
          (last_of (Invariant.sessions r) (actor (core y.account))) (Invariant.link t.world j) (Invariant.conn t.world j).inbound
      inbounds_after j o u =
          subst (λ (p : Option ℕ). Invariant.Inbounds (p ≡ Some j) (y.account).session (Invariant.tried (core y.account)) (Invariant.issued_by r c)
          (last_of (Invariant.sessions r) (actor (core y.account))) (Invariant.link t.world j) (Invariant.conn t.world j).inbound) (sym h.present)
          (subst (λ (z : Core). Invariant.Inbounds (Some new ≡ Some j) z.session (Invariant.tried z) (Invariant.issued_by r c)
          (last_of (Invariant.sessions r) (actor z)) (Invariant.link t.world j) (Invariant.conn t.world j).inbound) (sym h.dialled)
          (inbounds_at j (at j) o u))
