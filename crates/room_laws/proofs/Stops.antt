-- The server stops: queues and attachments are emptied.
use Rattle.std.proofs.Common.{◌≡◌, ℕ, ◌<◌, ◌≤◌, inl, true, false, List, [], ◌∷◌, ◌++◌, length, refl, sym, ap, ◌∙◌, subst, append-nil}
use Rattle.std.specs.Prelude.{Option, Some, None, is_some}
use Rattle.std.specs.FinMap.{get, empty}
use Rattle.room_msg.specs.declared.messages.Resume.{Resume}
use Rattle.room_log.specs.Log.{State, Update, last_of, updates_of}
use Rattle.room_model.specs.Account.{Batch, actor_in}
use Rattle.room_model.specs.Server.{Server, Limits}
use Rattle.room_model.specs.Lines as lines
use Rattle.room_model.specs.World
use Rattle.room_model.specs.World.{Conn, Slot, Host, Running, Stopped, state_in, links_of, slot_in, slot, account}
use Rattle.room_model.specs.Run.{Run, all_given, IsUndisturbed, with_step}
use Rattle.room_laws.specs.Core.{Core, core, actor}
use Rattle.room_laws.specs.Queues.{Place}
use Rattle.room_laws.specs.Invariant
use Rattle.room_laws.proofs.Maps.{get_none, emptied_at, hushed}
use Rattle.room_laws.proofs.Queues.{grown}
use Rattle.room_laws.proofs.Keep.{client_as, inbounds_as}
use Rattle.room_laws.proofs.OwnLines.{keeps_saying}
use Rattle.room_laws.proofs.Sessions.{begun_since}
use Rattle.room_laws.proofs.Served.{ClientOf}
use Rattle.room_laws.proofs.Facts.{none_some}

pub record Stopping (s : State) (r t : Run) (grew : List Update) : Type 0 where
  pub slots : (d : ℕ) → slot t.world d ≡ slot r.world d
  pub batches : (d : ℕ) → Invariant.issued_by t d ≡ Invariant.issued_by r d
  pub opened : t.world.opened ≡ r.world.opened
  pub log : updates_of t.log ≡ updates_of r.log ++ grew
  pub given : t.given ≡ r.given
  pub conns : (j : ℕ) → Invariant.conn t.world j ≡ hushed (Invariant.conn r.world j)
  pub links : (j : ℕ) → Invariant.link t.world j ≡ None
  pub hosts : Invariant.Hosts t.world.host
  pub logged : Invariant.Logged s (updates_of r.log ++ grew) (state_in t.world.host)
  pub owns : (d : ℕ) → IsUndisturbed r d → (h : ClientOf s r d)
      → Invariant.Own s (updates_of r.log ++ grew) (last_of (Invariant.sessions t) (actor (Invariant.core_of r.world d))) (Invariant.core_of r.world d) (Invariant.issued_by r d) h.done (h.coming ++ grew)
  pub stands : (w : Resume) → Invariant.Stands s (Invariant.sessions r) w → Invariant.Stands s (Invariant.sessions t) w

module _ (s : State) (r t : Run) (grew : List Update) (st : Invariant.Inv s r) (h : Stopping s r t grew) where
  before : (d : ℕ) → IsUndisturbed t d → IsUndisturbed r d
  before d u = subst (λ (y : Slot). all_given d (actor_in (y.account).session) r.given ≡ true) (h.slots d)
      (subst (λ (g : List (ℕ × Option ℕ)). all_given d (actor_in (account t.world d).session) g ≡ true) h.given u)

  stands_in : (o : Option Resume) → Invariant.StandsIn s (Invariant.sessions r) o → Invariant.StandsIn s (Invariant.sessions t) o
  stands_in None k = tt
  stands_in (Some w) k = h.stands w k

  standing_at : (d : ℕ) (o : Option ℕ) (session : Option Resume) (here : Place) → Invariant.StandsIn s (Invariant.sessions r) session
      → Invariant.Standing s (updates_of r.log) (Invariant.sessions r) r.given d o session here (Invariant.present_outbound r.world o) (Invariant.present_link r.world o)
      → Invariant.Standing s (updates_of r.log ++ grew) (Invariant.sessions t) r.given d o session (grown grew here) (Invariant.present_outbound t.world o) (Invariant.present_link t.world o)
  standing_at d None session here b k = record { idle = k.idle; bare = k.bare }
  standing_at d (Some j) session here b k = rw (ap (λ (q : Conn). q.outbound) (h.conns j), h.links j) (record {
    who = session;
    named = inl refl;
    known = λ i. (refl, ap is_some (k.known i).0 ∙ (k.known i).1);
    begun = begun_since s (Invariant.sessions r) session b;
    end = grown grew here;
    waits = refl;
    linked = tt;
  })

  client_at : (d : ℕ) → IsUndisturbed r d
      → Invariant.Client s (updates_of r.log ++ grew) (Invariant.sessions t) r.given d (slot r.world d).present (Invariant.core_of r.world d) (Invariant.issued_by r d)
      (Invariant.present_outbound t.world (slot r.world d).present) (Invariant.present_link t.world (slot r.world d).present)
  client_at d u =
      let k : ClientOf s r d = st.client d u in
      record {
        done = k.done;
        coming = k.coming ++ grew;
        own = h.owns d u k;
        stands = stands_in (Invariant.core_of r.world d).session k.stands;
        standing = standing_at d (slot r.world d).present (Invariant.core_of r.world d).session (Invariant.place (Invariant.core_of r.world d) k.done k.coming) k.stands k.standing;
      }

  pub keeps_stopping : Invariant.Inv s t
  keeps_stopping = record {
    shape = record {
      hosts = h.hosts;
      present = λ d j e.
          let o = st.shape.present d j (ap (λ (y : Slot). y.present) (sym (h.slots d)) ∙ e) in
          rw (h.conns j) (record { owner = o.owner; listens = o.listens });
      heard = λ d j o. ap (λ (y : Slot). y.present) (h.slots d)
          ∙ st.shape.heard d j (record { owner = ap (λ (q : Conn). q.owner) (sym (h.conns j)) ∙ o.owner; listens = ap (λ (q : Conn). q.listens) (sym (h.conns j)) ∙ o.listens });
      deaf = λ j e. ap (λ (q : Conn). q.outbound) (h.conns j);
      unlinked = λ j e. h.links j;
      unopened = λ j e. h.conns j ∙ ap hushed (st.shape.unopened j (subst (λ n. n < j) h.opened e));
      there = λ j l e. absurd (none_some l (sym (h.links j) ∙ e));
    };
    logged = rw h.log h.logged;
    given = λ j a l e f d g. absurd (none_some l (sym (h.links j) ∙ e));
    actors = λ j a l e f. absurd (none_some l (sym (h.links j) ∙ e));
    nobody = λ d. rw h.given (st.nobody d);
    client = λ d u. client_as s (updates_of r.log ++ grew) (updates_of t.log) (Invariant.sessions t) (Invariant.sessions t) r.given t.given d (slot r.world d).present (slot t.world d).present
        (Invariant.core_of r.world d) (Invariant.core_of t.world d) (Invariant.issued_by r d) (Invariant.issued_by t d)
        (Invariant.present_outbound t.world (slot r.world d).present) (Invariant.present_outbound t.world (slot t.world d).present)
        (Invariant.present_link t.world (slot r.world d).present) (Invariant.present_link t.world (slot t.world d).present)
        h.log refl h.given (ap (λ (y : Slot). y.present) (h.slots d)) (ap (λ (y : Slot). core y.account) (h.slots d)) (h.batches d)
        (ap (λ (y : Slot). Invariant.present_outbound t.world y.present) (h.slots d)) (ap (λ (y : Slot). Invariant.present_link t.world y.present) (h.slots d))
        (client_at d (before d u));
    inbounds = λ d j o u. rw (h.links j) (ap (λ (q : Conn). q.inbound) (h.conns j));
  }

-- nothing is taken into the log
pub own_same : (s : State) (us : List Update) (last : ℕ) (x : Core) (all : List Batch) (done coming : List Update) → Invariant.Own s us last x all done coming → Invariant.Own s (us ++ []) last x all done (coming ++ [])
own_same s us last x all done coming h = rw (append-nil us, append-nil coming) h

stopped_at : (s : State) (r : Run) (v : Server) (n : State) → Invariant.Inv s r → r.world.host ≡ Running v → n ≡ v.state
    → Stopping s r (record r { world = World.stopped r.world n }) []
stopped_at s r v n st e f =
    let same : n ≡ state_in r.world.host = f ∙ ap state_in (sym e) in
    record {
      slots = λ d. refl;
      batches = λ d. refl;
      opened = refl;
      log = sym (append-nil (updates_of r.log));
      given = refl;
      conns = λ j. emptied_at r.world.conns j;
      links = λ j. get_none j;
      hosts = tt;
      logged = rw (append-nil (updates_of r.log)) (subst (λ (z : State). Invariant.Logged s (updates_of r.log) z) (sym same) st.logged);
      owns = λ d u h. own_same s (updates_of r.log) (last_of (n.sessions) (actor (Invariant.core_of r.world d))) (Invariant.core_of r.world d) (Invariant.issued_by r d) h.done h.coming
          (subst (λ (z : State). Invariant.Own s (updates_of r.log) (last_of z.sessions (actor (Invariant.core_of r.world d))) (Invariant.core_of r.world d) (Invariant.issued_by r d) h.done h.coming) (sym same) h.own);
      stands = λ w k. subst (λ (z : State). Invariant.Stands s z.sessions w) (sym same) k;
    }

pub keeps_stopped : (s : State) (r : Run) (v : Server) → r.world.host ≡ Running v → Invariant.Inv s r → Invariant.Inv s (record r { world = World.stopped r.world v.state })
keeps_stopped s r v e st = keeps_stopping s r (record r { world = World.stopped r.world v.state }) [] st (stopped_at s r v v.state st e refl)

-- A world that differs in its host's settings, limits and fuse alone
pub record Settings (w v : World.World) : Type 0 where
  pub clients : v.clients ≡ w.clients
  pub conns : v.conns ≡ w.conns
  pub opened : v.opened ≡ w.opened
  pub state : state_in v.host ≡ state_in w.host
  pub links : (j : ℕ) → get (links_of v.host) j ≡ get (links_of w.host) j
  pub hosts : Invariant.Hosts w.host → Invariant.Hosts v.host

pub keeps_settings : (s : State) (r : Run) (v : World.World) → Settings r.world v → Invariant.Inv s r → Invariant.Inv s (record r { world = v })
keeps_settings s r v h st =
    let slots : (d : ℕ) → slot v d ≡ slot r.world d = λ d. ap (λ m. slot_in (get m d)) h.clients in
    record {
      shape = record {
        hosts = h.hosts st.shape.hosts;
        present = λ d j e. rw h.conns (st.shape.present d j (sym (ap (λ (y : Slot). y.present) (slots d)) ∙ e));
        heard = λ d j o. ap (λ (y : Slot). y.present) (slots d) ∙ st.shape.heard d j (subst (λ m. Invariant.ListensFor (Invariant.conn_in (get m j)) d) h.conns o);
        deaf = λ j e. rw h.conns (st.shape.deaf j (subst (λ m. (Invariant.conn_in (get m j)).listens ≡ false) h.conns e));
        unlinked = λ j e. h.links j ∙ st.shape.unlinked j (subst (λ n. n < j) h.opened e);
        unopened = λ j e. rw h.conns (st.shape.unopened j (subst (λ n. n < j) h.opened e));
        there = λ j l e. rw h.conns (st.shape.there j l (sym (h.links j) ∙ e));
      };
      logged = subst (λ (z : State). Invariant.Logged s (updates_of r.log) z) (sym h.state) st.logged;
      given = λ j a l e f d g. rw h.conns (st.given j a l (sym (h.links j) ∙ e) f d g);
      actors = λ j a l e f. subst (λ (z : State). (0 < a) × (a ≤ length z.sessions)) (sym h.state) (st.actors j a l (sym (h.links j) ∙ e) f);
      nobody = st.nobody;
      client = λ d u. client_as s (updates_of r.log) (updates_of r.log) (Invariant.sessions r) ((state_in v.host).sessions) r.given r.given d (slot r.world d).present (slot v d).present
          (Invariant.core_of r.world d) (Invariant.core_of v d) (Invariant.issued_by r d) (Invariant.issued_by r d)
          (Invariant.present_outbound r.world (slot r.world d).present) (Invariant.present_outbound v (slot v d).present)
          (Invariant.present_link r.world (slot r.world d).present) (Invariant.present_link v (slot v d).present)
          refl (ap (λ (z : State). z.sessions) h.state) refl (ap (λ (y : Slot). y.present) (slots d)) (ap (λ (y : Slot). core y.account) (slots d)) refl
          (ap (λ (y : Slot). Invariant.present_outbound v y.present) (slots d) ∙ outbound_at (slot r.world d).present) (ap (λ (y : Slot). Invariant.present_link v y.present) (slots d) ∙ link_at (slot r.world d).present)
          (st.client d (subst (λ (y : Slot). all_given d (actor_in (y.account).session) r.given ≡ true) (slots d) u));
      inbounds = λ d j o u. inbounds_as ((slot r.world d).present ≡ Some j) ((slot v d).present ≡ Some j) (Invariant.core_of r.world d).session (Invariant.core_of v d).session
          (Invariant.tried (Invariant.core_of r.world d)) (Invariant.tried (Invariant.core_of v d)) (Invariant.issued_by r d) (Invariant.issued_by r d)
          (last_of (Invariant.sessions r) (actor (Invariant.core_of r.world d))) (last_of (state_in v.host).sessions (actor (Invariant.core_of v d)))
          (Invariant.link r.world j) (Invariant.link v j) (Invariant.conn r.world j).inbound (Invariant.conn v j).inbound
          (λ n. ap (λ (y : Slot). y.present) (sym (slots d)) ∙ n)
          (ap (λ (y : Slot). (core y.account).session) (slots d)) (ap (λ (y : Slot). Invariant.tried (core y.account)) (slots d)) refl
          (ap (λ (z : State). last_of z.sessions (actor (Invariant.core_of v d))) h.state ∙ ap (λ (y : Slot). last_of (Invariant.sessions r) (actor (core y.account))) (slots d))
          (h.links j) (ap (λ m. (Invariant.conn_in (get m j)).inbound) h.conns)
          (st.inbounds d j (subst (λ m. (Invariant.conn_in (get m j)).owner ≡ Some d) h.conns o) (subst (λ (y : Slot). all_given d (actor_in (y.account).session) r.given ≡ true) (slots d) u));
    }
  where
    outbound_at : (o : Option ℕ) → Invariant.present_outbound v o ≡ Invariant.present_outbound r.world o
    outbound_at None = refl
    outbound_at (Some j) = ap (λ m. (Invariant.conn_in (get m j)).outbound) h.conns

    link_at : (o : Option ℕ) → Invariant.present_link v o ≡ Invariant.present_link r.world o
    link_at None = refl
    link_at (Some j) = h.links j

module _ (s : State) (r : Run) (st : Invariant.Inv s r) where
  moves : (v : World.World) → Settings r.world v → Invariant.Inv s (with_step r (World.quiet v))
  moves v h = keeps_saying s (record r { world = v }) [] (keeps_settings s r v h st)

  pub keeps_fuse : (f : World.Fuse) → Invariant.Inv s (with_step r (World.quiet (record (r.world) { fuse = Some f })))
  keeps_fuse f = moves (record (r.world) { fuse = Some f }) (record { clients = refl; conns = refl; opened = refl; state = refl; links = λ j. refl; hosts = λ h. h })

  stop_at : (g : Host) → r.world.host ≡ g → Invariant.Inv s (with_step r (World.quiet (World.stop r.world g)))
  stop_at (Running v) e = keeps_saying s (record r { world = World.stopped r.world v.state }) [] (keeps_stopped s r v e st)
  stop_at (Stopped n) e = keeps_saying s r [] st

  pub keeps_stop : Invariant.Inv s (with_step r (World.quiet (World.stop r.world r.world.host)))
  keeps_stop = stop_at r.world.host refl

  compacted_at : (v : Server) (b : World.Burnt) → r.world.host ≡ Running v → Invariant.Inv s (with_step r (World.quiet (World.compacted r.world v b)))
  compacted_at v (World.Intact f) e = moves (record (r.world) { fuse = f }) (record { clients = refl; conns = refl; opened = refl; state = refl; links = λ j. refl; hosts = λ h. h })
  compacted_at v (World.Fires call how) e = keeps_saying s (record r { world = World.stopped r.world v.state }) [] (keeps_stopped s r v e st)

  compact_at : (g : Host) → r.world.host ≡ g → Invariant.Inv s (with_step r (World.quiet (World.compact r.world g)))
  compact_at (Running v) e = compacted_at v (World.burn 6 r.world.fuse) e
  compact_at (Stopped n) e = keeps_saying s r [] st

  pub keeps_compact : Invariant.Inv s (with_step r (World.quiet (World.compact r.world r.world.host)))
  keeps_compact = compact_at r.world.host refl

  limit_at : (limits : Limits) (g : Host) → r.world.host ≡ g → Settings r.world (record (r.world) { host = World.limited g limits; limits = limits })
  limit_at limits (Running v) e = record { clients = refl; conns = refl; opened = refl; state = ap state_in (sym e); links = λ j. ap (λ g. get (links_of g) j) (sym e); hosts = λ h. running (subst Invariant.Hosts e h) }
    where
      running : Invariant.Hosts (Running v) → Invariant.Hosts (Running (record v { limits = limits }))
      running h = record { room = h.room; access = h.access; free = h.free }
  limit_at limits (Stopped n) e = record { clients = refl; conns = refl; opened = refl; state = ap state_in (sym e); links = λ j. ap (λ g. get (links_of g) j) (sym e); hosts = λ h. tt }

  pub keeps_limit : (limits : Limits) → Invariant.Inv s (with_step r (World.quiet (World.limit r.world limits)))
  keeps_limit limits = moves (World.limit r.world limits) (limit_at limits r.world.host refl)

  -- a start
  empty_links : (n : State) → r.world.host ≡ Stopped n → (j : ℕ) → Invariant.link r.world j ≡ None
  empty_links n e j = ap (λ g. get (links_of g) j) e ∙ get_none j

  started_at : (n : State) (b : World.Burnt) → r.world.host ≡ Stopped n → Invariant.Inv s (with_step r (World.started r.world n b))
  started_at n (World.Intact f) e =
      let v : World.World = record (r.world) { host = Running (record { state = n; room = World.room_name; limits = r.world.limits; access = None; links = empty }); fuse = f } in
      keeps_saying s (record r { world = v }) (lines.start_line n ∷ []) (keeps_settings s r v (record {
        clients = refl;
        conns = refl;
        opened = refl;
        state = ap state_in (sym e);
        links = λ j. get_none j ∙ sym (empty_links n e j);
        hosts = λ h. record { room = refl; access = refl; free = λ j l i. absurd (none_some l (sym (get_none j) ∙ i)) };
      }) st)
  started_at n (World.Fires call how) e = keeps_saying s (record r { world = World.stopped r.world n }) (lines.start_failed_line ∷ []) (keeps_stopping s r (record r { world = World.stopped r.world n }) [] st (record {
    slots = λ d. refl;
    batches = λ d. refl;
    opened = refl;
    log = sym (append-nil (updates_of r.log));
    given = refl;
    conns = λ j. emptied_at r.world.conns j;
    links = λ j. get_none j;
    hosts = tt;
    logged = rw (append-nil (updates_of r.log)) (subst (λ (z : Host). Invariant.Logged s (updates_of r.log) (state_in z)) e st.logged);
    owns = λ d u h. own_same s (updates_of r.log) (last_of (n.sessions) (actor (Invariant.core_of r.world d))) (Invariant.core_of r.world d) (Invariant.issued_by r d) h.done h.coming
        (subst (λ (z : Host). Invariant.Own s (updates_of r.log) (last_of (state_in z).sessions (actor (Invariant.core_of r.world d))) (Invariant.core_of r.world d) (Invariant.issued_by r d) h.done h.coming) e h.own);
    stands = λ w k. subst (λ (z : Host). Invariant.Stands s (state_in z).sessions w) e k;
  }))

  start_at : (g : Host) → r.world.host ≡ g → Invariant.Inv s (with_step r (World.start r.world g))
  start_at (Running v) e = keeps_saying s r [] st
  start_at (Stopped n) e = started_at n (World.burn 2 r.world.fuse) e

  pub keeps_start : Invariant.Inv s (with_step r (World.start r.world r.world.host))
  keeps_start = start_at r.world.host refl
