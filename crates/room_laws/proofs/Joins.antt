-- A new session begins.
use Rattle.std.proofs.Common.{◌≡◌, ℕ, suc, ◌<◌, ◌≤◌, ◌⊎◌, inl, inr, true, List, [], ◌∷◌, ◌++◌, length, refl, sym, ap, ◌∙◌, subst, arith, append-nil, length-append}
use Rattle.std.specs.Prelude.{Option, Some, None, is_some}
use Rattle.std.proofs.lemmas.Bool.{cases_eq, eq-eqb, ne_eqb}
use Rattle.std.specs.FinMap.{FinMap, get, insert, remove}
use Rattle.std.specs.Ordering.{nat_cmp}
use Rattle.room_msg.specs.declared.messages.Resume.{Resume}
use Rattle.room_msg.specs.declared.messages.ServerMsg.TheVariants as server
use Rattle.room_log.specs.Log.{State, Session, Join, Update, joined, last_of, updates_of}
use Rattle.room_model.specs.Server
use Rattle.room_model.specs.Server.{Outbound, Message, Closed, Link, Inbound, Served, has_session}
use Rattle.room_model.specs.World
use Rattle.room_model.specs.World.{Conn, Slot, Host, Running, Fuse, state_in, links_of, deliver, slot, slot_in}
use Rattle.room_model.specs.Run.{Run, IsUndisturbed}
use Rattle.room_laws.specs.Core.{actor}
use Rattle.room_laws.specs.Invariant
use Rattle.room_laws.proofs.Maps.{mine, passes, to_others_same, to_others_other, deliver_there, get_same, get_other, get_none, emptied_at, hushed}
use Rattle.room_laws.proofs.Stops.{keeps_stopping, own_same}
use Rattle.room_laws.proofs.RunSteps.{updates_of-append}
use Rattle.room_laws.proofs.Sessions.{last_past}
use Rattle.room_laws.proofs.Calm.{inbounds_after}
use Rattle.room_laws.proofs.Leaving.{delivered, inbounds_passed}
use Rattle.room_laws.proofs.Welcomes.{last_join, session_join, slice_new, silent_within, keeps_welcome}

within_more : (n m : ℕ) (us : List Update) → n ≤ m → Invariant.Within n us → Invariant.Within m us
within_more n m [] l w = tt
within_more n m (u ∷ us) l w = record { actor = omega (arith, w.actor); more = within_more n m us l w.more }

-- qs: the connections without the hello; ups: their inbound queues
module _ (s : State) (r : Run) (v : Server.Server) (k : ℕ) (l : Link) (name : Option (List ℕ)) (qs : FinMap nat_cmp Conn) (inbounds : ℕ → List Inbound) (fuse : Option Fuse) (st : Invariant.Inv s r)
    (runs : r.world.host ≡ Running v) (attached : get v.links k ≡ Some l) (bare : l.actor ≡ None)
    (conns : (j : ℕ) → Invariant.conn_in (get qs j) ≡ record (Invariant.conn r.world j) { inbound = inbounds j })
    (there : (j : ℕ) → is_some (get r.world.conns j) ≡ true → is_some (get qs j) ≡ true)
    (else : (j : ℕ) → (j ≡ k → ⊥) → inbounds j ≡ (Invariant.conn r.world j).inbound)
    (unopened : (j : ℕ) → r.world.opened < j → inbounds j ≡ [])
    -- an undisturbed client's hello was the only frame, and it knows no session where it is present
    (popped : (d : ℕ) → (Invariant.conn r.world k).owner ≡ Some d → IsUndisturbed r d → (inbounds k ≡ []) × (((slot r.world d).present ≡ Some k) → (Invariant.core_of r.world d).session ≡ None)) where
  abbrev a : ℕ
  a = suc (length v.state.sessions)

  abbrev now : Link
  now = Server.with_session l (suc (length v.state.sessions)) None

  abbrev next : Server.Server
  next = record v { state = joined v.state l.key (Server.name_of name); links = insert v.links k (Server.with_session l (suc (length v.state.sessions)) None) }

  abbrev users : List (ℕ × List ℕ)
  users = Server.users_of (joined v.state l.key (Server.name_of name)).sessions (remove (insert v.links k (Server.with_session l (suc (length v.state.sessions)) None)) k)

  abbrev outs : List (ℕ × Outbound)
  outs = (k, Message (server.RoomState (suc (length v.state.sessions)) l.key (Server.users_of (joined v.state l.key (Server.name_of name)).sessions (remove (insert v.links k (Server.with_session l (suc (length v.state.sessions)) None)) k))))
      ∷ Server.to_others (insert v.links k (Server.with_session l (suc (length v.state.sessions)) None)) k (server.Joined (suc (length v.state.sessions)))

  abbrev t : Run
  t = record r {
    world = record (r.world) { host = Running next; fuse = fuse; conns = deliver qs outs };
    log = r.log ++ Join (suc (length v.state.sessions)) l.key (Server.name_of name) ∷ [];
    given = r.given ++ (suc (length v.state.sessions), (Invariant.conn r.world k).owner) ∷ [];
  }

  abbrev session : Session
  session = record { key = l.key; last = 0; name = Server.name_of name }

  state_is : state_in r.world.host ≡ v.state
  state_is = ap state_in runs

  logged : Invariant.Logged s (updates_of r.log) v.state
  logged = subst (λ (z : State). Invariant.Logged s (updates_of r.log) z) state_is st.logged

  link_is : (j : ℕ) → Invariant.link r.world j ≡ get v.links j
  link_is j = ap (λ (g : Host). get (links_of g) j) runs

  sends_here : mine k outs ≡ Message (server.RoomState a l.key users) ∷ []
  sends_here = rw (eq-eqb k k refl) (ap (λ ms. Message (server.RoomState a l.key users) ∷ ms) (to_others_same (server.Joined a) k (insert v.links k now)))

  sends_else : (j : ℕ) → (j ≡ k → ⊥) → mine j outs ≡ passes has_session (Message (server.Joined a)) (Invariant.link r.world j)
  sends_else j e = rw (ne_eqb k j (λ d. e (sym d))) (to_others_other (server.Joined a) k j (insert v.links k now) e
      ∙ ap (passes has_session (Message (server.Joined a))) (get_other v.links k now j e ∙ sym (link_is j)))

  inbounds_here : inbounds_after (inbounds k) (mine k outs) ≡ inbounds k
  inbounds_here = ap (λ ms. inbounds_after (inbounds k) ms) sends_here

  inbounds_else : (j : ℕ) → (j ≡ k → ⊥) → inbounds_after (inbounds j) (mine j outs) ≡ (Invariant.conn r.world j).inbound
  inbounds_else j e = ap (λ ms. inbounds_after (inbounds j) ms) (sends_else j e) ∙ inbounds_passed (inbounds j) has_session (server.Joined a) (Invariant.link r.world j) ∙ else j e

  unopened_at : (j : ℕ) → (j ≡ k) ⊎ (j ≡ k → ⊥) → r.world.opened < j → inbounds_after (inbounds j) (mine j outs) ≡ []
  unopened_at j (inl e) i = subst (λ n. inbounds_after (inbounds n) (mine n outs) ≡ []) (sym e) (inbounds_here ∙ unopened k (subst (λ n. r.world.opened < n) e i))
  unopened_at j (inr e) i = inbounds_else j e ∙ ap (λ (p : Conn). p.inbound) (st.shape.unopened j i)

  many : length (v.state.sessions ++ session ∷ []) ≡ a
  many = length-append v.state.sessions (session ∷ []) ∙ omega arith

  some_is : {A : Type 0} (x y : A) → Some x ≡ Some y → x ≡ y
  some_is x y e = cc

  hosts_after : Invariant.Hosts (Running v) → Invariant.Hosts (Running next)
  hosts_after h = record { room = h.room; access = h.access; free = λ j n i. free_at h j n (cases_eq j k) i }
    where
      free_at : Invariant.Hosts (Running v) → (j : ℕ) (n : Link) → (j ≡ k) ⊎ (j ≡ k → ⊥) → get (insert v.links k now) j ≡ Some n → (n.decision ≡ None) × (0 < n.key)
      free_at h j n (inl e) i =
          let same : now ≡ n = some_is now n (sym (get_same v.links k now) ∙ subst (λ b. get (insert v.links k now) b ≡ Some n) e i) in
          (ap (λ (z : Link). z.decision) (sym same), subst (λ i. 0 < i) (ap (λ (z : Link). z.key) same) (h.free k l attached).1)
      free_at h j n (inr e) i = h.free j n (sym (get_other v.links k now j e) ∙ i)

  keyed : 0 < l.key
  keyed = by_host (subst Invariant.Hosts runs st.shape.hosts)
    where
      by_host : Invariant.Hosts (Running v) → 0 < l.key
      by_host h = (h.free k l attached).1

  stands_new : Invariant.Stands s (v.state.sessions ++ session ∷ []) (record { actor = a; key = l.key })
  stands_new = record { session = session; is = slice_new v.state.sessions session; key = refl; some = keyed; since = omega (arith, logged.more) }

  fresh : Invariant.New s (updates_of r.log) (v.state.sessions ++ session ∷ []) (record { actor = a; key = l.key })
  fresh = record {
    stands = stands_new;
    unused = last_join v.state.sessions session a refl ∙ last_past v.state.sessions a (omega arith);
    silent = silent_within a (length v.state.sessions) (updates_of r.log) (omega arith) logged.within;
  }

  logged_after : Invariant.Logged s (updates_of r.log) (joined v.state l.key (Server.name_of name))
  logged_after = record {
    count = logged.count;
    tree = logged.tree;
    more = omega (arith, logged.more, many);
    within = within_more (length v.state.sessions) (length (v.state.sessions ++ session ∷ [])) (updates_of r.log) (omega (arith, many)) logged.within;
    lasts = λ b. last_join v.state.sessions session b refl ∙ logged.lasts b;
    spelled = logged.spelled;
  }

  stands_after : (w : Resume) → Invariant.Stands s (Invariant.sessions r) w → Invariant.Stands s (v.state.sessions ++ session ∷ []) w
  stands_after w h =
      let old = subst (λ (z : State). Invariant.Stands s z.sessions w) state_is h in
      record { session = old.session; is = session_join v.state.sessions session old.session w.actor old.is; key = old.key; some = old.some; since = old.since }

  -- a fuse fires in it, and leaves the entry alone; w: the world without the frame
  pub keeps_join_stopped : (w : World.World) → w.clients ≡ r.world.clients → w.opened ≡ r.world.opened → w.conns ≡ qs
      → Invariant.Inv s (record r { world = World.stopped w (joined v.state l.key (Server.name_of name)); log = r.log ++ Join (suc (length v.state.sessions)) l.key (Server.name_of name) ∷ [] })
  keeps_join_stopped w c o q = keeps_stopping s r (record r { world = World.stopped w (joined v.state l.key (Server.name_of name)); log = r.log ++ Join (suc (length v.state.sessions)) l.key (Server.name_of name) ∷ [] }) [] st (record {
    slots = λ d. ap (λ m. slot_in (get m d)) c;
    batches = λ d. refl;
    opened = o;
    log = updates_of-append r.log (Join a l.key (Server.name_of name) ∷ []);
    given = refl;
    conns = λ j. emptied_at w.conns j ∙ ap (λ m. hushed (Invariant.conn_in (get m j))) q ∙ ap hushed (conns j);
    links = λ j. get_none j;
    hosts = tt;
    logged = rw (append-nil (updates_of r.log)) logged_after;
    owns = λ d g h. own_same s (updates_of r.log) (last_of (v.state.sessions ++ session ∷ []) (actor (Invariant.core_of r.world d))) (Invariant.core_of r.world d) (Invariant.issued_by r d) h.done h.coming
        (subst (λ n. Invariant.Own s (updates_of r.log) n (Invariant.core_of r.world d) (Invariant.issued_by r d) h.done h.coming)
        (ap (λ (z : State). last_of z.sessions (actor (Invariant.core_of r.world d))) state_is ∙ sym (last_join v.state.sessions session (actor (Invariant.core_of r.world d)) refl)) h.own);
    stands = stands_after;
  })

  pub keeps_join : Invariant.Inv s t
  keeps_join = keeps_welcome s r t k l now (record { actor = a; key = l.key }) users (λ j. mine j outs) (λ j. inbounds_after (inbounds j) (mine j outs)) st
      (λ d. refl) (λ d. refl) refl (updates_of-append r.log (Join a l.key (Server.name_of name) ∷ []) ∙ append-nil (updates_of r.log)) refl
      (hosts_after (subst Invariant.Hosts runs st.shape.hosts))
      logged_after
      (λ j. delivered r qs inbounds outs j (conns j))
      (λ j e. deliver_there qs outs j (there j e))
      (λ j e. unopened_at j (cases_eq j k) e)
      (link_is k ∙ attached) bare (get_same v.links k now) refl refl (omega arith) (omega (arith, many))
      (omega (arith, many, ap (λ (z : State). length z.sessions) state_is))
      (λ b. last_join v.state.sessions session b refl ∙ ap (λ (z : State). last_of z.sessions b) (sym state_is))
      (λ w h.
      let old = subst (λ (z : State). Invariant.Stands s z.sessions w) state_is h in
      record { session = old.session; is = session_join v.state.sessions session old.session w.actor old.is; key = old.key; some = old.some; since = old.since })
      sends_here
      (λ j e. inl (get_other v.links k now j e ∙ sym (link_is j), sends_else j e, inbounds_else j e))
      (λ d o u.
      let f = popped d o u in
      (inbounds_here ∙ f.0, λ e. last_past s.sessions a (omega (arith, logged.more)), λ e. inr (f.1 e, fresh)))
