-- The server takes the first frame of a connection, whoever sent it.
use Rattle.std.proofs.Common.{◌≡◌, ℕ, Bool, true, false, cond, List, [], ◌∷◌, ◌++◌, refl, sym, ap, ◌∙◌, subst, append-nil}
use Rattle.std.specs.Prelude.{Option, Some, None}
use Rattle.std.specs.FinMap.{get}
use Rattle.room_items.specs.Items.{tree_in, items_of}
use Rattle.room_log.specs.Log.{State, Updated, Update, tree_after, updated, updates_of}
use Rattle.room_model.specs.Server
use Rattle.room_model.specs.Server.{Link, Inbound, Served}
use Rattle.room_model.specs.World
use Rattle.room_model.specs.World.{Conn, Host, Running, Stopped, state_in}
use Rattle.room_model.specs.Run.{Run, with_step, is_undisturbed, IsUndisturbed}
use Rattle.room_nodes.specs.Steps
use Rattle.room_laws.specs.Laws.{ReadsBack}
use Rattle.room_laws.specs.Invariant
use Rattle.room_laws.proofs.Advance.{tree_after-append}
use Rattle.room_laws.proofs.RunSteps.{updates_of-append}
use Rattle.room_laws.proofs.OwnLines.{keeps_saying}
use Rattle.room_laws.proofs.Answering.{Kept, stops, passed_over}
use Rattle.room_laws.proofs.Serves.{hello_kept}
use Rattle.room_laws.proofs.OwnFrames.{own_frame_kept}
use Rattle.room_laws.proofs.Strangers.{stranger_kept}
use Rattle.room_laws.proofs.Facts.{some_is, none_some}

true_false : false ≡ true → ⊥
true_false e = cc

module _ (s : State) (r : Run) (v : Server.Server) (k : ℕ) (q : Conn) (u : Inbound) (us : List Inbound) (st : Invariant.Inv s r) (there : get r.world.conns k ≡ Some q) (first : q.inbound ≡ u ∷ us) (runs : r.world.host ≡ Running v) where
  abbrev KeptHere : Served → Type 0
  KeptHere out = Kept s r v k q u us st there first runs out

  abbrev w : World.World
  w = World.with_conn r.world k (record q { inbound = us })

  abbrev Spells : Served → Type 0
  Spells out = (n : Update) → out.entry ≡ Some (Updated n) → tree_in (items_of (updated v.state n).tree) ≡ Some (updated v.state n).tree

  hosts : Invariant.Hosts (Running v)
  hosts = subst Invariant.Hosts runs st.shape.hosts

  by_actor : (l : Link) (c : ℕ) (a : Option ℕ) → get v.links k ≡ Some l → (Invariant.conn r.world k).owner ≡ Some c → IsUndisturbed r c → l.actor ≡ a → Spells (Server.serve v k u) → KeptHere (Server.serve v k u)
  by_actor l c None e o i f h = hello_kept s r v k q u us st there first runs l e c o i f
  by_actor l c (Some a) e o i f h = own_frame_kept s r v k q u us st there first runs l e a f c o i h

  by_stranger : (l : Link) → get v.links k ≡ Some l → ((d : ℕ) → (Invariant.conn r.world k).owner ≡ Some d → IsUndisturbed r d → ⊥) → Spells (Server.serve v k u) → KeptHere (Server.serve v k u)
  by_stranger l e void h =
      let answer : Server.serve v k u ≡ Server.frame_at v k l u = ap (Server.serve_from v k u) e in
      subst KeptHere (sym answer) (stranger_kept s r v k q u us st there first runs l e void access u (subst Spells answer h))
    where
      access_of : Invariant.Hosts (Running v) → v.access ≡ None
      access_of g = g.access

      access : v.access ≡ None
      access = access_of (subst Invariant.Hosts runs st.shape.hosts)

  by_calm : (l : Link) (c : ℕ) (b : Bool) → get v.links k ≡ Some l → (Invariant.conn r.world k).owner ≡ Some c → is_undisturbed r c ≡ b → Spells (Server.serve v k u) → KeptHere (Server.serve v k u)
  by_calm l c true e o i h = by_actor l c l.actor e o i refl h
  by_calm l c false e o i h = by_stranger l e (λ d p j. true_false (sym i ∙ subst (λ n. IsUndisturbed r n) (some_is d c (sym p ∙ o)) j)) h

  by_owner : (l : Link) (o : Option ℕ) → get v.links k ≡ Some l → (Invariant.conn r.world k).owner ≡ o → Spells (Server.serve v k u) → KeptHere (Server.serve v k u)
  by_owner l None e o h = by_stranger l e (λ d p j. none_some d (sym o ∙ p)) h
  by_owner l (Some c) e o h = by_calm l c (is_undisturbed r c) e o refl h

  by_link : (o : Option Link) → get v.links k ≡ o → Spells (Server.serve v k u) → KeptHere (Server.serve v k u)
  by_link None e h = subst KeptHere (sym (ap (Server.serve_from v k u) e)) (passed_over s r v k q u us st there first runs e)
  by_link (Some l) e h = by_owner l (Invariant.conn r.world k).owner e refl h

  -- the log after it says that what is taken is read again
  spells : (out : Served) → ReadsBack s (updates_of (r.log ++ World.entries_in out.entry)) → Spells out
  spells out h n e =
      let log : updates_of (r.log ++ World.entries_in out.entry) ≡ updates_of r.log ++ n ∷ [] = ap (λ x. updates_of (r.log ++ World.entries_in x)) e ∙ updates_of-append r.log (Updated n ∷ []) in
      let now : v.state.tree ≡ tree_after s.tree (updates_of r.log) = ap (λ (z : State). z.tree) (sym (ap state_in runs)) ∙ st.logged.tree in
      let after : tree_after s.tree (updates_of r.log ++ n ∷ []) ≡ (updated v.state n).tree = tree_after-append s.tree (updates_of r.log) (n ∷ []) ∙ ap (λ t. Steps.fold t n.bodies) (sym now) in
      subst (λ t. tree_in (items_of t) ≡ Some t) after (h (updates_of r.log ++ n ∷ []) [] (log ∙ sym (append-nil (updates_of r.log ++ n ∷ []))))

  kept : ReadsBack s (updates_of (r.log ++ World.entries_in (Server.serve v k u).entry)) → KeptHere (Server.serve v k u)
  kept h = by_link (get v.links k) refl (spells (Server.serve v k u) h)

  abbrev Reads : World.Stepped → Type 0
  Reads out = ReadsBack s (updates_of (r.log ++ out.entries))

  abbrev Fired : Bool → World.Stepped
  Fired b = cond b (record { world = World.stopped w (World.state_with v.state (Server.serve v k u).entry); lines = []; entries = World.entries_in (Server.serve v k u).entry; issues = []; given = [] }) (World.quiet (World.stopped w v.state))

  fires : (b : Bool) → Reads (Fired b) → Invariant.Inv s (with_step r (Fired b))
  fires true h = rw (append-nil r.issued, append-nil r.given) (kept h).stopped
  fires false h = keeps_saying s (record r { world = World.stopped w v.state }) [] (stops s r v k q u us st there first runs v.state refl)

  answers : (b : World.Burnt) → Reads (World.answered w v k (Server.serve v k u) b) → Invariant.Inv s (with_step r (World.answered w v k (Server.serve v k u) b))
  answers (World.Intact f) h = (kept h).intact f
  answers (World.Fires call how) h = fires (World.is_kept call how) h

  pub keeps_frame : Reads (World.answer w v k (Server.serve v k u)) → Invariant.Inv s (with_step r (World.answer w v k (Server.serve v k u)))
  keeps_frame h = answers (World.burn (World.commit_calls (Server.serve v k u).entry) w.fuse) h

module _ (s : State) (r : Run) (k : ℕ) (st : Invariant.Inv s r) where
  abbrev Keeps : World.Stepped → Type 0
  Keeps out = ReadsBack s (updates_of (r.log ++ out.entries)) → Invariant.Inv s (with_step r out)

  stays : Keeps (World.quiet r.world)
  stays h = keeps_saying s r [] st

  from : (g : Host) (q : Conn) (us : List Inbound) → r.world.host ≡ g → get r.world.conns k ≡ Some q → q.inbound ≡ us → Keeps (World.inbound_from r.world k g q us)
  from (Running v) q (u ∷ us) e f i h = keeps_frame s r v k q u us st f i e h
  from (Running v) q [] e f i h = stays h
  from (Stopped n) q us e f i h = stays h

  at : (o : Option Conn) → get r.world.conns k ≡ o → Keeps (World.inbound_at r.world k o)
  at None e h = stays h
  at (Some q) e h = from r.world.host q q.inbound refl e refl h

  pub keeps_inbound : Keeps (World.server_receives r.world k)
  keeps_inbound h = at (get r.world.conns k) refl h
