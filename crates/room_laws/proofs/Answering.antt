-- The server takes the first frame of a connection: what an outcome must keep, whether a fuse fires or not.
use Rattle.std.proofs.Common.{◌≡◌, ℕ, ◌<◌, ◌⊎◌, inl, inr, Bool, true, false, cond, ◌==◌, List, [], ◌∷◌, ◌++◌, refl, sym, ap, ◌∙◌, subst, append-nil}
use Rattle.std.specs.Prelude.{Option, Some, None, is_some}
use Rattle.std.proofs.lemmas.Bool.{cases_eq, eq-eqb, ne_eqb}
use Rattle.std.specs.FinMap.{get}
use Rattle.room_log.specs.Log.{State, last_of, updates_of}
use Rattle.room_model.specs.Server
use Rattle.room_model.specs.Server.{Outbound, Closed, Link, Inbound, Served}
use Rattle.room_model.specs.World
use Rattle.room_model.specs.World.{Conn, Slot, Host, Running, Fuse, state_in, links_of, slot}
use Rattle.room_model.specs.Run.{Run, with_step}
use Rattle.room_laws.specs.Core.{actor}
use Rattle.room_laws.specs.Invariant
use Rattle.room_laws.proofs.Maps.{get_none, emptied_at, hushed, conn_same, conn_other, get_same, get_other, removed_same}
use Rattle.room_laws.proofs.OwnLines.{keeps_saying}
use Rattle.room_laws.proofs.Stops.{keeps_stopping, own_same, keeps_settings}
use Rattle.room_laws.proofs.Leaving.{keeps_leaving}
use Rattle.room_laws.proofs.Acts.{pops}

no_cons : {A : Type 0} (x : A) (xs : List A) → x ∷ xs ≡ [] → ⊥
no_cons x xs e = cc

ended : (a o : Option ℕ) → World.newly_given a None o ≡ []
ended None o = refl
ended (Some a) o = refl

module _ (s : State) (r : Run) (v : Server.Server) (k : ℕ) (q : Conn) (u : Inbound) (us : List Inbound) (st : Invariant.Inv s r) (there : get r.world.conns k ≡ Some q) (first : q.inbound ≡ u ∷ us) (runs : r.world.host ≡ Running v) where
  abbrev shorter : Conn
  shorter = record q { inbound = us }

  abbrev w : World.World
  w = World.with_conn r.world k (record q { inbound = us })

  abbrev inbounds : ℕ → List Inbound
  inbounds j = cond (j == k) us (Invariant.conn r.world j).inbound

  pub is : Invariant.conn r.world k ≡ q
  is = ap Invariant.conn_in there

  pub conns_at : (j : ℕ) → (j ≡ k) ⊎ (j ≡ k → ⊥) → Invariant.conn w j ≡ record (Invariant.conn r.world j) { inbound = cond (j == k) us (Invariant.conn r.world j).inbound }
  conns_at j (inl e) = rw (eq-eqb j k e) (rw e (conn_same r.world.conns k shorter ∙ ap (λ (p : Conn). record p { inbound = us }) (sym is)))
  conns_at j (inr e) = rw (ne_eqb j k e) (conn_other r.world.conns k shorter j e)

  pub there_at : (j : ℕ) → (j ≡ k) ⊎ (j ≡ k → ⊥) → is_some (get r.world.conns j) ≡ true → is_some (get w.conns j) ≡ true
  there_at j (inl e) i = rw e (ap is_some (get_same r.world.conns k shorter))
  there_at j (inr e) i = ap is_some (get_other r.world.conns k shorter j e) ∙ i

  pub low : r.world.opened < k → ⊥
  low i = no_cons u us (sym first ∙ ap (λ (p : Conn). p.inbound) (sym is ∙ st.shape.unopened k i))

  -- a stop empties that queue too
  hushed_at : (j : ℕ) → (j ≡ k) ⊎ (j ≡ k → ⊥) → hushed (Invariant.conn w j) ≡ hushed (Invariant.conn r.world j)
  hushed_at j e = ap hushed (conns_at j e)

  pub stops : (n : State) → n ≡ v.state → Invariant.Inv s (record r { world = World.stopped w n })
  stops n f =
      let same : n ≡ state_in r.world.host = f ∙ ap state_in (sym runs) in
      keeps_stopping s r (record r { world = World.stopped w n }) [] st (record {
        slots = λ d. refl;
        batches = λ d. refl;
        opened = refl;
        log = sym (append-nil (updates_of r.log));
        given = refl;
        conns = λ j. emptied_at w.conns j ∙ hushed_at j (cases_eq j k);
        links = λ j. get_none j;
        hosts = tt;
        logged = rw (append-nil (updates_of r.log)) (subst (λ (z : State). Invariant.Logged s (updates_of r.log) z) (sym same) st.logged);
        owns = λ d i h. own_same s (updates_of r.log) (last_of (n.sessions) (actor (Invariant.core_of r.world d))) (Invariant.core_of r.world d) (Invariant.issued_by r d) h.done h.coming
            (subst (λ (z : State). Invariant.Own s (updates_of r.log) (last_of z.sessions (actor (Invariant.core_of r.world d))) (Invariant.core_of r.world d) (Invariant.issued_by r d) h.done h.coming) (sym same) h.own);
        stands = λ b h. subst (λ (z : State). Invariant.Stands s z.sessions b) (sym same) h;
      })

  -- what an outcome keeps, as it is sent, and where a fuse leaves nothing but its entry
  pub record Kept (out : Served) : Type 0 where
    pub intact : (f : Option Fuse) → Invariant.Inv s (with_step r (World.answered w v k out (World.Intact f)))
    pub stopped : Invariant.Inv s (record r { world = World.stopped w (World.state_with v.state out.entry); log = r.log ++ World.entries_in out.entry })

  fires : (out : Served) → Kept out → (b : Bool)
      → Invariant.Inv s (with_step r (cond b (record { world = World.stopped w (World.state_with v.state out.entry); lines = []; entries = World.entries_in out.entry; issues = []; given = [] }) (World.quiet (World.stopped w v.state))))
  fires out h true = rw (append-nil r.issued, append-nil r.given) h.stopped
  fires out h false = keeps_saying s (record r { world = World.stopped w v.state }) [] (stops v.state refl)

  answers : (out : Served) → Kept out → (b : World.Burnt) → Invariant.Inv s (with_step r (World.answered w v k out b))
  answers out h (World.Intact f) = h.intact f
  answers out h (World.Fires call how) = fires out h (World.is_kept call how)

  pub keeps_answer : (out : Served) → Kept out → Invariant.Inv s (with_step r (World.answer w v k out))
  keeps_answer out h = answers out h (World.burn (World.commit_calls out.entry) w.fuse)

  -- an outcome without an entry, that gives nobody an actor
  pub quietly : (out : Served) → out.entry ≡ None → World.given_by w v out k ≡ []
      → ((f : Option Fuse) → Invariant.Inv s (record r { world = record w { host = Running out.server; fuse = f; conns = World.deliver w.conns out.outs } })) → Kept out
  quietly out e g h = record {
    intact = λ f. rw (e, g) (rw (append-nil r.log, append-nil r.issued, append-nil r.given) (h f));
    stopped = rw e (rw (append-nil r.log) (stops v.state refl));
  }

  -- a close
  pub keeps_shut : (l : Link) (code : ℕ) (text : List ℕ) → get v.links k ≡ Some l → Kept (Server.shut v k l code text)
  keeps_shut l code text e = quietly (Server.shut v k l code text) refl
      (ap (λ o. World.newly_given (World.actor_on (get v.links k)) (World.actor_on o) (World.owner_of (get w.conns k))) (removed_same v.links k) ∙ ended (World.actor_on (get v.links k)) (World.owner_of (get w.conns k)))
      (λ f. keeps_leaving s r v k l w.conns (λ j. cond (j == k) us (Invariant.conn r.world j).inbound) f ((k, Closed code text) ∷ []) st runs e (λ j. conns_at j (cases_eq j k)) (λ j i. there_at j (cases_eq j k) i)
      (λ j i. rw (ne_eqb j k i) refl) (λ j i. rw (ne_eqb k j (λ d. i (sym d))) refl) (inr (code, (text, rw (eq-eqb k k refl) refl))) (rw (eq-eqb k k refl) refl))

  -- a frame of a connection that isn't attached
  pub passed_over : get v.links k ≡ None → Kept (Server.nothing v)
  passed_over e = quietly (Server.nothing v) refl
      (ap (λ o. World.newly_given (World.actor_on o) (World.actor_on o) (World.owner_of (get w.conns k))) e)
      (λ f. keeps_settings s (record r { world = w }) (record w { host = Running v; fuse = f; conns = w.conns }) (record {
        clients = refl;
        conns = refl;
        opened = refl;
        state = ap state_in (sym runs);
        links = λ j. ap (λ (g : Host). get (links_of g) j) (sym runs);
        hosts = λ h. subst Invariant.Hosts runs h;
      }) popped)
    where
      unlinked : Invariant.link r.world k ≡ None
      unlinked = ap (λ (g : Host). get (links_of g) k) runs ∙ e

      popped : Invariant.Inv s (record r { world = w })
      popped = pops s r k q us st is low (λ d o i.
          let old = subst (λ (z : Option Link). Invariant.Inbounds ((slot r.world d).present ≡ Some k) (Invariant.core_of r.world d).session (Invariant.tried (Invariant.core_of r.world d)) (Invariant.issued_by r d)
          (last_of (Invariant.sessions r) (actor (Invariant.core_of r.world d))) z (Invariant.conn r.world k).inbound) unlinked (st.inbounds d k o i) in
          absurd (no_cons u us (sym first ∙ ap (λ (p : Conn). p.inbound) (sym is) ∙ old)))
