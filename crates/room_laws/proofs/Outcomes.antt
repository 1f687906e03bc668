-- A commit, a join and a resume, as answers to a frame.
use Rattle.std.proofs.Common.{◌≡◌, ℕ, suc, ◌+◌, ◌<◌, ◌⊎◌, inl, inr, true, cond, ◌==◌, List, [], ◌∷◌, length, refl, sym, ap, ◌∙◌, subst, append-nil}
use Rattle.std.specs.Prelude.{Option, Some, None, is_some}
use Rattle.std.proofs.lemmas.Bool.{cases_eq, eq-eqb, ne_eqb}
use Rattle.std.specs.FinMap.{get, insert}
use Rattle.room_items.specs.Items.{tree_in, items_of}
use Rattle.room_msg.specs.declared.messages.Resume.{Resume}
use Rattle.room_msg.specs.declared.messages.Hello.{Hello}
use Rattle.room_log.specs.Log.{State, Session, Update, session_of, last_of, updated}
use Rattle.room_model.specs.Server
use Rattle.room_model.specs.Server.{Link, Inbound, Served}
use Rattle.room_model.specs.World
use Rattle.room_model.specs.World.{Conn, Host, Running, Fuse, slot}
use Rattle.room_model.specs.Run.{Run, IsUndisturbed}
use Rattle.room_laws.specs.Core.{actor}
use Rattle.room_laws.specs.Invariant
use Rattle.room_laws.proofs.Maps.{get_same}
use Rattle.room_laws.proofs.Served.{ClientOf}
use Rattle.room_laws.proofs.Commits.{Next, keeps_commit, keeps_commit_stopped}
use Rattle.room_laws.proofs.Joins.{keeps_join, keeps_join_stopped}
use Rattle.room_laws.proofs.Resumes.{keeps_resume}
use Rattle.room_laws.proofs.Answering.{Kept, stops, conns_at, there_at, low}

same_given : (a : Option ℕ) (o : Option ℕ) → World.newly_given a a o ≡ []
same_given None o = refl
same_given (Some b) o = refl

module _ (s : State) (r : Run) (v : Server.Server) (k : ℕ) (q : Conn) (u : Inbound) (us : List Inbound) (st : Invariant.Inv s r) (there : get r.world.conns k ≡ Some q) (first : q.inbound ≡ u ∷ us) (runs : r.world.host ≡ Running v) where
  abbrev w : World.World
  w = World.with_conn r.world k (record q { inbound = us })

  abbrev KeptHere : Served → Type 0
  KeptHere out = Kept s r v k q u us st there first runs out

  abbrev inbounds : ℕ → List Inbound
  inbounds j = cond (j == k) us (Invariant.conn r.world j).inbound

  inbounds_here : cond (k == k) us (Invariant.conn r.world k).inbound ≡ us
  inbounds_here = rw (eq-eqb k k refl) refl

  inbounds_else : (j : ℕ) → (j ≡ k → ⊥) → cond (j == k) us (Invariant.conn r.world j).inbound ≡ (Invariant.conn r.world j).inbound
  inbounds_else j e = rw (ne_eqb j k e) refl

  unopened : (j : ℕ) → (j ≡ k) ⊎ (j ≡ k → ⊥) → r.world.opened < j → cond (j == k) us (Invariant.conn r.world j).inbound ≡ []
  unopened j (inl e) i = absurd (low s r v k q u us st there first runs (subst (λ n. r.world.opened < n) e i))
  unopened j (inr e) i = inbounds_else j e ∙ ap (λ (p : Conn). p.inbound) (st.shape.unopened j i)

  conns : (j : ℕ) → Invariant.conn w j ≡ record (Invariant.conn r.world j) { inbound = cond (j == k) us (Invariant.conn r.world j).inbound }
  conns j = conns_at s r v k q u us st there first runs j (cases_eq j k)

  stay : (j : ℕ) → is_some (get r.world.conns j) ≡ true → is_some (get w.conns j) ≡ true
  stay j i = there_at s r v k q u us st there first runs j (cases_eq j k) i

  owner_is : World.owner_of (get w.conns k) ≡ (Invariant.conn r.world k).owner
  owner_is = ap World.owner_of (get_same r.world.conns k (record q { inbound = us })) ∙ ap (λ (p : Conn). p.owner) (sym (ap Invariant.conn_in there))

  hello_ready : (P : ℕ → Type 0) → ((d : ℕ) → (Invariant.conn r.world k).owner ≡ Some d → IsUndisturbed r d → (us ≡ []) × P d) → (d : ℕ) → (Invariant.conn r.world k).owner ≡ Some d → IsUndisturbed r d
      → (cond (k == k) us (Invariant.conn r.world k).inbound ≡ []) × P d
  hello_ready P f d o i = (inbounds_here ∙ (f d o i).0, (f d o i).1)

  -- what is given, where k had no actor
  given_new : (a : ℕ) (l l' : Link) (o : Option Link) → get v.links k ≡ Some l → l.actor ≡ None → o ≡ Some l' → l'.actor ≡ Some a
      → World.newly_given (World.actor_on (get v.links k)) (World.actor_on o) (World.owner_of (get w.conns k)) ≡ (a, (Invariant.conn r.world k).owner) ∷ []
  given_new a l l' o e f g h =
      ap (λ x. World.newly_given (World.actor_on x) (World.actor_on o) (World.owner_of (get w.conns k))) e
      ∙ ap (λ x. World.newly_given x (World.actor_on o) (World.owner_of (get w.conns k))) f
      ∙ ap (λ x. World.newly_given None (World.actor_on x) (World.owner_of (get w.conns k))) g
      ∙ ap (λ x. World.newly_given None x (World.owner_of (get w.conns k))) h
      ∙ ap (λ x. (a, x) ∷ []) owner_is

  pub joins_kept : (l : Link) (h : Hello) → get v.links k ≡ Some l → l.actor ≡ None
      → ((d : ℕ) → (Invariant.conn r.world k).owner ≡ Some d → IsUndisturbed r d → (us ≡ []) × (((slot r.world d).present ≡ Some k) → (Invariant.core_of r.world d).session ≡ None)) → KeptHere (Server.join v k l h None)
  joins_kept l h e f popped =
      let a = suc (length v.state.sessions) in
      let ready = hello_ready (λ d. ((slot r.world d).present ≡ Some k) → (Invariant.core_of r.world d).session ≡ None) popped in
      record {
        intact = λ g. rw (given_new a l (Server.with_session l a None) (get (insert v.links k (Server.with_session l a None)) k) e f (get_same v.links k (Server.with_session l a None)) refl) (rw (append-nil r.issued)
            (keeps_join s r v k l h.name w.conns (λ j. cond (j == k) us (Invariant.conn r.world j).inbound) g st runs e f conns stay inbounds_else (λ j i. unopened j (cases_eq j k) i) ready));
        stopped = keeps_join_stopped s r v k l h.name w.conns (λ j. cond (j == k) us (Invariant.conn r.world j).inbound) None st runs e f conns stay inbounds_else (λ j i. unopened j (cases_eq j k) i) ready w refl refl refl;
      }

  pub resumes_kept : (l : Link) (z : Resume) (x : Session) → get v.links k ≡ Some l → l.actor ≡ None → session_of v.state.sessions z.actor ≡ Some x
      → ((d : ℕ) → (Invariant.conn r.world k).owner ≡ Some d → IsUndisturbed r d → (us ≡ []) × (((slot r.world d).present ≡ Some k) → (Invariant.core_of r.world d).session ≡ Some z)) → KeptHere (Server.resumed v k l z None)
  resumes_kept l z x e f known popped =
      let ready = hello_ready (λ d. ((slot r.world d).present ≡ Some k) → (Invariant.core_of r.world d).session ≡ Some z) popped in
      record {
        intact = λ g. rw (given_new z.actor l (Server.with_session l z.actor None) (get (insert (Server.without_actor v.links z.actor) k (Server.with_session l z.actor None)) k) e f (get_same (Server.without_actor v.links z.actor) k (Server.with_session l z.actor None)) refl) (rw (append-nil r.log, append-nil r.issued)
            (keeps_resume s r v k l z x w.conns (λ j. cond (j == k) us (Invariant.conn r.world j).inbound) g st runs e f known conns stay inbounds_else (λ j i. unopened j (cases_eq j k) i) ready));
        stopped = rw (append-nil r.log) (stops s r v k q u us st there first runs v.state refl);
      }

  -- the one update of a frame that holds nothing else
  pub commits_kept : (l : Link) (n : Update) (x : Session) → get v.links k ≡ Some l → l.actor ≡ Some n.actor → session_of v.state.sessions n.actor ≡ Some x → n.first ≡ x.last + 1 → 0 < length n.bodies
      → tree_in (items_of (updated v.state n).tree) ≡ Some (updated v.state n).tree
      → ((d : ℕ) → (Invariant.conn r.world k).owner ≡ Some d → IsUndisturbed r d → (h : ClientOf s r d) → Next s r n d h)
      → ((d : ℕ) → (Invariant.conn r.world k).owner ≡ Some d → IsUndisturbed r d → Invariant.Inbounds ((slot r.world d).present ≡ Some k) (Invariant.core_of r.world d).session (Invariant.tried (Invariant.core_of r.world d)) (Invariant.issued_by r d)
      (last_of (updated v.state n).sessions (actor (Invariant.core_of r.world d))) (Some l) us)
      → KeptHere (Server.commit v n)
  commits_kept l n x e f known begins some spelled owned popped =
      let ready = λ (d : ℕ) (o : (Invariant.conn r.world k).owner ≡ Some d) (i : IsUndisturbed r d). subst (λ (z : List Inbound). Invariant.Inbounds ((slot r.world d).present ≡ Some k) (Invariant.core_of r.world d).session (Invariant.tried (Invariant.core_of r.world d)) (Invariant.issued_by r d)
      (last_of (updated v.state n).sessions (actor (Invariant.core_of r.world d))) (Some l) z) (sym inbounds_here) (popped d o i) in
      record {
        intact = λ g. rw (same_given (World.actor_on (get v.links k)) (World.owner_of (get w.conns k))) (rw (append-nil r.issued, append-nil r.given)
            (keeps_commit s r v k l n x w.conns (λ j. cond (j == k) us (Invariant.conn r.world j).inbound) g st runs e f known begins some spelled conns stay inbounds_else (λ j i. unopened j (cases_eq j k) i) owned ready));
        stopped = keeps_commit_stopped s r v k l n x w.conns (λ j. cond (j == k) us (Invariant.conn r.world j).inbound) None st runs e f known begins some spelled conns stay inbounds_else (λ j i. unopened j (cases_eq j k) i) owned ready w refl refl refl;
      }
