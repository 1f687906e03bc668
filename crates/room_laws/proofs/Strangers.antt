-- The frames of a connection that no undisturbed client owns.
use Rattle.std.proofs.Common.{◌≡◌, ℕ, zero, suc, ◌+◌, ◌<◌, ◌≤◌, ◌⊎◌, inl, inr, Bool, true, false, cond, ◌==◌, ◌&&◌, not, nat_le, List, [], ◌∷◌, ◌++◌, length, refl, sym, ap, ◌∙◌, subst, arith, ⊎_elim}
use Rattle.std.specs.Prelude.{Option, Some, None, Ok, Err, codes, decimal}
use Rattle.std.proofs.lemmas.Bool.{cases_eq, eq-eqb, ne_eqb}
use Rattle.std.specs.Str.{bytes_eq}
use Rattle.std.specs.FinMap.{get}
use Rattle.room_items.specs.Items.{tree_in, items_of}
use Rattle.room_msg.specs.declared.messages.Resume.{Resume}
use Rattle.room_msg.specs.declared.messages.Hello.{Hello}
use Rattle.room_msg.specs.declared.messages.ClientMsg.{ClientMsg}
use Rattle.room_msg.specs.declared.messages.ClientFrame.TheVariants as frame
use Rattle.room_msg.specs.declared.reason.Reason.TheVariants as reason
use Rattle.room_log.specs.Log.{State, Session, Updated, Update, session_of, last_in, updated}
use Rattle.room_log.specs.Taking.{Taken, Nothing, Gap, Takes, take}
use Rattle.room_model.specs.Access.{Decision, barred, refusal_text}
use Rattle.room_model.specs.Server
use Rattle.room_model.specs.Server.{Link, Inbound, Served, Pong}
use Rattle.room_model.specs.World
use Rattle.room_model.specs.World.{Conn, Host, Running, Fuse, state_in, links_of}
use Rattle.room_model.specs.Run.{Run, IsUndisturbed}
use Rattle.room_laws.specs.Invariant
use Rattle.room_laws.proofs.Maps.{mine, conn_same}
use Rattle.room_laws.proofs.Calm.{inbounds_after, SaidTo}
use Rattle.room_laws.proofs.Acts.{pops, keeps_say}
use Rattle.room_laws.proofs.Answering.{Kept, keeps_shut, quietly, low}
use Rattle.room_laws.proofs.Outcomes.{joins_kept, resumes_kept, commits_kept}
use Rattle.room_laws.proofs.Serves.{begins, talk_kept, sent_kept, reached_kept}
use Rattle.room_laws.proofs.Talks.{Reached}
use Rattle.room_laws.proofs.Takings.{Taking, taking}
use Rattle.room_laws.proofs.Mixed.{mixed}
use Rattle.room_laws.proofs.Acting.{act_from, taken_from, taken_is}

slice_there : (ss : List Session) (a : ℕ) → 0 < a → a ≤ length ss → (x : Session) × (session_of ss a ≡ Some x)
slice_there ss zero p q = absurd (omega arith)
slice_there [] (suc i) p q = absurd (omega arith)
slice_there (x ∷ ss) (suc zero) p q = (x, refl)
slice_there (x ∷ ss) (suc (suc i)) p q = slice_there ss (suc i) (omega arith) (omega arith)

module _ (s : State) (r : Run) (v : Server.Server) (k : ℕ) (q : Conn) (u : Inbound) (us : List Inbound) (st : Invariant.Inv s r) (there : get r.world.conns k ≡ Some q) (first : q.inbound ≡ u ∷ us) (runs : r.world.host ≡ Running v)
    (l : Link) (attached : get v.links k ≡ Some l) (void : (d : ℕ) → (Invariant.conn r.world k).owner ≡ Some d → IsUndisturbed r d → ⊥) where
  abbrev KeptHere : Served → Type 0
  KeptHere out = Kept s r v k q u us st there first runs out

  abbrev w : World.World
  w = World.with_conn r.world k (record q { inbound = us })

  abbrev Spelled : Update → Type 0
  Spelled n = tree_in (items_of (updated v.state n).tree) ≡ Some (updated v.state n).tree

  -- what it takes into the log leads to a tree that is read again
  abbrev Spells : Served → Type 0
  Spells out = (n : Update) → out.entry ≡ Some (Updated n) → Spelled n

  shuts : (code : ℕ) (text : List ℕ) → KeptHere (Server.shut v k l code text)
  shuts code text = keeps_shut s r v k q u us st there first runs l code text attached

  owner_is : (Invariant.conn w k).owner ≡ (Invariant.conn r.world k).owner
  owner_is = ap (λ (p : Conn). p.owner) (conn_same r.world.conns k (record q { inbound = us })) ∙ ap (λ (p : Conn). p.owner) (sym (ap Invariant.conn_in there))

  link_here : Invariant.link r.world k ≡ Some l
  link_here = ap (λ (g : Host). get (links_of g) k) runs ∙ attached

  by_full : (b : Bool) (code : ℕ) (text : List ℕ) (out : Served) → (cond b (Server.shut v k l code text) out ≡ out → KeptHere out) → KeptHere (cond b (Server.shut v k l code text) out)
  by_full true code text out h = shuts code text
  by_full false code text out h = h refl

  by_may : (b : Bool) (code : ℕ) (text : List ℕ) (out : Served) → (cond b out (Server.shut v k l code text) ≡ out → KeptHere out) → KeptHere (cond b out (Server.shut v k l code text))
  by_may true code text out h = h refl
  by_may false code text out h = shuts code text

  spells_on : (x y : Served) → x ≡ y → Spells x → Spells y
  spells_on x y e f = subst Spells e f

  -- a session
  module _ (a : ℕ) (named : l.actor ≡ Some a) (ms : List ClientMsg) where
    started : Reached s r w k a (Server.nothing v)
    started = begins s r v k q u us st there first runs l attached a named (λ d o i. absurd (void d o i))

    abbrev Out : Update → Served
    Out n = act_from (Server.nothing v) k a (Some n) ms

    none_kept : (n : Update) → Reached s r w k a (Out n) → (Out n).entry ≡ None → KeptHere (Out n)
    none_kept n h e = reached_kept s r v k q u us st there first runs l attached a (Out n) named e h

    some_kept : (n : Update) (x : Session) → session_of v.state.sessions n.actor ≡ Some x → n.first ≡ x.last + 1 → 0 < length n.bodies → n.actor ≡ a → Spells (Out n) → Reached s r w k a (Out n) → (Out n).entry ≡ Some (Updated n) → KeptHere (Out n)
    some_kept n x known next some mine f h e = sent_kept s r v k q u us st there first runs l attached a (Out n) named h
        (rw e (commits_kept s r v k q u us st there first runs l n x attached (named ∙ ap Some (sym mine)) known next some (f n e) (λ d o i. absurd (void d o i)) (λ d o i. absurd (void d o i))).stopped)

    takes_kept : (n : Update) → take v.state a (Server.all_ops_in ms) ≡ Takes n → Spells (Out n) → KeptHere (Out n)
    takes_kept n e f =
        let t : Taking v.state a n = taking v.state a (Server.all_ops_in ms) n e in
        let place = st.actors k a l link_here named in
        let x = slice_there v.state.sessions a place.0 (omega (arith, place.1, ap (λ (z : State). length z.sessions) (ap state_in runs))) in
        let known : session_of v.state.sessions n.actor ≡ Some x.0 = ap (session_of v.state.sessions) t.actor ∙ x.1 in
        let next : n.first ≡ x.0.last + 1 = t.first ∙ ap (λ i. i + 1) (ap last_in x.1) in
        let done = mixed s r w k a v.state n x.0 t.actor known next t.some (λ d o i. void d (sym owner_is ∙ o) i) v ms refl started (f n) in
        ⊎_elim (none_kept n done.reached) (some_kept n x.0 known next t.some t.actor f done.reached) done.entry

    taken_kept : (t : Taken) → take v.state a (Server.all_ops_in ms) ≡ t → Spells (taken_from v k l a ms t) → KeptHere (taken_from v k l a ms t)
    taken_kept Nothing e f = talk_kept s r v k q u us st there first runs l attached a ms named (λ d o i. absurd (void d o i))
    taken_kept (Gap expected got) e f = shuts 4402 (Server.expected_got (codes "clock gap") expected got)
    taken_kept (Takes n) e f = by_full (nat_le v.limits.updates v.state.count) 4406 (codes "room full " ++ decimal v.state.count) (Out n) (λ i. takes_kept n e (spells_on (taken_from v k l a ms (Takes n)) (Out n) i f))

    owned_kept : (o : Option ℕ) → Spells (Server.owned v k l a ms o) → KeptHere (Server.owned v k l a ms o)
    owned_kept (Some got) f = shuts 4404 (Server.expected_got (codes "foreign actor") a got)
    owned_kept None f = unless (barred l.decision ms) f
      where
        unless : (bar : Option Decision) → Spells (Server.permitted_unless v k l a ms bar) → KeptHere (Server.permitted_unless v k l a ms bar)
        unless None g =
            let t = take v.state a (Server.all_ops_in ms) in
            subst KeptHere (sym (taken_is v k l a ms t)) (taken_kept t refl (subst Spells (taken_is v k l a ms t) g))
        unless (Some bar) g = shuts 4403 (refusal_text bar)

    pub session_kept : Spells (Server.session_frame v k l a ms) → KeptHere (Server.session_frame v k l a ms)
    session_kept f = by_full (Server.has_hello ms) 4400 (codes "bad frame " ++ Server.reason_text reason.Hello) (Server.owned v k l a ms (Server.foreign_in a (Server.all_ops_in ms)))
        (λ i. owned_kept (Server.foreign_in a (Server.all_ops_in ms)) (spells_on (Server.session_frame v k l a ms) (Server.owned v k l a ms (Server.foreign_in a (Server.all_ops_in ms))) i f))

  -- a hello
  module _ (bare : l.actor ≡ None) (access : v.access ≡ None) where
    abbrev Known : Option Resume → Type 0
    Known None = Unit {0}
    Known (Some z) = (x : Session) × (session_of v.state.sessions z.actor ≡ Some x)

    admitted_kept : (h : Hello) (o : Option Resume) → Known o → KeptHere (Server.admitted v k l h o None)
    admitted_kept h None i = joins_kept s r v k q u us st there first runs l h attached bare (λ d o j. absurd (void d o j))
    admitted_kept h (Some z) i = resumes_kept s r v k q u us st there first runs l z i.0 attached bare i.1 (λ d o j. absurd (void d o j))

    admit_kept : (h : Hello) → Known h.resume → KeptHere (Server.admit v k l h (Server.decision_of v h v.access))
    admit_kept h i = subst (λ d. KeptHere (Server.admit v k l h d)) (sym (ap (Server.decision_of v h) access)) (admitted_kept h h.resume i)

    by_key : (h : Hello) (z : Resume) (o : Option Session) → h.resume ≡ Some z → session_of v.state.sessions z.actor ≡ o
        → KeptHere (cond (Server.has_key z.key o) (Server.admit v k l h (Server.decision_of v h v.access)) (Server.shut v k l 4401 (codes "bad resume")))
    by_key h z None e f = shuts 4401 (codes "bad resume")
    by_key h z (Some x) e f = by_may ((x.key == z.key) && not (z.key == 0)) 4401 (codes "bad resume") (Server.admit v k l h (Server.decision_of v h v.access)) (λ i. admit_kept h (subst Known (sym e) (x, f)))

    greet_kept : (h : Hello) (o : Option Resume) → h.resume ≡ o → KeptHere (Server.greet v k l h o)
    greet_kept h None e = by_full (nat_le v.limits.sessions (length v.state.sessions)) 4406 (codes "sessions full " ++ decimal (length v.state.sessions)) (Server.admit v k l h (Server.decision_of v h v.access)) (λ i. admit_kept h (subst Known (sym e) tt))
    greet_kept h (Some z) e = by_key h z (session_of v.state.sessions z.actor) e refl

    pub hello_of_kept : (o : Option Hello) → KeptHere (Server.hello v k l o)
    hello_of_kept None = shuts 4400 (codes "bad frame " ++ Server.reason_text reason.Hello)
    hello_of_kept (Some h) = by_may (bytes_eq h.room v.room) 4400 (codes "bad frame " ++ Server.reason_text reason.Room) (Server.greet v k l h h.resume) (λ i. greet_kept h h.resume refl)

  -- a ping
  pong_mine : (j : ℕ) → (j ≡ k) ⊎ (j ≡ k → ⊥) → (d : ℕ) → (Invariant.conn w j).owner ≡ Some d → IsUndisturbed r d → SaidTo (get v.links j) (mine j ((k, Pong) ∷ []))
  pong_mine j (inl e) d o i = absurd (void d (sym owner_is ∙ subst (λ n. (Invariant.conn w n).owner ≡ Some d) e o) i)
  pong_mine j (inr e) d o i = rw (ne_eqb k j (λ f. e (sym f))) (record { said = tt; bare = λ f. refl })

  pong_inbounds : (j : ℕ) (x : List Inbound) → (j ≡ k) ⊎ (j ≡ k → ⊥) → inbounds_after x (mine j ((k, Pong) ∷ [])) ≡ x
  pong_inbounds j x (inl e) = rw (eq-eqb k j (sym e)) refl
  pong_inbounds j x (inr e) = rw (ne_eqb k j (λ f. e (sym f))) refl

  popped : Invariant.Inv s (record r { world = w })
  popped = pops s r k q us st (ap Invariant.conn_in there) (low s r v k q u us st there first runs) (λ d o i. absurd (void d o i))

  unchanged : (o : Option Link) → World.newly_given (World.actor_on o) (World.actor_on o) (World.owner_of (get w.conns k)) ≡ []
  unchanged None = refl
  unchanged (Some n) = same n.actor
    where
      same : (a : Option ℕ) → World.newly_given a a (World.owner_of (get w.conns k)) ≡ []
      same None = refl
      same (Some b) = refl

  pub pong_kept : KeptHere (Server.served v ((k, Pong) ∷ []))
  pong_kept = quietly s r v k q u us st there first runs (Server.served v ((k, Pong) ∷ [])) refl (unchanged (get v.links k))
      (λ f. keeps_say s (record r { world = w }) v f ((k, Pong) ∷ []) popped runs (λ j d o i. pong_mine j (cases_eq j k) d o i) (λ j x. pong_inbounds j x (cases_eq j k)))

  -- any frame
  pub messages_kept : v.access ≡ None → (ms : List ClientMsg) (o : Option ℕ) → l.actor ≡ o → Spells (Server.messages v k l ms o) → KeptHere (Server.messages v k l ms o)
  messages_kept access ms None e f = hello_of_kept e access (Server.only_hello ms)
  messages_kept access ms (Some a) e f = session_kept a e ms f

  pub stranger_kept : v.access ≡ None → (x : Inbound) → Spells (Server.frame_at v k l x) → KeptHere (Server.frame_at v k l x)
  stranger_kept access (Err e) f = shuts 4400 (codes "bad frame " ++ Server.reason_text e)
  stranger_kept access (Ok frame.Ping) f = pong_kept
  stranger_kept access (Ok (frame.Msgs ms)) f = messages_kept access ms l.actor refl f
