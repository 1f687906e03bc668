-- Frames of a session that take nothing into the log, and the hello of an undisturbed client.
use Rattle.std.proofs.Common.{◌≡◌, ℕ, ◌<◌, Bool, true, false, cond, ◌==◌, nat_le, List, [], ◌∷◌, ◌++◌, length, refl, sym, ap, ◌∙◌, subst, arith, append-nil, ⊎_elim}
use Rattle.std.specs.Prelude.{Option, Some, None, Ok, Err, codes, decimal}
use Rattle.std.proofs.lemmas.Bool.Decides.{nat_tests}
use Rattle.std.specs.FinMap.{get}
use Rattle.room_msg.specs.declared.messages.Resume.{Resume}
use Rattle.room_msg.specs.declared.messages.ClientMsg.{ClientMsg}
use Rattle.room_msg.specs.declared.messages.ClientMsg.TheVariants as client
use Rattle.room_msg.specs.declared.messages.ClientFrame.TheVariants as frame
use Rattle.room_log.specs.Log.{State, Update, last_of}
use Rattle.room_model.specs.Account as Batch
use Rattle.room_model.specs.Server
use Rattle.room_model.specs.Server.{Link, Inbound, Served}
use Rattle.room_model.specs.World
use Rattle.room_model.specs.World.{Conn, Host, Running, Fuse, state_in, links_of, room_name, slot}
use Rattle.room_model.specs.Run.{Run, IsUndisturbed}
use Rattle.room_laws.specs.Core.{actor}
use Rattle.room_laws.specs.Queues.{InOrder}
use Rattle.room_laws.specs.Invariant
use Rattle.room_laws.proofs.Stops.{keeps_settings}
use Rattle.room_laws.proofs.Acts.{pops}
use Rattle.room_laws.proofs.Popped.{IsTalk}
use Rattle.room_laws.proofs.Frames.{joins, resumes}
use Rattle.room_laws.proofs.Talks.{Reached, talk_all, or_none}
use Rattle.room_laws.proofs.Answering.{Kept, stops, low, keeps_shut}
use Rattle.room_laws.proofs.Outcomes.{joins_kept, resumes_kept}
use Rattle.room_laws.proofs.Acting.{act_from}

pub act_entry : (v : Server.Server) (k a : ℕ) (m : ClientMsg) → (Server.acts v k a None m).entry ≡ None
act_entry v k a (client.Hello h) = refl
act_entry v k a (client.Presence target patch) = refl
act_entry v k a (client.Broadcast e) = refl
act_entry v k a client.Fetch = refl
act_entry v k a (client.Update os) = refl

pub waits_none : (m : ClientMsg) → Server.waits_after None m ≡ None
waits_none (client.Hello x) = refl
waits_none (client.Presence target patch) = refl
waits_none (client.Broadcast e) = refl
waits_none client.Fetch = refl
waits_none (client.Update os) = refl

pub entry_none : (k a : ℕ) (ms : List ClientMsg) (sv : Served) → sv.entry ≡ None → (act_from sv k a None ms).entry ≡ None
entry_none k a [] sv e = e
entry_none k a (m ∷ ms) sv e = subst (λ (x : Option Update). (act_from (Server.then_served sv (Server.acts sv.server k a None m)) k a x ms).entry ≡ None) (sym (waits_none m)) (entry_none k a ms (Server.then_served sv (Server.acts sv.server k a None m)) (ap (Server.or_entry sv.entry) (act_entry sv.server k a m) ∙ or_none sv.entry ∙ e))

-- the session that a hello asks for
resume_of : Inbound → Option Resume
resume_of (Err r) = None
resume_of (Ok frame.Ping) = None
resume_of (Ok (frame.Msgs [])) = None
resume_of (Ok (frame.Msgs (client.Hello h ∷ ms))) = h.resume
resume_of (Ok (frame.Msgs (client.Presence target patch ∷ ms))) = None
resume_of (Ok (frame.Msgs (client.Broadcast e ∷ ms))) = None
resume_of (Ok (frame.Msgs (client.Fetch ∷ ms))) = None
resume_of (Ok (frame.Msgs (client.Update os ∷ ms))) = None

hello_same : (x y : Option Resume) → Invariant.hello_frame x ≡ Invariant.hello_frame y → x ≡ y
unfolding resume_of
hello_same x y d = ap resume_of d

no_zero : (n : ℕ) → 0 < n → (n == 0) ≡ false
no_zero n h = grind (arith, nat_tests)

pub tail_talk : (b a : ℕ) (all : List Batch.Batch) (c : ℕ) (m : ClientMsg) (q : List Inbound) (e : ℕ) → IsTalk m → InOrder b a all c (Ok (frame.Msgs (m ∷ [])) ∷ q) e → InOrder b a all c q e
tail_talk b a all c (client.Hello x) q e i h = absurd i
tail_talk b a all c (client.Update os) q e i h = absurd i
tail_talk b a all c (client.Presence target patch) q e i h = h
tail_talk b a all c (client.Broadcast x) q e i h = h
tail_talk b a all c client.Fetch q e i h = h

module _ (s : State) (r : Run) (v : Server.Server) (k : ℕ) (q : Conn) (u : Inbound) (us : List Inbound) (st : Invariant.Inv s r) (there : get r.world.conns k ≡ Some q) (first : q.inbound ≡ u ∷ us) (runs : r.world.host ≡ Running v)
    (l : Link) (attached : get v.links k ≡ Some l) where
  abbrev w : World.World
  w = World.with_conn r.world k (record q { inbound = us })

  abbrev KeptHere : Served → Type 0
  KeptHere out = Kept s r v k q u us st there first runs out

  link_here : Invariant.link r.world k ≡ Some l
  link_here = ap (λ (g : Host). get (links_of g) k) runs ∙ attached

  -- what waits up, of an undisturbed client
  abbrev InboundsOf : ℕ → Option ℕ → List Inbound → Type 0
  InboundsOf d a q = Invariant.InboundAt ((slot r.world d).present ≡ Some k) (Invariant.core_of r.world d).session (Invariant.tried (Invariant.core_of r.world d)) (Invariant.issued_by r d) (last_of (Invariant.sessions r) (actor (Invariant.core_of r.world d))) a q

  pub inbounds_of : (d : ℕ) (a : Option ℕ) → l.actor ≡ a → (Invariant.conn r.world k).owner ≡ Some d → IsUndisturbed r d → InboundsOf d a (u ∷ us)
  inbounds_of d a e o i =
      let at : Invariant.Inbounds ((slot r.world d).present ≡ Some k) (Invariant.core_of r.world d).session (Invariant.tried (Invariant.core_of r.world d)) (Invariant.issued_by r d) (last_of (Invariant.sessions r) (actor (Invariant.core_of r.world d))) (Some l) (u ∷ us) =
      subst (λ (x : List Inbound). Invariant.Inbounds ((slot r.world d).present ≡ Some k) (Invariant.core_of r.world d).session (Invariant.tried (Invariant.core_of r.world d)) (Invariant.issued_by r d) (last_of (Invariant.sessions r) (actor (Invariant.core_of r.world d))) (Some l) x)
      (ap (λ (p : Conn). p.inbound) (ap Invariant.conn_in there) ∙ first)
      (subst (λ (x : Option Link). Invariant.Inbounds ((slot r.world d).present ≡ Some k) (Invariant.core_of r.world d).session (Invariant.tried (Invariant.core_of r.world d)) (Invariant.issued_by r d) (last_of (Invariant.sessions r) (actor (Invariant.core_of r.world d))) x (Invariant.conn r.world k).inbound) link_here (st.inbounds d k o i)) in
      subst (λ (x : Option ℕ). InboundsOf d x (u ∷ us)) e at

  -- the frame is taken, and nothing was done yet
  pub begins : (a : ℕ) → l.actor ≡ Some a → ((d : ℕ) → (Invariant.conn r.world k).owner ≡ Some d → IsUndisturbed r d → InboundsOf d (Some a) us) → Reached s r w k a (Server.nothing v)
  begins a e f = record {
    link = l;
    attached = attached;
    named = e;
    stands = λ g. rw (append-nil r.log) (keeps_settings s (record r { world = w }) (record w { host = Running v; fuse = g; conns = w.conns }) (record {
      clients = refl;
      conns = refl;
      opened = refl;
      state = ap state_in (sym runs);
      links = λ j. ap (λ (h : Host). get (links_of h) j) (sym runs);
      hosts = λ h. subst Invariant.Hosts runs h;
    }) popped);
  }
    where
      popped : Invariant.Inv s (record r { world = w })
      popped = pops s r k q us st (ap Invariant.conn_in there) (low s r v k q u us st there first runs) (λ d o i. rw link_here (rw e (f d o i)))

  -- and what was done then is kept
  pub sent_kept : (a : ℕ) (sv : Served) → l.actor ≡ Some a → Reached s r w k a sv → Invariant.Inv s (record r { world = World.stopped w (World.state_with v.state sv.entry); log = r.log ++ World.entries_in sv.entry }) → KeptHere sv
  sent_kept a sv e h n = record {
    intact = λ f. rw (ap (λ x. World.newly_given (World.actor_on x) (World.actor_on (get sv.server.links k)) (World.owner_of (get w.conns k))) attached ∙ ap (λ x. World.newly_given x (World.actor_on (get sv.server.links k)) (World.owner_of (get w.conns k))) e)
        (rw (append-nil r.issued, append-nil r.given) (h.stands f));
    stopped = n;
  }

  pub reached_kept : (a : ℕ) (sv : Served) → l.actor ≡ Some a → sv.entry ≡ None → Reached s r w k a sv → KeptHere sv
  reached_kept a sv e n h = sent_kept a sv e h (rw n (rw (append-nil r.log) (stops s r v k q u us st there first runs v.state refl)))

  -- a frame that holds no operations that are new
  pub talk_kept : (a : ℕ) (ms : List ClientMsg) → l.actor ≡ Some a → ((d : ℕ) → (Invariant.conn r.world k).owner ≡ Some d → IsUndisturbed r d → InboundsOf d (Some a) us) → KeptHere (act_from (Server.nothing v) k a None ms)
  talk_kept a ms e f = reached_kept a (act_from (Server.nothing v) k a None ms) e (entry_none k a ms (Server.nothing v) refl) (talk_all s r w k a ms (Server.nothing v) (begins a e f))

  some_is : {A : Type 0} (x y : A) → Some x ≡ Some y → x ≡ y
  some_is x y e = cc

  none_some : {A : Type 0} (x : A) → None ≡ Some x → ⊥
  none_some x e = cc

  head_is : (x : Inbound) (y : List Inbound) → u ∷ us ≡ x ∷ y → (u ≡ x) × (us ≡ y)
  head_is x y e = (cc, cc)

  hosts : Invariant.Hosts (Running v)
  hosts = subst Invariant.Hosts runs st.shape.hosts

  by_full : (b : Bool) (code : ℕ) (text : List ℕ) (out : Served) → KeptHere out → KeptHere (cond b (Server.shut v k l code text) out)
  by_full true code text out h = keeps_shut s r v k q u us st there first runs l code text attached
  by_full false code text out h = h

  -- the hello of an undisturbed client c
  pub hello_kept : (c : ℕ) → (Invariant.conn r.world k).owner ≡ Some c → IsUndisturbed r c → l.actor ≡ None → KeptHere (Server.serve v k u)
  hello_kept c o i e = by_resume ((inbounds_of c None e o i).resume) refl
    where
      not_twice : (d : ℕ) → (Invariant.conn r.world k).owner ≡ Some d → d ≡ c
      not_twice d p = some_is d c (sym p ∙ o)

      by_resume : (x : Option Resume) → (inbounds_of c None e o i).resume ≡ x → KeptHere (Server.serve v k u)
      by_resume None f =
          let h = inbounds_of c None e o i in
          let is : u ≡ Invariant.hello_frame None = (head_is (Invariant.hello_frame h.resume) [] h.is).0 ∙ ap Invariant.hello_frame f in
          let answer = ap (Server.serve v k) is ∙ joins v k l attached e (room_is hosts) (access_is hosts) in
          subst KeptHere (sym answer) (by_full (nat_le v.limits.sessions (length v.state.sessions)) 4406 (codes "sessions full " ++ decimal (length v.state.sessions)) (Server.join v k l (record { room = room_name; resume = None; name = None; «pass» = None }) None)
          (joins_kept s r v k q u us st there first runs l (record { room = room_name; resume = None; name = None; «pass» = None }) attached e
          (λ d p j.
          let g = inbounds_of d None e p j in
          ((head_is (Invariant.hello_frame g.resume) [] g.is).1, λ n. sym (g.current n) ∙ same_resume d p j ∙ f))))
        where
          room_is : Invariant.Hosts (Running v) → v.room ≡ room_name
          room_is h = h.room

          access_is : Invariant.Hosts (Running v) → v.access ≡ None
          access_is h = h.access

          same_resume : (d : ℕ) (p : (Invariant.conn r.world k).owner ≡ Some d) (j : IsUndisturbed r d) → (inbounds_of d None e p j).resume ≡ (inbounds_of c None e o i).resume
          same_resume d p j =
              let a = (head_is (Invariant.hello_frame (inbounds_of d None e p j).resume) [] (inbounds_of d None e p j).is).0 in
              let b = (head_is (Invariant.hello_frame (inbounds_of c None e o i).resume) [] (inbounds_of c None e o i).is).0 in
              hello_same (inbounds_of d None e p j).resume (inbounds_of c None e o i).resume (sym a ∙ b)
      by_resume (Some z) f =
          let h = inbounds_of c None e o i in
          let is : u ≡ Invariant.hello_frame (Some z) = (head_is (Invariant.hello_frame h.resume) [] h.is).0 ∙ ap Invariant.hello_frame f in
          let session : (Invariant.core_of r.world c).session ≡ Some z = ⊎_elim (λ n. absurd (none_some z (sym n ∙ f))) (λ n. sym n ∙ f) h.old in
          let stands = subst (λ (y : State). Invariant.Stands s y.sessions z) (ap state_in runs) (subst (λ (y : Option Resume). Invariant.StandsIn s (Invariant.sessions r) y) session (st.client c i).stands) in
          let answer = ap (Server.serve v k) is ∙ resumes v k l z stands.session attached e (room_is hosts) (access_is hosts) stands.is stands.key (no_zero z.key stands.some) in
          subst KeptHere (sym answer) (resumes_kept s r v k q u us st there first runs l z stands.session attached e stands.is
          (λ d p j.
          let g = inbounds_of d None e p j in
          ((head_is (Invariant.hello_frame g.resume) [] g.is).1, λ n. subst (λ b. (Invariant.core_of r.world b).session ≡ Some z) (sym (not_twice d p)) session)))
        where
          room_is : Invariant.Hosts (Running v) → v.room ≡ room_name
          room_is h = h.room

          access_is : Invariant.Hosts (Running v) → v.access ≡ None
          access_is h = h.access
