-- Each message that may wait is taken, and keeps what holds of the client.
use Rattle.std.proofs.Common.{◌≡◌, ℤ, ℕ, ◌+◌, ◌<◌, ◌≤◌, ◌⊎◌, inl, inr, max, Bool, true, false, cond, not, nat_lt, List, [], ◌∷◌, ◌++◌, length, map, refl, sym, ap, ◌∙◌, subst, arith, length-append, ⊎_elim}
use Rattle.std.specs.Prelude.{Option, Some, None, is_some, Result, Ok, Err}
use Rattle.std.proofs.lemmas.Bool.{eq-eqb}
use Rattle.std.proofs.lemmas.Bool.Decides.{nat_tests}
use Rattle.room_json.specs.Value.{Value}
use Rattle.room_json.specs.declared.tree.Json.{Json}
use Rattle.room_nodes.specs.declared.nodes.Op.{Op}
use Rattle.room_nodes.specs.Shape.{Nodes}
use Rattle.room_nodes.specs.Steps.{fold}
use Rattle.room_msg.specs.declared.messages.Resume.{Resume}
use Rattle.room_msg.specs.declared.messages.ServerMsg.{ServerMsg}
use Rattle.room_msg.specs.declared.messages.ServerMsg.TheVariants as server
use Rattle.room_log.specs.Log.{State, Session, Update, tree_after, last_after, last_of, bodies_of}
use Rattle.room_model.specs.Account.{Account, Batch, Part, Stage, Idle, Dialled, Connected, Synced, actor_in, ends, beyond, frame_of, frame_of_full_to, is_on, last_issued}
use Rattle.room_model.specs.Receive
use Rattle.room_model.specs.Server.{Outbound, Message, Link, Inbound}
use Rattle.room_model.specs.World.{inbound_frame}
use Rattle.room_model.specs.Run.{all_given}
use Rattle.room_laws.specs.Ledger.{upto}
use Rattle.room_laws.specs.Core.{Core, core, issued, actor}
use Rattle.room_laws.specs.Queues.{Place, IsOn, Says, SaysPart, Waits, InOrder}
use Rattle.room_laws.specs.Invariant
use Rattle.room_laws.proofs.Batches.{ends_upto, beyond-append, beyond_upto, Runs-front}
use Rattle.room_laws.proofs.Matches.{left}
use Rattle.room_laws.proofs.Advance.{advance, next_taken, tree_after-append}
use Rattle.room_laws.proofs.Ops.{bodies_again}
use Rattle.room_laws.proofs.Queues.{frames, unnamed}
use Rattle.room_laws.proofs.Owns.{welcome, loading, updating, own_parts, own_room, own_named, own_whole, own_update, told_is, rest_is, nothing_done}
use Rattle.room_laws.proofs.Cuts.{inbounds_idle}
use Rattle.room_laws.proofs.Keep.{inbounds_as}
use Rattle.room_laws.proofs.Sends.{Turned}
use Rattle.room_laws.proofs.Speaks.{Sendable, inbounds_send}
use Rattle.room_laws.proofs.Takes.{on_true, linked_next, linked_actor, turned_still, on_turned}

module _ (s : State) (us : List Update) (ss : List Session) (given : List (ℕ × Option ℕ)) (c k : ℕ) (x : Account) (all : List Batch) (ms : List Outbound) (l : Option Link) (inbounds : List Inbound) where
  abbrev X : Core
  X = core x

  abbrev last : ℕ
  last = last_of ss (actor X)

  abbrev HeldFor : Outbound → Type 0
  HeldFor m = Invariant.Client s us ss given c (Some k) X all (m ∷ ms) l

  abbrev InboundsNow : Type 0
  InboundsNow = Invariant.Inbounds (Some k ≡ Some k) x.session (Invariant.tried X) all last l inbounds

  -- what was taken
  pub record Taken (m : ServerMsg) : Type 0 where
    pub out : Receive.Received
    pub is : Receive.receive x m ≡ Ok out
    pub turned : Turned s us ss given c k X (core out.account) all ms l (cond (is_some l) (inbounds ++ map inbound_frame out.replies) inbounds)

  said_only : (us' : List Inbound) → ((reach : ℕ) → InOrder (actor X) (actor X) all reach us' reach) → Sendable (actor X) all last (Invariant.tried X) us' (Invariant.tried X)
  said_only us' f reach i j = record { end = reach; order = f reach; sent = j }

  once_on : (kind : ℕ) (out : Receive.Received) → IsOn x.stage → Receive.once_on x kind out ≡ Ok out
  once_on kind out on = rw (on_true x.stage on) refl

  pub takes_presence : (a : ℕ) (target : Option ℤ) (patch : List (List ℕ × Value)) → HeldFor (Message (server.Presence a target patch)) → InboundsNow → Taken (server.Presence a target patch)
  takes_presence a None patch h u =
      let says = (h.standing).waits.says in
      record {
        out = Receive.received (Receive.presence_taken x a None patch);
        is = once_on 100 _ says.on;
        turned = turned_still s us ss given c k x all _ ms l inbounds h u [] says.place (inl refl);
      }
  takes_presence a (Some target) patch h u =
      let says = (h.standing).waits.says in
      record {
        out = Receive.received (Receive.presence_taken x a (Some target) patch);
        is = once_on 100 _ says.on;
        turned = turned_still s us ss given c k x all _ ms l inbounds h u [] says.place (inl refl);
      }

  pub takes_joined : (a : ℕ) → HeldFor (Message (server.Joined a)) → InboundsNow → Taken (server.Joined a)
  takes_joined a h u =
      let says = (h.standing).waits.says in
      record {
        out = Receive.replying (Receive.forgets x a) (frame_of_full_to a x.me ∷ []);
        is = once_on 101 _ says.on;
        turned = turned_still s us ss given c k x all _ ms l inbounds h u (map inbound_frame (frame_of_full_to a x.me ∷ [])) says.place (inr (says.on, said_only _ (λ reach. refl)));
      }

  pub takes_left : (a : ℕ) → HeldFor (Message (server.Left a)) → InboundsNow → Taken (server.Left a)
  takes_left a h u =
      let says = (h.standing).waits.says in
      record {
        out = Receive.received (Receive.forgets x a);
        is = once_on 102 _ says.on;
        turned = turned_still s us ss given c k x all _ ms l inbounds h u [] says.place (inl refl);
      }

  pub takes_event : (a : ℕ) (e : Json) → HeldFor (Message (server.Broadcast a e)) → InboundsNow → Taken (server.Broadcast a e)
  takes_event a e h u =
      let says = (h.standing).waits.says in
      record {
        out = record (Receive.received x) { events = (a, e) ∷ [] };
        is = once_on 103 _ says.on;
        turned = turned_still s us ss given c k x all _ ms l inbounds h u [] says.place (inl refl);
      }

  -- a room state

  room_at : (a key : ℕ) (g : Stage) (out : Receive.Received) → g ≡ Dialled → Receive.welcomed_as x a key x.session ≡ Ok out → Receive.receive_room x a key g ≡ Ok out
  room_at a key Idle out e f = absurd (idle_dialled e)
    where
      idle_dialled : Idle ≡ Dialled → ⊥
      idle_dialled i = cc
  room_at a key Dialled out e f = f
  room_at a key Connected out e f = absurd (connected_dialled e)
    where
      connected_dialled : Connected ≡ Dialled → ⊥
      connected_dialled i = cc
  room_at a key Synced out e f = absurd (synced_dialled e)
    where
      synced_dialled : Synced ≡ Dialled → ⊥
      synced_dialled i = cc

  welcomed_at : (a key : ℕ) (o : Option Resume) → (o ≡ None) ⊎ (o ≡ Some (record { actor = a; key = key })) → Receive.welcomed_as x a key o ≡ Ok (Receive.welcomed x a key)
  welcomed_at a key o (inl e) = rw e refl
  welcomed_at a key o (inr e) = rw e (rw (eq-eqb a a refl) refl)

  pub takes_room : (a key : ℕ) (list : List (ℕ × List ℕ)) → all_given c a given ≡ true → HeldFor (Message (server.RoomState a key list)) → InboundsNow → Taken (server.RoomState a key list)
  takes_room a key list undisturbed h u = ⊎_elim known_one new_one (h.standing).named
    where
      says : Says s (h.standing).who (Invariant.place X h.done h.coming) (Message (server.RoomState a key list)) (h.standing).waits.next
      says = (h.standing).waits.says

      w : Resume
      w = record { actor = a; key = key }

      out : Receive.Received
      out = Receive.welcomed x a key

      y : Core
      y = core (Receive.welcomed x a key).account

      fs : List Inbound
      fs = map inbound_frame (Receive.welcomed x a key).replies

      order : (reach : ℕ) → InOrder a a all reach (map inbound_frame (Receive.welcomed x a key).replies) reach
      order reach = refl

      told_le : x.told ≤ last
      told_le = (rest_is s us last X all h.done h.coming h.own).above

      present_at : (done coming : List Update) → done ≡ h.done → coming ≡ h.coming
          → Invariant.Present s us ss given c (Some (record { actor = a; key = key })) (record { stage = Connected; parts = x.parts; done = done; coming = coming }) ms l
      present_at done coming e f = record {
        who = (h.standing).who;
        named = inl (sym (says).mine);
        known = λ i. (sym (says).mine, ap is_some (says).mine);
        begun = (h.standing).begun;
        end = (h.standing).end;
        waits = rw (e, f) (subst (λ (p : Place). Waits s (h.standing).who p ms (h.standing).end) (says).place (h.standing).waits.more);
        linked = linked_next (h.standing).who x.stage Connected (Message (server.RoomState a key list)) ms (h.standing).end l (h.standing).linked;
      }

      known_one : x.session ≡ (h.standing).who → Taken (server.RoomState a key list)
      known_one e =
          let same : x.session ≡ Some (record { actor = a; key = key }) = e ∙ (says).mine in
          let name : actor X ≡ a = ap actor_in same in
          record {
            out = Receive.welcomed x a key;
            is = room_at a key x.stage (Receive.welcomed x a key) (says).before (welcomed_at a key x.session (inr same));
            turned = record {
              client = record {
                done = h.done;
                coming = h.coming;
                own = subst (λ i. Invariant.Own s us (last_of ss i) (welcome (record { actor = a; key = key }) X) all h.done h.coming) name (own_room s us last X all h.done h.coming (record { actor = a; key = key }) name h.own);
                stands = subst (λ (o : Option Resume). Invariant.StandsIn s ss o) same h.stands;
                standing = present_at h.done h.coming refl refl;
              };
              own = inbounds_send (Some k ≡ Some k) (Some (record { actor = a; key = key })) (Invariant.tried X) x.told all (last_of ss a) l inbounds (map inbound_frame (Receive.welcomed x a key).replies) refl
                  (λ n i. linked_actor (h.standing).who x.stage (Message (server.RoomState a key list)) ms (h.standing).end n (subst (λ (o : Option Link). Invariant.Linked (h.standing).who x.stage (Message (server.RoomState a key list) ∷ ms) (h.standing).end o) i (h.standing).linked)
                  ∙ ap (λ (o : Option Resume). Some (actor_in o)) (says).mine)
                  (λ reach i j. record { end = reach; order = refl; sent = omega (arith, told_le, ap (last_of ss) name) })
                  (subst (λ (o : Option Resume). Invariant.Inbounds (Some k ≡ Some k) o (Invariant.tried X) all (last_of ss (actor_in o)) l inbounds) same u);
              others = λ o r v. subst (λ (q : Option Resume). Invariant.Inbounds ⊥ q x.told all (last_of ss (actor_in q)) o r) same (inbounds_idle ⊥ x.session (Invariant.tried X) x.told all last o r (λ i. i) v);
            };
          }

      new_one : record { unknown : x.session ≡ None; new : all_given c (actor_in (h.standing).who) given ≡ true → Invariant.NewIn s us ss (h.standing).who } → Taken (server.RoomState a key list)
      new_one n = go new
        where
          new : Invariant.New s us ss (record { actor = a; key = key })
          new = subst (λ (o : Option Resume). Invariant.NewIn s us ss o) (says).mine (n.new (subst (λ (o : Option Resume). all_given c (actor_in o) given ≡ true) (sym (says).mine) undisturbed))

          nothing : (h.done ≡ []) × (x.n ≡ 0) × (x.confirmed ≡ None)
          nothing = nothing_done s h.done x.stage x.n x.confirmed (subst (λ (o : Option Resume). Invariant.Shows s h.done x.stage x.n o x.confirmed) n.unknown h.own.shows)

          whole : us ≡ h.coming
          whole = h.own.whole ∙ ap (λ vs. vs ++ h.coming) nothing.0

          none : last ≡ 0
          none = ap (λ (o : Option Resume). last_of ss (actor_in o)) n.unknown

          none_told : x.told ≡ 0
          none_told = let i : x.told ≤ last = told_le in omega (arith, none)

          rename : (now : Type 0) (o : Option Link) (q : List Inbound) (t : ℕ) → (now → ⊥) → Invariant.Inbounds ⊥ x.session (Invariant.tried X) all last o q → Invariant.Inbounds now (Some (record { actor = a; key = key })) t all (last_of ss a) o q
          rename now None q t f v = v
          rename now (Some m) q t f v = at m.actor v
            where
              at : (b : Option ℕ) → Invariant.InboundAt ⊥ x.session (Invariant.tried X) all last b q → Invariant.InboundAt now (Some (record { actor = a; key = key })) t all (last_of ss a) b q
              at None v = record { resume = v.resume; is = v.is; old = inl (⊎_elim (λ i. i) (λ i. i ∙ n.unknown) v.old); current = λ i. absurd (f i) }
              at (Some b) v = record {
                some = v.some;
                reach = v.reach;
                order = rw (new.unused, ← none) (unnamed b (actor X) a all all last q v.reach (λ i. absurd (zero_not b v.some (i ∙ ap actor_in n.unknown))) v.order);
                sent = λ i. absurd (f i);
              }
                where
                  zero_not : (b : ℕ) → 0 < b → b ≡ 0 → ⊥
                  zero_not b p e = absurd (omega arith)

          renamed : Invariant.Inbounds (Some k ≡ Some k) (Some (record { actor = a; key = key })) 0 all (last_of ss a) l inbounds
          renamed = at_link l (rename ⊥ l inbounds 0 (λ i. i) (inbounds_as (Some k ≡ Some k) ⊥ x.session x.session (Invariant.tried X) (Invariant.tried X) all all last last l l inbounds inbounds (λ i. absurd i) refl refl refl refl refl refl u))
              (λ m i. linked_actor (h.standing).who x.stage (Message (server.RoomState a key list)) ms (h.standing).end m (subst (λ (o : Option Link). Invariant.Linked (h.standing).who x.stage (Message (server.RoomState a key list) ∷ ms) (h.standing).end o) i (h.standing).linked))
            where
              none_some : (b : ℕ) → None ≡ Some b → ⊥
              none_some b e = cc

              at_actor : (b : Option ℕ) (d : ℕ) → b ≡ Some d → Invariant.InboundAt ⊥ (Some (record { actor = a; key = key })) 0 all (last_of ss a) b inbounds → Invariant.InboundAt (Some k ≡ Some k) (Some (record { actor = a; key = key })) 0 all (last_of ss a) b inbounds
              at_actor None d e v = absurd (none_some d e)
              at_actor (Some b) d e v = record { some = v.some; reach = v.reach; order = v.order; sent = λ i. omega arith }

              at_link : (o : Option Link) → Invariant.Inbounds ⊥ (Some (record { actor = a; key = key })) 0 all (last_of ss a) o inbounds → ((m : Link) → o ≡ Some m → m.actor ≡ Some (actor_in (h.standing).who))
                  → Invariant.Inbounds (Some k ≡ Some k) (Some (record { actor = a; key = key })) 0 all (last_of ss a) o inbounds
              at_link None v f = v
              at_link (Some m) v f = at_actor m.actor (actor_in (h.standing).who) (f m refl) v

          go : Invariant.New s us ss (record { actor = a; key = key }) → Taken (server.RoomState a key list)
          go session = record {
            out = Receive.welcomed x a key;
            is = room_at a key x.stage (Receive.welcomed x a key) (says).before (welcomed_at a key x.session (inl n.unknown));
            turned = record {
              client = record {
                done = [];
                coming = us;
                own = rw session.unused (own_named s us last X all h.done h.coming (record { actor = a; key = key }) n.unknown session.silent h.own);
                stands = session.stands;
                standing = present_at [] us (sym nothing.0) whole;
              };
              own = inbounds_send (Some k ≡ Some k) (Some (record { actor = a; key = key })) 0 x.told all (last_of ss a) l inbounds (map inbound_frame (Receive.welcomed x a key).replies) refl
                  (λ m i. linked_actor (h.standing).who x.stage (Message (server.RoomState a key list)) ms (h.standing).end m (subst (λ (o : Option Link). Invariant.Linked (h.standing).who x.stage (Message (server.RoomState a key list) ∷ ms) (h.standing).end o) i (h.standing).linked)
                  ∙ ap (λ (o : Option Resume). Some (actor_in o)) (says).mine)
                  (λ reach i j. record { end = reach; order = refl; sent = omega (arith, none_told) })
                  renamed;
              others = λ o r v. rename ⊥ o r x.told (λ i. i) v;
            };
          }

  -- a state

  on_at : (b : Bool) (f : Receive.FrameFault) (res : Result Receive.Received Receive.FrameFault) → b ≡ true → cond (not b) (Err f) res ≡ res
  on_at b f res e = rw e refl

  fault_at : (a b d : Bool) (f g h : ℕ × ℕ) → a ≡ false → b ≡ false → d ≡ false → cond a (Some f) (cond b (Some g) (cond d (Some h) None)) ≡ None
  fault_at a b d f g h i j k = rw (i, j, k) refl

  n_le : (done mid : List Update) (g : Stage) (o : Option Nodes) (seq : ℕ) → seq ≡ s.count + length (done ++ mid) → Invariant.Shows s done g x.n x.session o → x.n ≤ seq
  n_le done mid g None seq e h = omega (arith, h.nothing)
  n_le done mid g (Some t) seq e h = omega (arith, h.number, length-append done mid)

  pub takes_part : (seq last' : ℕ) (items : List Value) → HeldFor (Message (server.State seq last' items true)) → InboundsNow → Taken (server.State seq last' items true)
  takes_part seq last' items h u =
      let says = (h.standing).waits.says in
      let ps = x.parts ++ record { seq = seq; last = last'; items = items } ∷ [] in
      record {
        out = Receive.keeps_part x seq last' items;
        is = on_at (is_on x.stage) (Receive.Unexpected 200) _ (on_true x.stage says.on) ∙ ap (Receive.receive_part x seq last' items true) says.fits;
        turned = on_turned s us ss given c k x all _ ms l inbounds h u (record X { parts = ps }) h.done h.coming [] says.on refl says.says
            (own_parts s us last X all h.done h.coming ps h.own) (said_only [] (λ reach. refl));
      }

  pub takes_state : (seq last' : ℕ) (items : List Value) → HeldFor (Message (server.State seq last' items false)) → InboundsNow → Taken (server.State seq last' items false)
  takes_state seq last' items h u =
      let says = (h.standing).waits.says in
      let p : SaysPart s (h.standing).who (Invariant.place X h.done h.coming) seq last' items false (h.standing).waits.next = says.says in
      let known = (h.standing).known says.on in
      let name : actor X ≡ actor_in (h.standing).who = ap actor_in known.0 in
      let v = advance s last (actor X) h.done p.mid p.rest all (issued X) x.told (rw (← p.coming) h.own.ledger) in
      let clock : last' ≡ v.clock = p.told ∙ ap (λ i. last_after i 0 (h.done ++ p.mid)) (sym name) ∙ v.is in
      let lf = told_is s us last X all h.done h.coming h.own in
      let e1 : ends x.told (issued X) ≡ upto x.told (issued X) = ends_upto x.told (issued X) lf.chain in
      let n : x.n ≤ seq = n_le h.done p.mid x.stage x.confirmed seq p.count h.own.shows in
      let fits : Receive.state_fault x seq last' ≡ None = fault_at (nat_lt seq x.n) (nat_lt last' x.told) (nat_lt (last_issued x) last') (x.n, seq) (x.told, last') (last_issued x, last')
      (grind (arith, nat_tests)) (let i : x.told ≤ last' = omega (arith, v.above) in grind (arith, nat_tests)) (let i : last' ≤ ends x.told (issued X) = omega (arith, v.within) in grind (arith, nat_tests)) in
      let new = left (actor X) s.tree 0 (h.done ++ p.mid) all (beyond v.clock (issued X)) v.clock h.own.ledger.chain v.ledger.received in
      let t = tree_after s.tree (h.done ++ p.mid) in
      let own = own_whole s us last X all h.done h.coming p.mid p.rest seq t h.own p.coming v refl p.count (ap is_some known.0 ∙ known.1) in
      record {
        out = Receive.loaded x seq last' t;
        is = on_at (is_on x.stage) (Receive.Unexpected 200) _ (on_true x.stage says.on) ∙ ap (Receive.receive_part x seq last' items false) says.fits ∙ ap (Receive.load x seq last') p.tree
            ∙ ap (Receive.load_at x seq last' t) fits;
        turned = on_turned s us ss given c k x all _ ms l inbounds h u (loading seq last' t X) (h.done ++ p.mid) p.rest (map inbound_frame (map (frame_of (actor X)) (beyond last' (issued X)))) says.on refl p.place
            (rw clock own)
            (λ reach i j. rw clock (record {
              end = max reach (upto v.clock (beyond v.clock (issued X)));
              order = subst (λ (bs : List Batch). InOrder (actor X) (actor X) bs reach (map inbound_frame (map (frame_of (actor X)) (beyond v.clock (issued X)))) (max reach (upto v.clock (beyond v.clock (issued X))))) (sym new.parts)
                  (frames (actor X) new.front (beyond v.clock (issued X)) v.clock reach new.chain (omega (arith, v.below, i)));
              sent = omega arith;
            }));
      }

  -- an update

  update_at : (seq : ℕ) (os : List Op) (t : Nodes) (clock : ℕ) (g : Stage) (ps : List Part) → g ≡ Synced → x.parts ≡ ps → ps ≡ [] → x.confirmed ≡ Some t → seq ≡ x.n + 1 → Receive.told_by (actor X) (last_issued x) x.told os ≡ Ok clock
      → Receive.receive_update x seq os g ≡ Ok (record (Receive.received (Receive.updated_account x os clock t)) { notices = Receive.update_notices x os clock t })
  update_at seq os t clock Idle ps e i j o n k = absurd (no e)
    where
      no : Idle ≡ Synced → ⊥
      no d = cc
  update_at seq os t clock Dialled ps e i j o n k = absurd (no e)
    where
      no : Dialled ≡ Synced → ⊥
      no d = cc
  update_at seq os t clock Connected ps e i j o n k = absurd (no e)
    where
      no : Connected ≡ Synced → ⊥
      no d = cc
  update_at seq os t clock Synced ps e i j o n k = rw (i, j) (rw (eq-eqb seq (x.n + 1) n) (rw o (rw k refl)))

  takes_update_at : (seq : ℕ) (os : List Op) (o : Option Nodes) → x.confirmed ≡ o → HeldFor (Message (server.Update seq os)) → InboundsNow → Taken (server.Update seq os)
  takes_update_at seq os None o h u =
      let shown : Invariant.Shows s h.done x.stage x.n x.session None = rw o at h.own.shows in
      absurd (shown.unsynced (((h.standing).waits.says).before))
  takes_update_at seq os (Some t) o h u =
      let says = (h.standing).waits.says in
      let on : IsOn x.stage = subst IsOn (sym says.before) tt in
      let known = (h.standing).known on in
      let shown : Invariant.Shows s h.done x.stage x.n x.session (Some t) = rw o at h.own.shows in
      let v = advance s last (actor X) h.done (says.update ∷ []) says.rest all (issued X) x.told (rw (← says.coming) h.own.ledger) in
      let lf = told_is s us last X all h.done h.coming h.own in
      let e1 : ends x.told (issued X) ≡ upto x.told (issued X) = ends_upto x.told (issued X) lf.chain in
      let next : Receive.told_by (actor X) (ends x.told (issued X)) x.told os ≡ Ok v.clock =
      rw (e1, says.ops) (next_taken s (actor X) last x.told (upto x.told (issued X)) (tree_after s.tree h.done) (issued X) (beyond v.clock (issued X)) says.update v.clock lf.chain v.within v.front) in
      let grown : length (h.done ++ says.update ∷ []) ≡ length h.done + 1 = length-append h.done (says.update ∷ []) in
      let tree : fold t (bodies_of os) ≡ tree_after s.tree (h.done ++ says.update ∷ []) =
      rw (says.ops, bodies_again says.update.actor says.update.first says.update.bodies, shown.tree) (sym (tree_after-append s.tree h.done (says.update ∷ []))) in
      let split = beyond-append v.clock x.sent x.fresh in
      let low : upto v.clock (beyond v.clock x.sent) ≤ max v.clock (upto x.told x.sent) = beyond_upto x.told v.clock x.sent (Runs-front x.told x.sent x.fresh lf.chain) v.above in
      record {
        out = record (Receive.received (Receive.updated_account x os v.clock t)) { notices = Receive.update_notices x os v.clock t };
        is = update_at seq os t v.clock x.stage x.parts says.before refl says.whole o (says.count ∙ ap (λ i. i + 1) (sym shown.number)) next;
        turned = on_turned s us ss given c k x all _ ms l inbounds h u (updating (bodies_of os) v.clock t X) (h.done ++ says.update ∷ []) says.rest [] on refl
            (says.place ∙ rw (says.before, says.whole) refl)
            (own_update s us last X all h.done h.coming (says.update ∷ []) says.rest (bodies_of os) t h.own says.coming v tree (omega (arith, shown.number, grown)) (ap is_some known.0 ∙ known.1) says.before split)
            (λ reach i j. record { end = reach; order = refl; sent = omega (arith, low, v.below, i, j) });
      }

  pub takes : (m : ServerMsg) → ((out : Receive.Received) → Receive.receive x m ≡ Ok out → all_given c (actor (core out.account)) given ≡ true) → HeldFor (Message m) → InboundsNow → Taken m
  takes (server.Presence a target patch) f h u = takes_presence a target patch h u
  takes (server.Joined a) f h u = takes_joined a h u
  takes (server.Left a) f h u = takes_left a h u
  takes (server.Broadcast a e) f h u = takes_event a e h u
  takes (server.State seq last' items true) f h u = takes_part seq last' items h u
  takes (server.State seq last' items false) f h u = takes_state seq last' items h u
  takes (server.Update seq os) f h u = takes_update_at seq os x.confirmed refl h u
  takes (server.RoomState a key list) f h u =
      let says = (h.standing).waits.says in
      takes_room a key list (f (Receive.welcomed x a key) (room_at a key x.stage (Receive.welcomed x a key) says.before (welcomed_at a key x.session (named says.mine (h.standing).named)))) h u
    where
      named : (h.standing).who ≡ Some (record { actor = a; key = key })
          → (x.session ≡ (h.standing).who) ⊎ record { unknown : x.session ≡ None; new : all_given c (actor_in (h.standing).who) given ≡ true → Invariant.NewIn s us ss (h.standing).who }
          → (x.session ≡ None) ⊎ (x.session ≡ Some (record { actor = a; key = key }))
      named e (inl i) = inr (i ∙ e)
      named e (inr n) = inl n.unknown
