-- What comes down a connection is taken.
use Rattle.std.proofs.Common.{◌≡◌, ℕ, ◌<◌, ◌⊎◌, inl, Bool, true, false, cond, List, [], ◌∷◌, ◌++◌, map, refl, sym, ap, ◌∙◌, subst, append-nil, ⊎_elim}
use Rattle.std.specs.Prelude.{Option, Some, None, is_some, Result, Ok, Err, codes}
use Rattle.room_msg.specs.Written.{server_text}
use Rattle.std.proofs.lemmas.Bool.{cases_eq}
use Rattle.std.specs.FinMap.{FinMap, get, insert}
use Rattle.std.specs.Ordering.{nat_cmp}
use Rattle.room_msg.specs.declared.messages.Resume.{Resume}
use Rattle.room_msg.specs.declared.messages.ServerMsg.{ServerMsg}
use Rattle.room_log.specs.Log.{State, last_of, updates_of}
use Rattle.room_model.specs.Account.{actor_in}
use Rattle.room_model.specs.Calls as calls
use Rattle.room_model.specs.Receive
use Rattle.room_model.specs.Server.{Outbound, Inbound, Pong, Message, Closed}
use Rattle.room_model.specs.Lines as lines
use Rattle.room_model.specs.World
use Rattle.room_model.specs.World.{slot, slot_in}
use Rattle.room_model.specs.Run
use Rattle.room_model.specs.Run.{Run as ARun, with_step, all_given, IsUndisturbed}
use Rattle.room_laws.specs.Core.{Core, core, actor}
use Rattle.room_laws.specs.Queues.{Says}
use Rattle.room_laws.specs.Invariant
use Rattle.room_laws.proofs.Maps.{cut, conn_same, conn_other, get_same, get_other}
use Rattle.room_laws.proofs.Keep.{Undisturbed}
use Rattle.room_laws.proofs.Calls.{slot_same, slot_other}
use Rattle.room_laws.proofs.Cuts.{keeps_cut}
use Rattle.room_laws.proofs.Receiving.{receive_stays}
use Rattle.room_laws.proofs.RunSteps.{updates_of-nil}
use Rattle.room_laws.proofs.Sends.{Turn, Turned, turns, sent_inbound, sent_on}
use Rattle.room_laws.proofs.Takes.{turned_still}
use Rattle.room_laws.proofs.Messages.{takes}
use Rattle.room_laws.proofs.OwnLines.{keeps_saying, cut_off_at}
use Rattle.room_laws.proofs.Strange.{keeps_strange}
use Rattle.room_laws.proofs.Facts.{some_is, true_false}
use Rattle.room_laws.proofs.Single.{receive_one}

no_cons : {A : Type 0} (x : A) (xs : List A) → x ∷ xs ≡ [] → ⊥
no_cons x xs e = cc

-- the client c takes m, which comes first on its connection k
module _ (s : State) (r : ARun) (number c k : ℕ) (q : World.Conn) (m : Outbound) (ms : List Outbound) (st : Invariant.Inv s r)
    (is : Invariant.conn r.world k ≡ q) (first : q.outbound ≡ m ∷ ms) (present : (slot r.world c).present ≡ Some k) where
  abbrev p : World.Slot
  p = slot r.world c

  abbrev shorter : World.Conn
  shorter = record q { outbound = ms }

  abbrev popped : FinMap nat_cmp World.Conn
  popped = insert r.world.conns k shorter

  abbrev w : World.World
  w = World.with_conn r.world k shorter

  not_here : (j : ℕ) → (p.present ≡ Some j → ⊥) → j ≡ k → ⊥
  not_here j f e = f (present ∙ ap Some (sym e))

  popped_there : (j : ℕ) → is_some (get r.world.conns j) ≡ true → is_some (get popped j) ≡ true
  popped_there j i = ⊎_elim (λ e. rw e (ap is_some (get_same r.world.conns k shorter))) (λ e. ap is_some (get_other r.world.conns k shorter j e) ∙ i) (cases_eq j k)

  -- it is lost
  lost : (ls : List (List ℕ)) → Invariant.Inv s (with_step r (World.saying (World.with_slot (World.cut_present w p.present) c (record { account = calls.lost p.account; present = None; noticed = p.noticed })) ls))
  lost ls = keeps_cut s r _ c _ st (cut_off_at s r c st popped p.present ls refl
      (λ j f. conn_other r.world.conns k shorter j (not_here j f))
      (λ j e. subst (λ n. cut (Invariant.conn_in (get popped n)) ≡ cut (Invariant.conn r.world n)) (some_is k j (sym present ∙ e)) (ap cut (conn_same r.world.conns k shorter) ∙ ap cut (sym is)))
      popped_there p.noticed)

  -- it goes on: y is its slot, and us goes up
  abbrev on_with : World.Slot → List Inbound → List (List ℕ) → ARun
  on_with y us ls = with_step r (World.saying (World.send_inbound (World.with_slot w c y) k us) ls)

  turn : (y : World.Slot) (us : List Inbound) (ls : List (List ℕ)) → y.present ≡ Some k → Turn r (on_with y us ls) c k y ms us
  turn y us ls e =
      let v = sent_inbound (World.with_slot w c y) k us (λ l i. popped_there k (st.shape.there k l i)) in
      record {
        host = v.host;
        opened = v.opened;
        before = present;
        after = e;
        slot_is = ap (λ (x : FinMap nat_cmp World.Slot). slot_in (get x c)) v.clients ∙ slot_same w c y;
        slots = λ d i. ap (λ (x : FinMap nat_cmp World.Slot). slot_in (get x d)) v.clients ∙ slot_other w c d y i;
        here = v.here ∙ ap (λ (x : World.Conn). sent_on x (is_some (Invariant.link r.world k)) us) (conn_same r.world.conns k shorter ∙ ap (λ (x : World.Conn). record x { outbound = ms }) (sym is));
        else = λ j i. v.else j i ∙ conn_other r.world.conns k shorter j i;
        there = λ j i. v.there j (popped_there j i);
        log = updates_of-nil r.log;
        given = append-nil r.given;
        batches = λ d. ap (λ xs. Run.issued_of d xs) (append-nil r.issued);
      }

  before : Core → (x : Core) → Type 0
  before y x = (actor y ≡ actor x) ⊎ (x.session ≡ None)

  abbrev HeldHere : Type 0
  HeldHere = Invariant.Client s (updates_of r.log) (Invariant.sessions r) r.given c (Some k) (core p.account) (Invariant.issued_by r c) (m ∷ ms) (Invariant.link r.world k)

  abbrev InboundsHere : Type 0
  InboundsHere = Invariant.Inbounds (Some k ≡ Some k) (p.account).session (Invariant.tried (core p.account)) (Invariant.issued_by r c) (last_of (Invariant.sessions r) (actor (core p.account))) (Invariant.link r.world k) (Invariant.conn r.world k).inbound

  abbrev TurnedTo : World.Slot → List Inbound → Type 0
  TurnedTo y us = Turned s (updates_of r.log) (Invariant.sessions r) r.given c k (core p.account) (core y.account) (Invariant.issued_by r c) ms (Invariant.link r.world k)
      (cond (is_some (Invariant.link r.world k)) ((Invariant.conn r.world k).inbound ++ us) (Invariant.conn r.world k).inbound)

  held_here : IsUndisturbed r c → HeldHere
  held_here u = subst (λ (d : List Outbound). Invariant.Client s (updates_of r.log) (Invariant.sessions r) r.given c (Some k) (core p.account) (Invariant.issued_by r c) d (Invariant.link r.world k))
      (ap (λ (x : World.Conn). x.outbound) is ∙ first)
      (subst (λ (o : Option ℕ). Invariant.Client s (updates_of r.log) (Invariant.sessions r) r.given c o (core p.account) (Invariant.issued_by r c) (Invariant.present_outbound r.world o) (Invariant.present_link r.world o)) present (st.client c u))

  inbounds_here : IsUndisturbed r c → InboundsHere
  inbounds_here u = subst (λ (o : Option ℕ). Invariant.Inbounds (o ≡ Some k) (p.account).session (Invariant.tried (core p.account)) (Invariant.issued_by r c) (last_of (Invariant.sessions r) (actor (core p.account))) (Invariant.link r.world k) (Invariant.conn r.world k).inbound)
      present (st.inbounds c k (st.shape.present c k present).owner u)

  keeps_on : (y : World.Slot) (us : List Inbound) (ls : List (List ℕ)) → y.present ≡ Some k → (actor (core y.account) ≡ actor (core p.account)) ⊎ ((p.account).session ≡ None)
      → (Undisturbed r.given c (core y.account) → HeldHere → InboundsHere → TurnedTo y us) → Invariant.Inv s (on_with y us ls)
  keeps_on y us ls e stays f = turns s r (on_with y us ls) c k y ms us st (turn y us ls e) (λ u.
      let b : IsUndisturbed r c = ⊎_elim
      (λ i. subst (λ n. all_given c n r.given ≡ true) i u)
      (λ i. subst (λ (o : Option Resume). all_given c (actor_in o) r.given ≡ true) (sym i) (st.nobody c)) stays in
      (b, f u (held_here b) (inbounds_here b)))

  message_taken : (msg : ServerMsg) → m ≡ Message msg → (res : Result Receive.Received Receive.FrameFault) → Receive.receive p.account msg ≡ res
      → Invariant.Inv s (with_step r (World.frame_taken w number c k p (Receive.or_lost p.account res)))
  message_taken msg e (Err fault) i = lost (lines.refused_line number (lines.frame_fault_words fault) ∷ [])
  message_taken msg e (Ok out) i = keeps_on (record { account = out.account; present = p.present; noticed = out.notices }) (map World.inbound_frame out.replies) (lines.event_lines (Some c) out.events) present
      (receive_stays p.account msg out i)
      (λ u h v.
      let t = takes s (updates_of r.log) (Invariant.sessions r) r.given c k p.account (Invariant.issued_by r c) ms (Invariant.link r.world k) (Invariant.conn r.world k).inbound msg
      (λ other j. subst (λ (z : Receive.Received). Undisturbed r.given c (core z.account)) (ok_same out other (sym i ∙ j)) u)
      (subst (λ (x : Outbound). Invariant.Client s (updates_of r.log) (Invariant.sessions r) r.given c (Some k) (core p.account) (Invariant.issued_by r c) (x ∷ ms) (Invariant.link r.world k)) e h) v in
      subst (λ (z : Receive.Received). TurnedTo (record { account = z.account; present = p.present; noticed = out.notices }) (map World.inbound_frame z.replies)) (ok_same t.out out (sym t.is ∙ i)) t.turned)
    where
      ok_same : (a b : Receive.Received) → ◌≡◌ {A = Result Receive.Received Receive.FrameFault} (Ok a) (Ok b) → a ≡ b
      ok_same a b e = cc

  client_takes_at : (n : Outbound) → m ≡ n → Invariant.Inv s (with_step r (World.client_takes w number c k p n))
  client_takes_at Pong e = keeps_on (record { account = p.account; present = p.present; noticed = [] }) [] [] present (inl refl)
      (λ u h v. turned_still s (updates_of r.log) (Invariant.sessions r) r.given c k p.account (Invariant.issued_by r c) m ms (Invariant.link r.world k) (Invariant.conn r.world k).inbound h v []
      (subst (λ (x : Outbound). Says s (h.standing).who (Invariant.place (core p.account) h.done h.coming) x (h.standing).waits.next) e (h.standing).waits.says) (inl refl))
  client_takes_at (Message msg) e = subst (λ res. Invariant.Inv s (with_step r (World.frame_taken w number c k p res))) (sym (receive_one p.account msg)) (message_taken msg e (Receive.receive p.account msg) refl)
  client_takes_at (Closed code text) e = lost (lines.closed_line k code text ∷ [])

  pub client_takes : Invariant.Inv s (with_step r (World.client_takes w number c k p m))
  client_takes = client_takes_at m refl

-- into the world
module _ (s : State) (r : ARun) (number k : ℕ) (st : Invariant.Inv s r) where
  abbrev Pops : World.Conn → Outbound → List Outbound → Type 0
  Pops q m ms = (Invariant.conn r.world k ≡ q) × (q.outbound ≡ m ∷ ms)

  hears : (q : World.Conn) (m : Outbound) (ms : List Outbound) (b : Bool) → Invariant.conn r.world k ≡ q → q.outbound ≡ m ∷ ms → q.listens ≡ b → b ≡ true
  hears q m ms true e f i = refl
  hears q m ms false e f i = absurd (no_cons m ms (sym f ∙ ap (λ (x : World.Conn). x.outbound) (sym e) ∙ st.shape.deaf k (ap (λ (x : World.Conn). x.listens) e ∙ i)))

  low : (q : World.Conn) (m : Outbound) (ms : List Outbound) → Invariant.conn r.world k ≡ q → q.outbound ≡ m ∷ ms → r.world.opened < k → ⊥
  low q m ms e f i = no_cons m ms (sym f ∙ ap (λ (x : World.Conn). x.outbound) (sym e ∙ st.shape.unopened k i))

  -- a link writes what it gets
  link_at : (q : World.Conn) (m : Outbound) (ms : List Outbound) (n : Outbound) → m ≡ n → Invariant.conn r.world k ≡ q → q.outbound ≡ m ∷ ms → q.owner ≡ None
      → Invariant.Inv s (with_step r (World.link_takes (World.with_conn r.world k (record q { outbound = ms })) k n))
  link_at q m ms n i e f o = by_kind n
    where
      moved : Invariant.Inv s (record r { world = World.with_conn r.world k (record q { outbound = ms }) })
      moved = keeps_strange s r k q (record q { outbound = ms }) st e o o (λ j. absurd (true_false (sym (hears q m ms q.listens e f refl) ∙ j))) (low q m ms e f)

      by_kind : (n : Outbound) → Invariant.Inv s (with_step r (World.link_takes (World.with_conn r.world k (record q { outbound = ms })) k n))
      by_kind Pong = keeps_saying s (record r { world = World.with_conn r.world k (record q { outbound = ms }) }) (lines.got_line k (codes "pong") ∷ []) moved
      by_kind (Message msg) = keeps_saying s (record r { world = World.with_conn r.world k (record q { outbound = ms }) }) (lines.got_line k (server_text msg) ∷ []) moved
      by_kind (Closed code text) = keeps_saying s (record r { world = World.with_conn r.world k (record q { outbound = ms }) }) (lines.closed_line k code text ∷ []) moved

  owner_at : (q : World.Conn) (m : Outbound) (ms : List Outbound) (o : Option ℕ) → Invariant.conn r.world k ≡ q → q.outbound ≡ m ∷ ms → q.owner ≡ o
      → Invariant.Inv s (with_step r (World.owner_takes (World.with_conn r.world k (record q { outbound = ms })) number k m o))
  owner_at q m ms None e f o = link_at q m ms m refl e f o
  owner_at q m ms (Some c) e f o = client_takes s r number c k q m ms st e f
      (st.shape.heard c k (record { owner = ap (λ (x : World.Conn). x.owner) e ∙ o; listens = ap (λ (x : World.Conn). x.listens) e ∙ hears q m ms q.listens e f refl }))

  outbound_at : (q : World.Conn) (d : List Outbound) → Invariant.conn r.world k ≡ q → q.outbound ≡ d → Invariant.Inv s (with_step r (World.outbound_from r.world number k q d))
  outbound_at q [] e f = keeps_saying s r [] st
  outbound_at q (m ∷ ms) e f = owner_at q m ms q.owner e f refl

  receive_at : (o : Option World.Conn) → get r.world.conns k ≡ o → Invariant.Inv s (with_step r (World.outbound_at r.world number k o))
  receive_at None e = keeps_saying s r [] st
  receive_at (Some q) e = outbound_at q q.outbound (ap Invariant.conn_in e) refl

  pub keeps_outbound : Invariant.Inv s (with_step r (World.peer_receives r.world number k))
  keeps_outbound = receive_at (get r.world.conns k) refl
