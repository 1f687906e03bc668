-- Each line keeps a world sound, and its entries follow.
use Rattle.std.proofs.Common.{◌≡◌, ◌<◌, ◌+◌, ℕ, zero, suc, Bool, true, false, cond, List, [], ◌∷◌, ◌++◌, map, refl, sym, ap, ◌∙◌, subst, arith, nat_cmp, ⊎_elim}
use Rattle.std.specs.Prelude.{Option, Some, None, Result, Ok, Err}
use Rattle.std.proofs.lemmas.Bool.{cases_eq}
use Rattle.std.specs.FinMap.{FinMap, get, insert, entries}
use Rattle.room_msg.specs.declared.messages.ClientMsg.{ClientMsg}
use Rattle.room_msg.specs.declared.messages.ServerMsg.{ServerMsg}
use Rattle.room_msg.specs.Frame.{client_frame_in}
use Rattle.room_log.specs.Log.{State, Entry, after, state_after}
use Rattle.room_log.specs.Follows.{IsKey, IsValidLog, IsValidState}
use Rattle.room_model.specs.Edits.{Edit, EditFault}
use Rattle.room_model.specs.Account.{Account}
use Rattle.room_model.specs.Calls as calls
use Rattle.room_model.specs.Receive
use Rattle.room_model.specs.Server
use Rattle.room_model.specs.Server.{Outbound, Pong, Message, Closed, Inbound, Link, Served}
use Rattle.room_model.specs.Lines as lines
use Rattle.room_model.specs.Sound.{IsSound, IsSoundEdit, IsCall, IsTraffic, IsService, IsLine, IsReadSound}
use Rattle.room_model.specs.World
use Rattle.room_model.specs.World.{World, Conn, Slot, Stepped, Host, Running, Stopped, state_in, entries_in, slot, account}
use Rattle.room_laws.specs.Accounts.{KeepsSound}
use Rattle.room_laws.specs.Invariant.{conn_in}
use Rattle.room_laws.proofs.ReadSound.{read_sound}
use Rattle.room_laws.specs.Validity.{AreLimits, AreSoundOutbounds, AreSoundInbounds, IsSoundConn, IsSoundOutbound, IsSoundHost, IsSoundServer, IsSoundWorld, ItemsOfValid}
use Rattle.room_laws.proofs.Maps.{conn_same, conn_other, emptied_at, get_none}
use Rattle.room_laws.proofs.Calls.{slot_same, slot_other}
use Rattle.room_laws.proofs.SoundMaps.{each_put}
use Rattle.room_laws.proofs.SoundSends.{AreSoundFrames, hello_sound, flush_sound, resend_sound, replies_sound}
use Rattle.room_laws.proofs.SoundServes.{AreSoundOuts, Goes, serve_goes, gone_is}
use Rattle.room_laws.proofs.Single.{receive_one}

-- queues

abbrev EachConn : FinMap nat_cmp Conn → Type 0
EachConn m = (k : ℕ) → IsSoundConn (conn_in (get m k))

conn_got : (m : FinMap nat_cmp Conn) (k : ℕ) (q : Conn) → EachConn m → get m k ≡ Some q → IsSoundConn q
conn_got m k q h e = subst (λ o. IsSoundConn (conn_in o)) e (h k)

conn_put : (m : FinMap nat_cmp Conn) (k : ℕ) (q : Conn) → EachConn m → IsSoundConn q → EachConn (insert m k q)
conn_put m k q h i j = ⊎_elim
    (λ e. subst (λ n. IsSoundConn (conn_in (get (insert m k q) n))) (sym e) (subst IsSoundConn (sym (conn_same m k q)) i))
    (λ e. subst IsSoundConn (sym (conn_other m k q j e)) (h j))
    (cases_eq j k)

inbounds-append : (us vs : List Inbound) → AreSoundInbounds us → AreSoundInbounds vs → AreSoundInbounds (us ++ vs)
inbounds-append [] vs h k = k
inbounds-append (u ∷ us) vs h k = (h.0, inbounds-append us vs h.1 k)

outbounds-put : (ms : List Outbound) (m : Outbound) → AreSoundOutbounds ms → IsSoundOutbound m → AreSoundOutbounds (ms ++ m ∷ [])
outbounds-put [] m h k = (k, tt)
outbounds-put (x ∷ xs) m h k = (h.0, outbounds-put xs m h.1 k)

outbound_sound : (q : Conn) (m : Outbound) → IsSoundConn q → IsSoundOutbound m → IsSoundConn (World.with_outbound q m)
outbound_sound q m h i = record { inbound = inbound (World.is_close m); outbound = outbound q.listens }
  where
    inbound : (b : Bool) → AreSoundInbounds (cond b [] q.inbound)
    inbound true = tt
    inbound false = h.inbound

    outbound : (b : Bool) → AreSoundOutbounds (cond b (q.outbound ++ m ∷ []) q.outbound)
    outbound true = outbounds-put q.outbound m h.outbound i
    outbound false = h.outbound

give_sound : (m : FinMap nat_cmp Conn) (k : ℕ) (d : Outbound) (o : Option Conn) → get m k ≡ o → EachConn m → IsSoundOutbound d → EachConn (World.give m k d o)
give_sound m k d None e h i = h
give_sound m k d (Some q) e h i = conn_put m k (World.with_outbound q d) h (outbound_sound q d (conn_got m k q h e) i)

deliver_sound : (m : FinMap nat_cmp Conn) (os : List (ℕ × Outbound)) → EachConn m → AreSoundOuts os → EachConn (World.deliver m os)
deliver_sound m [] h i = h
deliver_sound m (o ∷ os) h i = deliver_sound (World.give m o.0 o.1 (get m o.0)) os (give_sound m o.0 o.1 (get m o.0) refl h i.0) i.1

cut_sound : (m : FinMap nat_cmp Conn) (k : ℕ) (o : Option Conn) → get m k ≡ o → EachConn m → EachConn (World.cut_conn m k o)
cut_sound m k None e h = h
cut_sound m k (Some q) e h = conn_put m k (record q { outbound = []; listens = false }) h (record { inbound = (conn_got m k q h e).inbound; outbound = tt })

left_sound : (m : FinMap nat_cmp Conn) (k : ℕ) (o : Option Conn) → get m k ≡ o → EachConn m → EachConn (World.gone_conn m k o)
left_sound m k None e h = h
left_sound m k (Some q) e h = conn_put m k (record q { inbound = [] }) h (record { inbound = tt; outbound = (conn_got m k q h e).outbound })

-- a step: what it leaves, and the entries from the state s on

pub record Stands (n : ℕ) (s : State) (out : Stepped) : Type 0 where
  pub world : IsSoundWorld n out.world
  pub log : IsValidLog s out.entries
  pub state : state_in out.world.host ≡ state_after s out.entries

-- a change without an entry
record Same (n : ℕ) (s : State) (w : World) : Type 0 where
  world : IsSoundWorld n w
  state : state_in w.host ≡ s

module _ (n : ℕ) (s : State) where
  quietly : (w : World) → Same n s w → Stands n s (World.quiet w)
  quietly w h = record { world = h.world; log = tt; state = h.state }

  saying : (w : World) (ls : List (List ℕ)) → Same n s w → Stands n s (World.saying w ls)
  saying w ls h = record { world = h.world; log = tt; state = h.state }

  put_slot : (w : World) (c : ℕ) (p : Slot) → Same n s w → IsSound p.account → Same n s (World.with_slot w c p)
  put_slot w c p h i = record {
    world = record {
      host = h.world.host;
      limits = h.world.limits;
      clients = λ d. ⊎_elim
          (λ e. subst (λ m. IsSound (account (World.with_slot w c p) m)) (sym e) (subst (λ (z : Slot). IsSound z.account) (sym (slot_same w c p)) i))
          (λ e. subst (λ (z : Slot). IsSound z.account) (sym (slot_other w c d p e)) (h.world.clients d))
          (cases_eq d c);
      conns = h.world.conns;
      opened = h.world.opened;
    };
    state = h.state;
  }

  put_conns : (w : World) (m : FinMap nat_cmp Conn) → Same n s w → EachConn m → Same n s (record w { conns = m })
  put_conns w m h i = record {
    world = record { host = h.world.host; limits = h.world.limits; clients = h.world.clients; conns = i; opened = h.world.opened };
    state = h.state;
  }

  put_fuse : (w : World) (f : Option World.Fuse) → Same n s w → Same n s (record w { fuse = f })
  put_fuse w f h = record {
    world = record { host = h.world.host; limits = h.world.limits; clients = h.world.clients; conns = h.world.conns; opened = h.world.opened };
    state = h.state;
  }

  send_at : (w : World) (k : ℕ) (us : List Inbound) (b : Bool) (o : Option Conn) → get w.conns k ≡ o → Same n s w → AreSoundInbounds us → Same n s (World.inbounds_on w k us b o)
  send_at w k us true (Some q) e h i =
      let was = conn_got w.conns k q h.world.conns e in
      put_conns w (insert w.conns k (record q { inbound = q.inbound ++ us })) h (conn_put w.conns k (record q { inbound = q.inbound ++ us }) h.world.conns (record { inbound = inbounds-append q.inbound us was.inbound i; outbound = was.outbound }))
  send_at w k us true None e h i = h
  send_at w k us false o e h i = h

  send : (w : World) (k : ℕ) (us : List Inbound) → Same n s w → AreSoundInbounds us → Same n s (World.send_inbound w k us)
  send w k us h i = send_at w k us (World.is_attached w k) (get w.conns k) refl h i

  send_present : (w : World) (o : Option ℕ) (fs : List (List ClientMsg)) → Same n s w → AreSoundFrames fs → Same n s (World.send_present w o fs)
  send_present w None fs h i = h
  send_present w (Some k) fs h i = send w k (map World.inbound_frame fs) h i

  cut_present : (w : World) (o : Option ℕ) → Same n s w → Same n s (World.cut_present w o)
  cut_present w None h = h
  cut_present w (Some k) h = put_conns w (World.cut_conn w.conns k (get w.conns k)) h (cut_sound w.conns k (get w.conns k) refl h.world.conns)

  stopped : (w : World) (z : State) → IsSoundWorld n w → IsValidState z → IsSoundWorld n (World.stopped w z)
  stopped w z h i = record {
    host = i;
    limits = h.limits;
    clients = h.clients;
    conns = λ k. subst IsSoundConn (sym (emptied_at w.conns k)) (record { inbound = tt; outbound = tt });
    opened = h.opened;
  }

  -- a new connection, where its number can be a key

  opened_server : (v : Server.Server) (k : ℕ) (o : Option Link) → get v.links k ≡ o → IsSoundServer v → IsKey k → IsSoundServer (Server.opened_at v k k o)
  opened_server v k (Some l) e h i = h
  opened_server v k None e h i = record {
    state = h.state;
    limits = h.limits;
    links = each_put _ v.links h.links k (record { key = k; actor = None; fetched = false; decision = None }) (record { key = i; actor = tt });
  }

  opened_host : (g : Host) (k : ℕ) → IsSoundHost g → IsKey k → IsSoundHost (World.opened_host g k)
  opened_host (Running v) k h i = opened_server v k (get v.links k) refl h i
  opened_host (Stopped z) k h i = h

  opened_same : (v : Server.Server) (k : ℕ) (o : Option Link) → (Server.opened_at v k k o).state ≡ v.state
  opened_same v k None = refl
  opened_same v k (Some l) = refl

  opened_state : (g : Host) (k : ℕ) → state_in (World.opened_host g k) ≡ state_in g
  opened_state (Running v) k = opened_same v k (get v.links k)
  opened_state (Stopped z) k = refl

  open_conn : (w : World) (owner : Option ℕ) → Same n s w → w.opened < n → IsKey n → Same n s (World.open_conn w owner)
  open_conn w owner h below key = record {
    world = record {
      host = opened_host w.host (w.opened + 1) h.world.host (omega (arith, below, key));
      limits = h.world.limits;
      clients = h.world.clients;
      conns = conn_put w.conns (w.opened + 1) (World.new_conn owner) h.world.conns (record { inbound = tt; outbound = tt });
      opened = omega (arith, below);
    };
    state = opened_state w.host (w.opened + 1) ∙ h.state;
  }

  -- lines of clients

  cut_opened : (w : World) (o : Option ℕ) → (World.cut_present w o).opened ≡ w.opened
  cut_opened w None = refl
  cut_opened w (Some k) = refl

  module _ (keep : KeepsSound) (w : World) (number c : ℕ) (p : Slot) (h : Same n s w) (hp : IsSound p.account) where
    put : (y : Account) (o : Option ℕ) (ns : List _) → IsSound y → Same n s (World.with_slot w c (record { account = y; present = o; noticed = ns }))
    put y o ns i = put_slot w c (record { account = y; present = o; noticed = ns }) h i

    done : (out : Stepped) → out.entries ≡ [] → Same n s out.world → Stands n s out
    done out e i = record { world = i.world; log = subst (IsValidLog s) (sym e) tt; state = i.state ∙ ap (state_after s) (sym e) }

    refused : (ls : List (List ℕ)) → Stands n s (World.refuses w number ls)
    refused ls = saying w _ h

    edits : (e : Edit) (out : Result calls.Done EditFault) → IsSoundEdit e → calls.edit p.account e ≡ out → Stands n s (World.edit_out w number c p out)
    edits e (Err fault) g i = refused _
    edits e (Ok out) g i = done _ refl (put out.account p.present out.notices (keep.edit p.account e out hp g i))

    begins : (out : Result Account calls.BatchFault) → calls.batch_begin p.account ≡ out → Stands n s (World.begin_out w number c p out)
    begins (Err fault) i = refused _
    begins (Ok y) i = done _ refl (put y p.present p.noticed (keep.batch_begin p.account y hp i))

    ends : (out : Result calls.Done calls.BatchFault) → calls.batch_end p.account ≡ out → Stands n s (World.end_out w number c p out)
    ends (Err fault) i = refused _
    ends (Ok out) i = done _ refl (put out.account p.present p.noticed (keep.batch_end p.account out hp i))

    backs : (way : calls.Direction) (out : Result (Option calls.Done) calls.UndoFault) → calls.go_back way p.account ≡ out → Stands n s (World.back_out w number c p out)
    backs way (Err fault) i = refused _
    backs way (Ok None) i = saying w _ h
    backs way (Ok (Some out)) i = done _ refl (put out.account p.present out.notices (keep.go_back way p.account out hp i))

    says : (out : Result Account calls.SayFault) → ((y : Account) → out ≡ Ok y → IsSound y) → Stands n s (World.say_out w number c p out)
    says (Err fault) f = refused _
    says (Ok y) f = done _ refl (put y p.present p.noticed (f y refl))

    speaks : (y : Account) (fs : List (List ClientMsg)) → IsSound y → AreSoundFrames fs → Stands n s (World.speaks w c p y fs)
    speaks y fs i f = quietly _ (send_present (World.with_slot w c (World.with_account p y)) p.present fs (put y p.present p.noticed i) f)

    cuts : (y : Account) → IsSound y → Same n s (World.with_slot (World.cut_present w p.present) c (record { account = y; present = None; noticed = p.noticed }))
    cuts y i = put_slot (World.cut_present w p.present) c (record { account = y; present = None; noticed = p.noticed }) (cut_present w p.present h) i

    dials : w.opened < n → IsKey n → Same n s (World.dial_slot w c p)
    dials below key =
        let x = calls.dialled p.account in
        let sound : IsSound x = keep.dialled p.account hp in
        let v = World.cut_present w p.present in
        let low : v.opened < n = omega (arith, below, cut_opened w p.present) in
        let q : Slot = record { account = x; present = Some (w.opened + 1); noticed = p.noticed } in
        send (World.with_slot (World.open_conn v (Some c)) c q) (w.opened + 1) (World.inbound_frame (calls.hello_of x) ∷ [])
        (put_slot (World.open_conn v (Some c)) c q (open_conn v (Some c) (cut_present w p.present h) low key) sound) (hello_sound x sound, tt)

    client_calls : (call : lines.Call) → IsCall call → w.opened < n → IsKey n → Stands n s (World.client_calls w number c p call)
    client_calls lines.Dial i below key = quietly _ (dials below key)
    client_calls (lines.Edits e) i below key = edits e (calls.edit p.account e) i refl
    client_calls lines.Begin i below key = begins (calls.batch_begin p.account) refl
    client_calls lines.End i below key = ends (calls.batch_end p.account) refl
    client_calls lines.Undo i below key = backs calls.Undo (calls.go_back calls.Undo p.account) refl
    client_calls lines.Redo i below key = backs calls.Redo (calls.go_back calls.Redo p.account) refl
    client_calls lines.Pause i below key = quietly _ (put (calls.pause p.account) p.present p.noticed (keep.pauses p.account hp))
    client_calls lines.Resume i below key = quietly _ (put (calls.resume p.account) p.present p.noticed (keep.resumes p.account hp))
    client_calls lines.Clear i below key = quietly _ (put (calls.clear p.account) p.present p.noticed (keep.clears p.account hp))
    client_calls (lines.Presence patch in_history) i below key = says (calls.presence p.account patch in_history) (λ y e. keep.presence p.account y patch in_history hp i e)
    client_calls (lines.Event e) i below key = says (calls.event p.account e) (λ y j. keep.event p.account y e hp i j)
    client_calls lines.Flush i below key = speaks (calls.flushed p.account) (calls.flush_frames p.account) (keep.flushed p.account hp) (flush_sound p.account hp)
    client_calls lines.Resend i below key = speaks (calls.resent p.account) (calls.resend_frames p.account) (keep.resent p.account hp) (resend_sound p.account hp)
    client_calls lines.Cut i below key = quietly _ (cuts (calls.lost p.account) (keep.lost p.account hp))

    -- what comes down
    takes_next : (k : ℕ) (m : ServerMsg) (r : Result Receive.Received Receive.FrameFault) → IsSoundOutbound (Message m) → Receive.receive p.account m ≡ r
        → Stands n s (World.frame_taken w number c k p (Receive.or_lost p.account r))
    takes_next k m (Err fault) i e = saying _ _ (cuts (calls.lost p.account) (keep.lost p.account hp))
    takes_next k m (Ok out) i e =
        let after = keep.receive p.account m out hp i e in
        saying _ _ (send (World.with_slot w c (record { account = out.account; present = p.present; noticed = out.notices })) k (map World.inbound_frame out.replies)
        (put out.account p.present out.notices after) (replies_sound p.account hp out after m i e))

    takes : (k : ℕ) (m : Outbound) → IsSoundOutbound m → Stands n s (World.client_takes w number c k p m)
    takes k Pong i = saying _ _ (send (World.with_slot w c (record { account = p.account; present = p.present; noticed = [] })) k [] (put p.account p.present [] hp) tt)
    takes k (Message m) i = subst (λ r. Stands n s (World.frame_taken w number c k p r)) (sym (receive_one p.account m)) (takes_next k m (Receive.receive p.account m) i refl)
    takes k (Closed code text) i = saying _ _ (cuts (calls.lost p.account) (keep.lost p.account hp))

  module _ (keep : KeepsSound) where
    -- down

    link_takes : (w : World) (k : ℕ) (m : Outbound) → Same n s w → Stands n s (World.link_takes w k m)
    link_takes w k Pong h = saying w _ h
    link_takes w k (Message m) h = saying w _ h
    link_takes w k (Closed code text) h = saying w _ h

    owner_takes : (w : World) (number k : ℕ) (m : Outbound) (o : Option ℕ) → Same n s w → IsSoundOutbound m → Stands n s (World.owner_takes w number k m o)
    owner_takes w number k m None h i = link_takes w k m h
    owner_takes w number k m (Some c) h i = takes keep w number c (slot w c) h (h.world.clients c) k m i

    outbound_from : (w : World) (number k : ℕ) (q : Conn) (ms : List Outbound) → q.outbound ≡ ms → IsSoundConn q → Same n s w → Stands n s (World.outbound_from w number k q ms)
    outbound_from w number k q [] e i h = quietly w h
    outbound_from w number k q (m ∷ ms) e i h =
        let d : AreSoundOutbounds (m ∷ ms) = subst AreSoundOutbounds e i.outbound in
        owner_takes (World.with_conn w k (record q { outbound = ms })) number k m q.owner
        (put_conns w (insert w.conns k (record q { outbound = ms })) h (conn_put w.conns k (record q { outbound = ms }) h.world.conns (record { inbound = i.inbound; outbound = d.1 }))) d.0

    outbound_at : (w : World) (number k : ℕ) (o : Option Conn) → get w.conns k ≡ o → Same n s w → Stands n s (World.outbound_at w number k o)
    outbound_at w number k None e h = quietly w h
    outbound_at w number k (Some q) e h = outbound_from w number k q q.outbound refl (conn_got w.conns k q h.world.conns e) h

  -- up

  state_with_is : (z : State) (o : Option Entry) → World.state_with z o ≡ state_after z (entries_in o)
  state_with_is z None = refl
  state_with_is z (Some e) = refl

  module _ (w : World) (v : Server.Server) (k : ℕ) (out : Served) (h : Same n s w) (runs : v.state ≡ s) (g : Goes v out) where
    valid : IsValidState (state_after v.state (entries_in out.entry))
    valid = subst IsValidState g.state g.server.state

    logged : IsValidLog s (entries_in out.entry)
    logged = subst (λ z. IsValidLog z (entries_in out.entry)) runs g.log

    fired : (b : Bool) → IsValidState v.state → Stands n s (cond b (record { world = World.stopped w (World.state_with v.state out.entry); lines = []; entries = entries_in out.entry; issues = []; given = [] }) (World.quiet (World.stopped w v.state)))
    fired true i = record {
      world = stopped w (World.state_with v.state out.entry) h.world (subst IsValidState (sym (state_with_is v.state out.entry)) valid);
      log = logged;
      state = state_with_is v.state out.entry ∙ ap (λ z. state_after z (entries_in out.entry)) runs;
    }
    fired false i = record { world = stopped w v.state h.world i; log = tt; state = runs }

    answered : (b : World.Burnt) → IsValidState v.state → Stands n s (World.answered w v k out b)
    answered (World.Intact f) i = record {
      world = record { host = g.server; limits = h.world.limits; clients = h.world.clients; conns = deliver_sound w.conns out.outs h.world.conns g.outs; opened = h.world.opened };
      log = logged;
      state = g.state ∙ ap (λ z. state_after z (entries_in out.entry)) runs;
    }
    answered (World.Fires call how) i = fired (World.is_kept call how) i

  module _ (items : ItemsOfValid) where
    inbound_from : (w : World) (k : ℕ) (g : Host) (q : Conn) (us : List Inbound) → w.host ≡ g → q.inbound ≡ us → IsSoundConn q → Same n s w → Stands n s (World.inbound_from w k g q us)
    inbound_from w k (Running v) q [] e f i h = quietly w h
    inbound_from w k (Stopped z) q us e f i h = quietly w h
    inbound_from w k (Running v) q (u ∷ us) e f i h =
        let d : AreSoundInbounds (u ∷ us) = subst AreSoundInbounds f i.inbound in
        let sound : IsSoundServer v = subst IsSoundHost e h.world.host in
        let x = World.with_conn w k (record q { inbound = us }) in
        answered x v k (Server.serve v k u)
        (put_conns w (insert w.conns k (record q { inbound = us })) h (conn_put w.conns k (record q { inbound = us }) h.world.conns (record { inbound = d.1; outbound = i.outbound })))
        (ap state_in (sym e) ∙ h.state) (serve_goes items v sound k u d.0) (World.burn (World.commit_calls (Server.serve v k u).entry) x.fuse) sound.state

    inbound_at : (w : World) (k : ℕ) (o : Option Conn) → get w.conns k ≡ o → Same n s w → Stands n s (World.inbound_at w k o)
    inbound_at w k None e h = quietly w h
    inbound_at w k (Some q) e h = inbound_from w k w.host q q.inbound refl refl (conn_got w.conns k q h.world.conns e) h

    -- lines of connections and of the server

    gone_on : (w : World) (k : ℕ) (g : Host) (b : Bool) → w.host ≡ g → Same n s w → Same n s (World.gone_on w k g b)
    gone_on w k (Running v) true e h =
        let out = gone_is items v (subst IsSoundHost e h.world.host) k in
        record {
          world = record {
            host = out.server;
            limits = h.world.limits;
            clients = h.world.clients;
            conns = deliver_sound (World.gone_conn w.conns k (get w.conns k)) (Server.gone v k).outs (left_sound w.conns k (get w.conns k) refl h.world.conns) out.outs;
            opened = h.world.opened;
          };
          state = out.state ∙ ap state_in (sym e) ∙ h.state;
        }
    gone_on w k (Running v) false e h = h
    gone_on w k (Stopped z) b e h = h

  stop : (w : World) (g : Host) → w.host ≡ g → Same n s w → Same n s (World.stop w g)
  stop w (Running v) e h =
      let sound : IsSoundServer v = subst IsSoundHost e h.world.host in
      record { world = stopped w v.state h.world sound.state; state = ap state_in (sym e) ∙ h.state }
  stop w (Stopped z) e h = h

  no_link : (k : ℕ) (l : Link) → get (World.links_of (Stopped s)) k ≡ Some l → ⊥
  no_link k l e = none l (sym (get_none k) ∙ e)
    where
      none : (l : Link) → None ≡ Some l → ⊥
      none l e = cc

  started : (w : World) (z : State) (b : World.Burnt) → w.host ≡ Stopped z → Same n s w → Stands n s (World.started w z b)
  started w z (World.Intact f) e h = record {
    world = record {
      host = record { state = subst IsSoundHost e h.world.host; limits = h.world.limits; links = λ k l i. absurd (no_link k l i) };
      limits = h.world.limits;
      clients = h.world.clients;
      conns = h.world.conns;
      opened = h.world.opened;
    };
    log = tt;
    state = ap state_in (sym e) ∙ h.state;
  }
  started w z (World.Fires call how) e h = saying _ _ (record { world = stopped w z h.world (subst IsSoundHost e h.world.host); state = ap state_in (sym e) ∙ h.state })

  start : (w : World) (g : Host) → w.host ≡ g → Same n s w → Stands n s (World.start w g)
  start w (Running v) e h = quietly w h
  start w (Stopped z) e h = started w z (World.burn 2 w.fuse) e h

  compacted : (w : World) (v : Server.Server) (b : World.Burnt) → w.host ≡ Running v → Same n s w → Same n s (World.compacted w v b)
  compacted w v (World.Intact f) e h = put_fuse w f h
  compacted w v (World.Fires call how) e h = stop w (Running v) e h

  compact : (w : World) (g : Host) → w.host ≡ g → Same n s w → Same n s (World.compact w g)
  compact w (Running v) e h = compacted w v (World.burn 6 w.fuse) e h
  compact w (Stopped z) e h = h

  limited : (g : Host) (l : Server.Limits) → IsSoundHost g → AreLimits l → IsSoundHost (World.limited g l)
  limited (Running v) l h i = record { state = h.state; limits = i; links = h.links }
  limited (Stopped z) l h i = h

  limited_state : (g : Host) (l : Server.Limits) → state_in (World.limited g l) ≡ state_in g
  limited_state (Running v) l = refl
  limited_state (Stopped z) l = refl

  limit : (w : World) (l : Server.Limits) → Same n s w → AreLimits l → Same n s (World.limit w l)
  limit w l h i = record {
    world = record { host = limited w.host l h.world.host i; limits = i; clients = h.world.clients; conns = h.world.conns; opened = h.world.opened };
    state = limited_state w.host l ∙ h.state;
  }

  raw_on : (w : World) (k : ℕ) (text : List ℕ) (o : Option ℕ) → Same n s w → IsReadSound (client_frame_in text) → Same n s (World.raw_on w k text o)
  raw_on w k text None h i = send w k (client_frame_in text ∷ []) h (read_sound (client_frame_in text) i, tt)
  raw_on w k text (Some c) h i = h

  raw_at : (w : World) (k : ℕ) (text : List ℕ) (o : Option Conn) → Same n s w → IsReadSound (client_frame_in text) → Same n s (World.raw_at w k text o)
  raw_at w k text None h i = h
  raw_at w k text (Some q) h i = raw_on w k text q.owner h i

-- one step after another

pub state_after-append : (s : State) (es fs : List Entry) → state_after s (es ++ fs) ≡ state_after (state_after s es) fs
state_after-append s [] fs = refl
state_after-append s (e ∷ es) fs = state_after-append (after s e) es fs

pub valid-append : (s : State) (es fs : List Entry) → IsValidLog s es → IsValidLog (state_after s es) fs → IsValidLog s (es ++ fs)
valid-append s [] fs h k = k
valid-append s (e ∷ es) fs h k = (h.0, valid-append (after s e) es fs h.1 k)

module _ (keep : KeepsSound) (items : ItemsOfValid) (n : ℕ) where
  then_stands : (s : State) (x y : Stepped) → Stands n s x → Stands n (state_after s x.entries) y → Stands n s (World.then_stepped x y)
  then_stands s x y h i = record {
    world = i.world;
    log = valid-append s x.entries y.entries h.log i.log;
    state = i.state ∙ sym (state_after-append s x.entries y.entries);
  }

  drain_step : (s : State) (w : World) (number : ℕ) (a b : Option ℕ) → Same n s w → Stands n s (World.or_quiet w (World.drain_step w number a b))
  drain_step s w number (Some k) b h = inbound_at n s items w k (get w.conns k) refl h
  drain_step s w number None (Some k) h = outbound_at n s keep w number k (get w.conns k) refl h
  drain_step s w number None None h = quietly n s w h

  drains : (s : State) (w : World) (number m : ℕ) → Same n s w → Stands n s (World.drain w number m)
  unfolding World.drain
  drains s w number zero h = quietly n s w h
  drains s w number (suc m) h =
      let out = World.drain_once w number in
      let once = drain_step s w number (World.least World.has_inbound (entries w.conns)) (World.least World.has_outbound (entries w.conns)) h in
      then_stands s out (World.drain out.world number m) once (drains (state_after s out.entries) out.world number m (record { world = once.world; state = once.state }))

  at : (s : State) (w : World) → IsSoundWorld n w → s ≡ state_in w.host → Same n s w
  at s w h e = record { world = h; state = sym e }

  pub conn_line : (w : World) (number k : ℕ) (traffic : lines.Traffic) → IsSoundWorld n w → IsTraffic traffic
      → Stands n (state_in w.host) (World.conn_line w number k traffic)
  conn_line w number k lines.Up h i = inbound_at n _ items w k (get w.conns k) refl (at _ w h refl)
  conn_line w number k lines.Down h i = outbound_at n _ keep w number k (get w.conns k) refl (at _ w h refl)
  conn_line w number k lines.Gone h i = quietly n _ _ (gone_on n _ items w k w.host (World.is_attached w k) refl (at _ w h refl))
  conn_line w number k (lines.Raw text) h i = quietly n _ _ (raw_at n _ w k text (get w.conns k) (at _ w h refl) i)

  server_line : (w : World) (service : lines.Service) → IsSoundWorld n w → IsService service → Stands n (state_in w.host) (World.server_line w service)
  server_line w lines.Stop h i = quietly n _ _ (stop n _ w w.host refl (at _ w h refl))
  server_line w lines.Start h i = start n _ w w.host refl (at _ w h refl)
  server_line w (lines.Fuse calls how) h i = quietly n _ _ (put_fuse n _ w (Some (record { left = calls; how = how })) (at _ w h refl))
  server_line w lines.Compact h i = quietly n _ _ (compact n _ w w.host refl (at _ w h refl))
  server_line w (lines.Limit updates sessions) h i = quietly n _ _ (limit n _ w (record { updates = updates; sessions = sessions }) (at _ w h refl) (record { updates = i.0; sessions = i.1 }))
  server_line w lines.ShowServer h i = saying n _ w _ (at _ w h refl)
  server_line w lines.BriefServer h i = saying n _ w _ (at _ w h refl)

  -- a line, of a world in which one more connection may be opened
  pub step_stands : (w : World) (number : ℕ) (l : lines.Line) → IsSoundWorld n w → IsLine l → w.opened < n → IsKey n → Stands n (state_in w.host) (World.step w number l)
  step_stands w number (lines.OfClient c call) h i below key = client_calls n _ keep w number c (slot w c) (at _ w h refl) (h.clients c) call i.1 below key
  step_stands w number (lines.AsksClient c question) h i below key = saying n _ w _ (at _ w h refl)
  step_stands w number (lines.OfConnection k traffic) h i below key = conn_line w number k traffic h i
  step_stands w number (lines.OfServer service) h i below key = server_line w service h i
  step_stands w number (lines.Drain m) h i below key = drains _ w number m (at _ w h refl)
  step_stands w number lines.Link h i below key = quietly n _ _ (open_conn n _ w None (at _ w h refl) below key)
