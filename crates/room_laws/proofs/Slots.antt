-- What every line makes of one client's account.
use Rattle.std.proofs.Common.{◌≡◌, ℕ, zero, suc, ◌+◌, Bool, true, false, cond, List, [], ◌∷◌, ◌++◌, map, refl, sym, ap, ◌∙◌, subst, ⊎_elim}
use Rattle.std.specs.Prelude.{Option, Some, None, Result, Ok, Err}
use Rattle.std.proofs.lemmas.Bool.{cases_eq, eq-eqb, ne_eqb}
use Rattle.std.specs.FinMap.{FinMap, get, entries}
use Rattle.std.specs.Ordering.{nat_cmp}
use Rattle.room_msg.specs.declared.messages.ServerMsg.{ServerMsg}
use Rattle.room_msg.specs.declared.messages.ClientMsg.{ClientMsg}
use Rattle.room_log.specs.Log.{State}
use Rattle.room_model.specs.Account.{Account}
use Rattle.room_model.specs.Edits.{EditFault}
use Rattle.room_model.specs.Calls as calls
use Rattle.room_model.specs.Receive
use Rattle.room_model.specs.Server
use Rattle.room_model.specs.Server.{Outbound, Pong, Message, Closed, Inbound, Served}
use Rattle.room_model.specs.Lines as lines
use Rattle.room_model.specs.World
use Rattle.room_model.specs.World.{World, Conn, Slot, Host, Running, Stopped, slot, slot_in, account}
use Rattle.room_model.specs.Run.{line}
use Rattle.room_laws.specs.Events.{Event, Called, Arrived, Ended, done_or, account_or, back_or, received_or, happened, happen, if_own, arrives_as, owned_events, outbound_events, traffic_events, moved_events, line_events, events, FollowsEvents}
use Rattle.room_laws.specs.Moves.{move, where_some}
use Rattle.room_laws.proofs.Calls.{slot_same, slot_other}
use Rattle.room_laws.proofs.Single.{receive_one}

send_clients : (w : World) (k : ℕ) (us : List Inbound) (b : Bool) (o : Option Conn) → (World.inbounds_on w k us b o).clients ≡ w.clients
send_clients w k us true (Some q) = refl
send_clients w k us true None = refl
send_clients w k us false o = refl

present_clients : (w : World) (o : Option ℕ) (fs : List (List ClientMsg)) → (World.send_present w o fs).clients ≡ w.clients
present_clients w None fs = refl
present_clients w (Some k) fs = send_clients w k (map World.inbound_frame fs) (World.is_attached w k) (get w.conns k)

cut_clients : (w : World) (o : Option ℕ) → (World.cut_present w o).clients ≡ w.clients
cut_clients w None = refl
cut_clients w (Some k) = refl

-- what the server's lines do leaves the clients

fires_clients : (w : World) (n m : State) (b : Bool) (es : List _) → (cond b (record { world = World.stopped w n; lines = []; entries = es; issues = []; given = [] }) (World.quiet (World.stopped w m))).world.clients ≡ w.clients
fires_clients w n m true es = refl
fires_clients w n m false es = refl

answered_clients : (w : World) (v : Server.Server) (k : ℕ) (out : Served) (b : World.Burnt) → (World.answered w v k out b).world.clients ≡ w.clients
answered_clients w v k out (World.Intact f) = refl
answered_clients w v k out (World.Fires call how) = fires_clients w (World.state_with v.state out.entry) v.state (World.is_kept call how) (World.entries_in out.entry)

inbound_clients : (w : World) (k : ℕ) (g : Host) (q : Conn) (us : List Inbound) → (World.inbound_from w k g q us).world.clients ≡ w.clients
inbound_clients w k (Running v) q (u ∷ us) = answered_clients (World.with_conn w k (record q { inbound = us })) v k (Server.serve v k u) (World.burn (World.commit_calls (Server.serve v k u).entry) w.fuse)
inbound_clients w k (Running v) q [] = refl
inbound_clients w k (Stopped s) q us = refl

server_receives_clients : (w : World) (k : ℕ) (o : Option Conn) → (World.inbound_at w k o).world.clients ≡ w.clients
server_receives_clients w k None = refl
server_receives_clients w k (Some q) = inbound_clients w k w.host q q.inbound

gone_clients : (w : World) (k : ℕ) (g : Host) (b : Bool) → (World.gone_on w k g b).clients ≡ w.clients
gone_clients w k (Running v) true = refl
gone_clients w k (Running v) false = refl
gone_clients w k (Stopped s) b = refl

stop_clients : (w : World) (g : Host) → (World.stop w g).clients ≡ w.clients
stop_clients w (Running v) = refl
stop_clients w (Stopped s) = refl

started_clients : (w : World) (s : State) (b : World.Burnt) → (World.started w s b).world.clients ≡ w.clients
started_clients w s (World.Intact f) = refl
started_clients w s (World.Fires call how) = refl

start_clients : (w : World) (g : Host) → (World.start w g).world.clients ≡ w.clients
start_clients w (Running v) = refl
start_clients w (Stopped s) = started_clients w s (World.burn 2 w.fuse)

compacted_clients : (w : World) (v : Server.Server) (b : World.Burnt) → (World.compacted w v b).clients ≡ w.clients
compacted_clients w v (World.Intact f) = refl
compacted_clients w v (World.Fires call how) = refl

compact_clients : (w : World) (g : Host) → (World.compact w g).clients ≡ w.clients
compact_clients w (Running v) = compacted_clients w v (World.burn 6 w.fuse)
compact_clients w (Stopped s) = refl

raw_on_clients : (w : World) (k : ℕ) (text : List ℕ) (o : Option ℕ) → (World.raw_on w k text o).clients ≡ w.clients
raw_on_clients w k text None = send_clients w k _ (World.is_attached w k) (get w.conns k)
raw_on_clients w k text (Some c) = refl

raw_clients : (w : World) (k : ℕ) (text : List ℕ) (o : Option Conn) → (World.raw_at w k text o).clients ≡ w.clients
raw_clients w k text None = refl
raw_clients w k text (Some q) = raw_on_clients w k text q.owner

pub happen-append : (x : Account) (es fs : List Event) → happen x (es ++ fs) ≡ happen (happen x es) fs
happen-append x [] fs = refl
happen-append x (e ∷ es) fs = happen-append (happened x e) es fs

module _ (c : ℕ) where
  same : (v w : World) → v.clients ≡ w.clients → account v c ≡ account w c
  same v w e = ap (λ (m : FinMap nat_cmp Slot). (slot_in (get m c)).account) e

  -- what happens to another client, or to this one
  own : (w v : World) (d : ℕ) (es : List Event) → (d ≡ c → account v c ≡ happen (account w c) es) → ((d ≡ c → ⊥) → account v c ≡ account w c) → account v c ≡ happen (account w c) (if_own c d es)
  own w v d es f g = ⊎_elim
      (λ e. f e ∙ ap (λ b. happen (account w c) (cond b es [])) (sym (eq-eqb d c e)))
      (λ e. g e ∙ ap (λ b. happen (account w c) (cond b es [])) (sym (ne_eqb d c e)))
      (cases_eq d c)

  -- the client d comes to have this slot
  put : (w u : World) (d : ℕ) (q : Slot) (es : List Event) → u.clients ≡ w.clients → q.account ≡ happen (account w d) es → account (World.with_slot u d q) c ≡ happen (account w c) (if_own c d es)
  put w u d q es i e = own w (World.with_slot u d q) d es
      (λ j. subst (λ n. account (World.with_slot u d q) n ≡ happen (account w n) es) j (ap (λ (z : Slot). z.account) (slot_same u d q) ∙ e))
      (λ j. ap (λ (z : Slot). z.account) (slot_other u d c q (λ k. j (sym k))) ∙ same u w i)

  -- with that client left as it was
  kept : (w v : World) (d : ℕ) (es : List Event) → v.clients ≡ w.clients → account w d ≡ happen (account w d) es → account v c ≡ happen (account w c) (if_own c d es)
  kept w v d es i e = own w v d es (λ j. same v w i ∙ subst (λ n. account w n ≡ happen (account w n) es) j e) (λ j. same v w i)

  -- and frames sent after it
  put_sent : (w u v : World) (d : ℕ) (q : Slot) (es : List Event) → v.clients ≡ (World.with_slot u d q).clients → u.clients ≡ w.clients → q.account ≡ happen (account w d) es → account v c ≡ happen (account w c) (if_own c d es)
  put_sent w u v d q es s i e = same v (World.with_slot u d q) s ∙ put w u d q es i e

  module _ (w : World) (number d : ℕ) where
    abbrev p : Slot
    p = slot w d

    abbrev After : World → lines.Call → Type 0
    After v call = account v c ≡ happen (account w c) (if_own c d (Called call ∷ []))

    edits : (e : _) (r : Result calls.Done EditFault) → calls.edit p.account e ≡ r → After (World.edit_out w number d p r).world (lines.Edits e)
    edits e (Err fault) i = kept w w d _ refl (sym (ap (done_or p.account) i))
    edits e (Ok out) i = put w w d _ _ refl (sym (ap (done_or p.account) i))

    begins : (r : Result Account calls.BatchFault) → calls.batch_begin p.account ≡ r → After (World.begin_out w number d p r).world lines.Begin
    begins (Err fault) i = kept w w d _ refl (sym (ap (account_or p.account) i))
    begins (Ok y) i = put w w d _ _ refl (sym (ap (account_or p.account) i))

    ends : (r : Result calls.Done calls.BatchFault) → calls.batch_end p.account ≡ r → After (World.end_out w number d p r).world lines.End
    ends (Err fault) i = kept w w d _ refl (sym (ap (done_or p.account) i))
    ends (Ok out) i = put w w d _ _ refl (sym (ap (done_or p.account) i))

    backs : (es : List Event) (r : Result (Option calls.Done) calls.UndoFault) → back_or p.account r ≡ happen p.account es → account (World.back_out w number d p r).world c ≡ happen (account w c) (if_own c d es)
    backs es (Err fault) i = kept w w d es refl i
    backs es (Ok None) i = kept w w d es refl i
    backs es (Ok (Some out)) i = put w w d _ es refl i

    says : (es : List Event) (r : Result Account calls.SayFault) → account_or p.account r ≡ happen p.account es → account (World.say_out w number d p r).world c ≡ happen (account w c) (if_own c d es)
    says es (Err fault) i = kept w w d es refl i
    says es (Ok y) i = put w w d _ es refl i

    speaks : (y : Account) (fs : List (List ClientMsg)) (es : List Event) → y ≡ happen p.account es → account (World.speaks w d p y fs).world c ≡ happen (account w c) (if_own c d es)
    speaks y fs es i =
        let q = World.with_account p y in
        put_sent w w (World.send_present (World.with_slot w d q) p.present fs) d q es (present_clients (World.with_slot w d q) p.present fs) refl i

    cuts : (y : Account) (es : List Event) → y ≡ happen p.account es → account (World.with_slot (World.cut_present w p.present) d (record { account = y; present = None; noticed = p.noticed })) c ≡ happen (account w c) (if_own c d es)
    cuts y es i = put w (World.cut_present w p.present) d (record { account = y; present = None; noticed = p.noticed }) es (cut_clients w p.present) i

    dials : After (World.dial_slot w d p) lines.Dial
    dials =
        let v = World.open_conn (World.cut_present w p.present) (Some d) in
        let q : Slot = record { account = calls.dialled p.account; present = Some (w.opened + 1); noticed = p.noticed } in
        let u = World.with_slot v d q in
        put_sent w v (World.dial_slot w d p) d q (Called lines.Dial ∷ []) (send_clients u (w.opened + 1) _ (World.is_attached u (w.opened + 1)) (get u.conns (w.opened + 1))) (cut_clients w p.present) refl

    call_after : (call : lines.Call) → After (World.client_calls w number d p call).world call
    call_after lines.Dial = dials
    call_after (lines.Edits e) = edits e (calls.edit p.account e) refl
    call_after lines.Begin = begins (calls.batch_begin p.account) refl
    call_after lines.End = ends (calls.batch_end p.account) refl
    call_after lines.Undo = backs (Called lines.Undo ∷ []) (calls.go_back calls.Undo p.account) refl
    call_after lines.Redo = backs (Called lines.Redo ∷ []) (calls.go_back calls.Redo p.account) refl
    call_after lines.Pause = put w w d _ _ refl refl
    call_after lines.Resume = put w w d _ _ refl refl
    call_after lines.Clear = put w w d _ _ refl refl
    call_after (lines.Presence patch in_history) = says (Called (lines.Presence patch in_history) ∷ []) (calls.presence p.account patch in_history) refl
    call_after (lines.Event e) = says (Called (lines.Event e) ∷ []) (calls.event p.account e) refl
    call_after lines.Flush = speaks (calls.flushed p.account) (calls.flush_frames p.account) (Called lines.Flush ∷ []) refl
    call_after lines.Resend = speaks (calls.resent p.account) (calls.resend_frames p.account) (Called lines.Resend ∷ []) refl
    call_after lines.Cut = cuts (calls.lost p.account) (Called lines.Cut ∷ []) refl

    -- what comes down

    frame_after : (k : ℕ) (es : List Event) (r : Result Receive.Received Receive.Refusal) → ((out : Receive.Received) → r ≡ Ok out → out.account ≡ happen p.account es) → ((out : Receive.Refusal) → r ≡ Err out → out.account ≡ happen p.account es)
        → account (World.frame_taken w number d k p r).world c ≡ happen (account w c) (if_own c d es)
    frame_after k es (Err out) f g = cuts out.account es (g out refl)
    frame_after k es (Ok out) f g =
        let q : Slot = record { account = out.account; present = p.present; noticed = out.notices } in
        let u = World.with_slot w d q in
        put_sent w w (World.send_inbound u k (map World.inbound_frame out.replies)) d q es (send_clients u k (map World.inbound_frame out.replies) (World.is_attached u k) (get u.conns k)) refl (f out refl)

    next_after : (k : ℕ) (m : ServerMsg) (r : Result Receive.Received Receive.FrameFault) → Receive.receive p.account m ≡ r
        → account (World.frame_taken w number d k p (Receive.or_lost p.account r)).world c ≡ happen (account w c) (if_own c d (Arrived m ∷ []))
    next_after k m (Err fault) i = cuts (calls.lost p.account) (Arrived m ∷ []) (sym (ap (received_or p.account) i))
    next_after k m (Ok out) i =
        let q : Slot = record { account = out.account; present = p.present; noticed = out.notices } in
        let u = World.with_slot w d q in
        put_sent w w (World.send_inbound u k (map World.inbound_frame out.replies)) d q (Arrived m ∷ []) (send_clients u k (map World.inbound_frame out.replies) (World.is_attached u k) (get u.conns k)) refl (sym (ap (received_or p.account) i))

    takes_after : (k : ℕ) (m : Outbound) → account (World.client_takes w number d k p m).world c ≡ happen (account w c) (if_own c d (arrives_as m))
    takes_after k Pong =
        let q : Slot = record { account = p.account; present = p.present; noticed = [] } in
        let u = World.with_slot w d q in
        put_sent w w (World.send_inbound u k []) d q [] (send_clients u k [] (World.is_attached u k) (get u.conns k)) refl refl
    takes_after k (Message n) = subst (λ r. account (World.frame_taken w number d k p r).world c ≡ happen (account w c) (if_own c d (Arrived n ∷ []))) (sym (receive_one p.account n)) (next_after k n (Receive.receive p.account n) refl)
    takes_after k (Closed code text) = cuts (calls.lost p.account) (Ended ∷ []) refl

  -- with the outbound queue one shorter, which no account sees
  link_after : (w : World) (k : ℕ) (m : Outbound) → account (World.link_takes w k m).world c ≡ account w c
  link_after w k Pong = refl
  link_after w k (Message m) = refl
  link_after w k (Closed code text) = refl

  owner_after : (w : World) (number k : ℕ) (m : Outbound) (ms : List Outbound) (o : Option ℕ) → account (World.owner_takes w number k m o).world c ≡ happen (account w c) (owned_events c o (m ∷ ms))
  owner_after w number k m ms None = link_after w k m
  owner_after w number k m ms (Some d) = takes_after w number d k m

  own_none : (w : World) (o : Option ℕ) → account w c ≡ happen (account w c) (owned_events c o [])
  own_none w None = refl
  own_none w (Some d) = kept w w d [] refl refl

  from_after : (w : World) (number k : ℕ) (q : Conn) (ds : List Outbound) → account (World.outbound_from w number k q ds).world c ≡ happen (account w c) (owned_events c q.owner ds)
  from_after w number k q [] = own_none w q.owner
  from_after w number k q (m ∷ ms) = owner_after (World.with_conn w k (record q { outbound = ms })) number k m ms q.owner

  outbound_after : (w : World) (number k : ℕ) (o : Option Conn) → account (World.outbound_at w number k o).world c ≡ happen (account w c) (outbound_events c o)
  outbound_after w number k None = refl
  outbound_after w number k (Some q) = from_after w number k q q.outbound

  -- any line

  conn_after : (w : World) (number k : ℕ) (traffic : lines.Traffic) → account (World.conn_line w number k traffic).world c ≡ happen (account w c) (traffic_events w c k traffic)
  conn_after w number k lines.Up = same (World.server_receives w k).world w (server_receives_clients w k (get w.conns k))
  conn_after w number k lines.Down = outbound_after w number k (get w.conns k)
  conn_after w number k lines.Gone = same (World.goes w k) w (gone_clients w k w.host (World.is_attached w k))
  conn_after w number k (lines.Raw text) = same (World.raw_at w k text (get w.conns k)) w (raw_clients w k text (get w.conns k))

  server_after : (w : World) (service : lines.Service) → account (World.server_line w service).world c ≡ account w c
  server_after w lines.Stop = same (World.stop w w.host) w (stop_clients w w.host)
  server_after w lines.Start = same (World.start w w.host).world w (start_clients w w.host)
  server_after w (lines.Fuse n how) = refl
  server_after w lines.Compact = same (World.compact w w.host) w (compact_clients w w.host)
  server_after w (lines.Limit updates sessions) = refl
  server_after w lines.ShowServer = refl
  server_after w lines.BriefServer = refl

  -- a drain, move by move

  stays : (w : World) (number n : ℕ) → World.drain_next w number ≡ None → account (World.drain w number n).world c ≡ account w c
  unfolding World.drain
  stays w number zero e = refl
  stays w number (suc n) e = ap (λ o. account (World.drain (World.or_quiet w o).world number n).world c) e ∙ stays w number n e

  module _ (w : World) (number n : ℕ) (rest : (v : World) → account (World.drain v number n).world c ≡ happen (account v c) (moved_events n v number c)) where
    next_move_after : (inbound outbound : Option ℕ) → World.least World.has_inbound (entries w.conns) ≡ inbound → World.least World.has_outbound (entries w.conns) ≡ outbound →
        account (World.drain (World.or_quiet w (World.drain_step w number inbound outbound)).world number n).world c
        ≡ happen (account w c) (where_some (move inbound outbound) (λ m. traffic_events w c m.0 m.1 ++ moved_events n (World.conn_line w number m.0 m.1).world number c))
    next_move_after (Some k) outbound e f =
        rest (World.server_receives w k).world ∙ ap (λ z. happen z (moved_events n (World.server_receives w k).world number c)) (conn_after w number k lines.Up)
    next_move_after None (Some k) e f =
        rest (World.peer_receives w number k).world ∙ ap (λ z. happen z (moved_events n (World.peer_receives w number k).world number c)) (conn_after w number k lines.Down)
        ∙ sym (happen-append (account w c) (traffic_events w c k lines.Down) (moved_events n (World.peer_receives w number k).world number c))
    next_move_after None None e f =
        stays w number n (ap (λ o. World.drain_step w number o (World.least World.has_outbound (entries w.conns))) e ∙ ap (World.drain_step w number None) f)

  drains : (number n : ℕ) (w : World) → account (World.drain w number n).world c ≡ happen (account w c) (moved_events n w number c)
  unfolding World.drain
  drains number zero w = refl
  drains number (suc n) w = next_move_after w number n (drains number n) (World.least World.has_inbound (entries w.conns)) (World.least World.has_outbound (entries w.conns)) refl refl

  pub step_after : (w : World) (number : ℕ) (l : lines.Line) → account (World.step w number l).world c ≡ happen (account w c) (line_events w c number l)
  step_after w number (lines.OfClient d call) = call_after w number d call
  step_after w number (lines.AsksClient d question) = refl
  step_after w number (lines.OfConnection k traffic) = conn_after w number k traffic
  step_after w number (lines.OfServer service) = server_after w service
  step_after w number (lines.Drain n) = drains number n w
  step_after w number lines.Link = refl

pub follows_events : FollowsEvents
follows_events r c [] = refl
follows_events r c (l ∷ ls) = follows_events (line r l.0 l.1) c ls
    ∙ ap (λ x. happen x (events (World.step r.world l.0 l.1).world c ls)) (step_after c r.world l.0 l.1)
    ∙ sym (happen-append (account r.world c) (line_events r.world c l.0 l.1) (events (World.step r.world l.0 l.1).world c ls))
