-- Undoing alone, over lines.
use Rattle.std.proofs.Common.{◌≡◌, ℕ, zero, suc, ◌+◌, ◌-◌, ◌<◌, ◌≤◌, ◌==◌, Bool, true, false, cond, not, nat_lt, List, [], ◌∷◌, ◌++◌, refl, sym, ap, ◌∙◌, subst, arith, append_assoc}
use Rattle.std.specs.Prelude.{Option, Some, None, Result, Ok, Err}
use Rattle.std.specs.FinMap.{get}
use Rattle.room_json.specs.Value.{Value, depth}
use Rattle.room_json.specs.View.{json_of}
use Rattle.room_json.specs.declared.tree.Json.{Json}
use Rattle.room_nodes.specs.declared.nodes.Change.{Change}
use Rattle.room_nodes.specs.declared.nodes.Op.{Op}
use Rattle.room_nodes.specs.Equal.{are_first}
use Rattle.room_nodes.specs.Shape.{Nodes}
use Rattle.room_steps.proofs.Reversing.{reversible}
use Rattle.room_steps.proofs.Sound.{keeps_sound}
use Rattle.room_msg.specs.declared.messages.ServerMsg.{ServerMsg}
use Rattle.room_msg.specs.declared.messages.ServerMsg.TheVariants as server
use Rattle.room_log.specs.Log.{State, bodies_of}
use Rattle.room_log.specs.Follows.{IsValidState}
use Rattle.room_model.specs.Account.{Account, Part, Stage, Idle, Dialled, Connected, Synced, actor, all_bodies, bodies_in, clocks, is_on, issued, last_issued, pending, shown, shown_over, size_of, frame_of_event}
use Rattle.room_model.specs.Calls as calls
use Rattle.room_model.specs.Receive
use Rattle.room_model.specs.Edits.{Edit, EditFault, Made, make}
use Rattle.room_model.specs.History.{redo_entry}
use Rattle.room_model.specs.Lines as lines
use Rattle.room_model.specs.Lines.{Call, Line}
use Rattle.room_model.specs.Server.{Outbound, Pong, Message, Closed}
use Rattle.room_model.specs.Sound.{AreValidBodies, AreValidChanges, ClocksRunOn, IsCall, IsLine, IsSound, IsSoundEdit, IsValidTree}
use Rattle.room_model.specs.World
use Rattle.room_model.specs.World.{World, Conn, account}
use Rattle.room_model.specs.Run.{Run, run, line, opened}
use Rattle.room_laws.specs.Alone.{AlwaysAlone, AreAlone, IsCallAlone, IsOwnMessage, TakesOne, call_count, counted, event_count, if_back, if_done, if_given}
use Rattle.room_laws.specs.Back.{LeadsBack, Reverses, edit_count, end_count, presence_count}
use Rattle.room_laws.specs.Events.{Event, Called, Arrived, Ended, account_or, back_or, called, done_or, outbound_events, events, first_as, happen, happened, line_events, moved_events, owned_events, received_or, traffic_events}
use Rattle.room_laws.specs.Moves.{next_move, where_some}
use Rattle.room_laws.specs.Open.{brings_none}
use Rattle.room_laws.specs.Validity.{AreLines, AreSpelled, SoundAccounts}
use Rattle.room_laws.proofs.Alone.{back_as, shown_same, undoes_alone}
use Rattle.room_laws.proofs.Bare.{receive_leaves, reaches}
use Rattle.room_laws.proofs.ClocksKept.{keeps_clocks}
use Rattle.room_laws.proofs.EditMakes.{made_valid}
use Rattle.room_laws.proofs.Facts.{ok_is, under}
use Rattle.room_laws.proofs.Histories.{holds_entry}
use Rattle.room_laws.proofs.Open.{receive_same, event_at, flushed_same, resent_same}
use Rattle.room_laws.proofs.OwnUpdate.{own_update}
use Rattle.room_laws.proofs.Slots.{step_after}
use Rattle.room_laws.proofs.SoundCalls.{actor_bound}
use Rattle.room_laws.proofs.UndoSound.{lines_front, run-append}
use Rattle.room_laws.proofs.Validity.{changes_append, entry_valid, shown_valid}

module _ (t : Nodes) where
  -- what leaves the confirmed tree, what is issued, the batch and the history
  same_leads : (k : ℕ) (x y : Account) → y.confirmed ≡ x.confirmed → issued y ≡ issued x → y.batch ≡ x.batch → y.history ≡ x.history → LeadsBack t k x → LeadsBack t k y
  same_leads k x y c i b h l =
      let shows : shown y ≡ shown x = ap (shown_over y) c ∙ shown_same x y x.confirmed (ap (λ z. all_bodies z ++ bodies_in y.batch) i ∙ ap (λ z. all_bodies (issued x) ++ bodies_in z) b) in
      undoes_alone.same t k x y shows b h l

  flushed_history : (x : Account) (g : Stage) → x.stage ≡ g → (calls.flushed x).history ≡ x.history
  flushed_history x Idle e = rw e refl
  flushed_history x Dialled e = rw e refl
  flushed_history x Connected e = rw e refl
  flushed_history x Synced e = rw e refl

  resent_history : (x : Account) (g : Stage) → x.stage ≡ g → (calls.resent x).history ≡ x.history
  resent_history x Idle e = rw e refl
  resent_history x Dialled e = rw e refl
  resent_history x Connected e = rw e refl
  resent_history x Synced e = rw e refl

  event_history : (x y : Account) (e : Json) (b c : Bool) (f g : calls.SayFault) (size : ℕ) → cond b (Err f) (cond c (Err g) (calls.event_sized x e size)) ≡ Ok y → y.history ≡ x.history
  event_history x y e true c f g size p = cc
  event_history x y e false true f g size p = cc
  event_history x y e false false f g size p = ap (λ (z : Account). z.history) (sym (under (nat_lt _ size) _ (record x { events = x.events ++ e ∷ [] }) y p))

  -- calls

  module _ (k : ℕ) (x : Account) (h : LeadsBack t k x) (sound : IsSound x) where
    edit_reverses : (e : Edit) → IsSoundEdit e → (u : Nodes) (m : Made) → shown x ≡ Some u → make u (clocks x) e ≡ Ok m → Reverses u (bodies_of m.ops)
    edit_reverses e s u m shows makes =
        let v : IsValidTree u = shown_valid x u sound shows in
        let made = made_valid u (clocks x) e m v s (actor_bound x.session sound.session) sound.node sound.own.next makes in
        reversible u (bodies_of m.ops) v.formed (keeps_sound.ordered u v.sound) (keeps_sound.ordered_bodies (bodies_of m.ops) made.bodies.sound)

    redo_reverses : (u : Nodes) (e : List Change) → shown x ≡ Some u → redo_entry x.history ≡ Some e → Reverses u (calls.entry_bodies e)
    redo_reverses u e shows f =
        let v : IsValidTree u = shown_valid x u sound shows in
        let valid : AreValidBodies (calls.entry_bodies e) = entry_valid e (holds_entry AreValidChanges tt changes_append calls.Redo x.history e sound.history f) in
        reversible u (calls.entry_bodies e) v.formed (keeps_sound.ordered u v.sound) (keeps_sound.ordered_bodies (calls.entry_bodies e) valid.sound)

    edits : (e : Edit) (r : Result calls.Done EditFault) → IsSoundEdit e → calls.edit x e ≡ r → if_done r (edit_count x k) k ≤ 50 → LeadsBack t (if_done r (edit_count x k) k) (done_or x r)
    edits e (Err fault) s i l = h
    edits e (Ok out) s i l = undoes_alone.edit t k x e out h l (edit_reverses e s) i

    begins : (r : Result Account calls.BatchFault) → calls.batch_begin x ≡ r → LeadsBack t k (account_or x r)
    begins (Err fault) i = h
    begins (Ok y) i = undoes_alone.batch_begin t k x y h i

    ends : (r : Result calls.Done calls.BatchFault) → calls.batch_end x ≡ r → if_done r (λ out. end_count x k) k ≤ 50 → LeadsBack t (if_done r (λ out. end_count x k) k) (done_or x r)
    ends (Err fault) i l = h
    ends (Ok out) i l = undoes_alone.batch_end t k x out h l i

    redoes : (r : Result (Option calls.Done) calls.UndoFault) → calls.go_back calls.Redo x ≡ r → if_back r (suc k) k ≤ 50 → LeadsBack t (if_back r (suc k) k) (back_or x r)
    redoes (Err fault) i l = h
    redoes (Ok None) i l = h
    redoes (Ok (Some out)) i l = undoes_alone.redo t k x out h l redo_reverses i

    says : (patch : List (List ℕ × Value)) (in_history : Bool) (r : Result Account calls.SayFault) → calls.presence x patch in_history ≡ r → if_given r (presence_count x k patch in_history) k ≤ 50
        → LeadsBack t (if_given r (presence_count x k patch in_history) k) (account_or x r)
    says patch in_history (Err fault) i l = h
    says patch in_history (Ok y) i l = undoes_alone.presence t k x y patch in_history h l i

    tells : (e : Json) (r : Result Account calls.SayFault) → calls.event x e ≡ r → LeadsBack t k (account_or x r)
    tells e (Err fault) i = h
    tells e (Ok y) i =
        let s = event_at x y e (not (is_on x.stage)) (nat_lt 50 (depth (json_of e))) calls.NotConnected (calls.ValueTooDeep (depth (json_of e))) (size_of (frame_of_event e)) i in
        same_leads k x y s.confirmed s.issued s.batch (event_history x y e (not (is_on x.stage)) (nat_lt 50 (depth (json_of e))) calls.NotConnected (calls.ValueTooDeep (depth (json_of e))) (size_of (frame_of_event e)) i) h

  undone_one : (k : ℕ) (x : Account) (out : calls.Done) → 0 < k → LeadsBack t k x → calls.go_back calls.Undo x ≡ Ok (Some out) → LeadsBack t (k - 1) out.account
  undone_one zero x out l h i = absurd (omega (arith, l))
  undone_one (suc k) x out l h i = let e : suc k - 1 ≡ k = omega arith in subst (λ n. LeadsBack t n out.account) (sym e) (undoes_alone.undo t k x out h i)

  undoes : (k : ℕ) (x : Account) (r : Result (Option calls.Done) calls.UndoFault) → LeadsBack t k x → calls.go_back calls.Undo x ≡ r → TakesOne r k → LeadsBack t (if_back r (k - 1) k) (back_or x r)
  undoes k x (Err fault) h i a = h
  undoes k x (Ok None) h i a = h
  undoes k x (Ok (Some out)) h i a = undone_one k x out a h i

  call_leads : (k : ℕ) (x : Account) (call : Call) → IsSound x → IsCall call → LeadsBack t k x → IsCallAlone x k call → call_count x call k ≤ 50 → LeadsBack t (call_count x call k) (called x call)
  call_leads k x lines.Dial s i h a l = same_leads k x (calls.dialled x) refl refl refl refl h
  call_leads k x (lines.Edits e) s i h a l = edits k x h s e (calls.edit x e) i refl l
  call_leads k x lines.Begin s i h a l = begins k x h s (calls.batch_begin x) refl
  call_leads k x lines.End s i h a l = ends k x h s (calls.batch_end x) refl l
  call_leads k x lines.Undo s i h a l = undoes k x (calls.go_back calls.Undo x) h refl a
  call_leads k x lines.Redo s i h a l = redoes k x h s (calls.go_back calls.Redo x) refl l
  call_leads k x lines.Pause s i h a l = undoes_alone.pause t k x h
  call_leads k x lines.Resume s i h a l = undoes_alone.resume t k x h
  call_leads k x lines.Clear s i h a l = absurd a
  call_leads k x (lines.Presence patch in_history) s i h a l = says k x h s patch in_history (calls.presence x patch in_history) refl l
  call_leads k x (lines.Event e) s i h a l = tells k x h s e (calls.event x e) refl
  call_leads k x lines.Flush s i h a l = let f = flushed_same x x.stage refl in same_leads k x (calls.flushed x) f.confirmed f.issued f.batch (flushed_history x x.stage refl) h
  call_leads k x lines.Resend s i h a l = let f = resent_same x x.stage refl in same_leads k x (calls.resent x) f.confirmed f.issued f.batch (resent_history x x.stage refl) h
  call_leads k x lines.Cut s i h a l = same_leads k x (calls.lost x) refl refl refl refl h

  -- messages

  told_shows : (x : Account) (os : List Op) (u : Nodes) (r : Result ℕ (ℕ × ℕ)) (out : Receive.Received) → ClocksRunOn x → x.confirmed ≡ Some u → Receive.told_by (actor x) (last_issued x) x.told os ≡ r → are_first os (pending x) ≡ true
      → Receive.update_told x os u r ≡ Ok out → shown out.account ≡ shown x
  told_shows x os u (Err f) out runs c i first p = cc
  told_shows x os u (Ok told) out runs c i first p = ap (λ (z : Receive.Received). shown z.account) (sym (ok_is _ out p)) ∙ own_update x os told u runs c i first

  on_shows : (x : Account) (os : List Op) (o : Option Nodes) (out : Receive.Received) → ClocksRunOn x → x.confirmed ≡ o → are_first os (pending x) ≡ true → Receive.update_on x os o ≡ Ok out → shown out.account ≡ shown x
  on_shows x os None out runs c first p = cc
  on_shows x os (Some u) out runs c first p = told_shows x os u (Receive.told_by (actor x) (last_issued x) x.told os) out runs c refl first p

  parts_show : (x : Account) (seq : ℕ) (os : List Op) (ps : List Part) (out : Receive.Received) → ClocksRunOn x → are_first os (pending x) ≡ true → Receive.update_synced x seq os ps ≡ Ok out → shown out.account ≡ shown x
  parts_show x seq os [] out runs first p = on_shows x os x.confirmed out runs refl first (reaches (seq == x.n + 1) _ (Receive.update_on x os x.confirmed) out p)
  parts_show x seq os (q ∷ qs) out runs first p = cc

  update_shows : (x : Account) (seq : ℕ) (os : List Op) (g : Stage) (out : Receive.Received) → ClocksRunOn x → are_first os (pending x) ≡ true → Receive.receive_update x seq os g ≡ Ok out → shown out.account ≡ shown x
  update_shows x seq os Idle out runs first p = cc
  update_shows x seq os Dialled out runs first p = cc
  update_shows x seq os Connected out runs first p = cc
  update_shows x seq os Synced out runs first p = parts_show x seq os x.parts out runs first p

  quiet_leads : (k : ℕ) (x : Account) (m : ServerMsg) (out : Receive.Received) → brings_none m ≡ true → Receive.receive x m ≡ Ok out → LeadsBack t k x → LeadsBack t k out.account
  quiet_leads k x m out b p h = let s = receive_same x m out b p in same_leads k x out.account s.confirmed s.issued s.batch (receive_leaves x m out p).history h

  received_leads : (k : ℕ) (x : Account) (m : ServerMsg) (out : Receive.Received) → ClocksRunOn x → LeadsBack t k x → IsOwnMessage x m → Receive.receive x m ≡ Ok out → LeadsBack t k out.account
  received_leads k x (server.Presence a target patch) out runs h o p = quiet_leads k x (server.Presence a target patch) out refl p h
  received_leads k x (server.Joined a) out runs h o p = quiet_leads k x (server.Joined a) out refl p h
  received_leads k x (server.Left a) out runs h o p = quiet_leads k x (server.Left a) out refl p h
  received_leads k x (server.Broadcast a e) out runs h o p = quiet_leads k x (server.Broadcast a e) out refl p h
  received_leads k x (server.RoomState a key users) out runs h o p = quiet_leads k x (server.RoomState a key users) out refl p h
  received_leads k x (server.State seq last items more) out runs h o p = absurd o
  received_leads k x (server.Update seq os) out runs h o p =
      let l = receive_leaves x (server.Update seq os) out p in
      undoes_alone.same t k x out.account (update_shows x seq os x.stage out runs o p) l.batch l.history h

  receive_leads : (k : ℕ) (x : Account) (m : ServerMsg) (r : Result Receive.Received Receive.FrameFault) → ClocksRunOn x → LeadsBack t k x → IsOwnMessage x m → Receive.receive x m ≡ r → LeadsBack t k (received_or x r)
  receive_leads k x m (Err fault) runs h o p = same_leads k x (calls.lost x) refl refl refl refl h
  receive_leads k x m (Ok out) runs h o p = received_leads k x m out runs h o p

  receive_runs : (x : Account) (m : ServerMsg) (r : Result Receive.Received Receive.FrameFault) → ClocksRunOn x → Receive.receive x m ≡ r → ClocksRunOn (received_or x r)
  receive_runs x m (Err fault) h p = keeps_clocks.lost x h
  receive_runs x m (Ok out) h p = keeps_clocks.receive x m out h p

  -- what comes down in a line

  abbrev NoCalls : List Event → Type 0
  NoCalls [] = Unit {0}
  NoCalls (Called call ∷ es) = ⊥
  NoCalls (Arrived m ∷ es) = NoCalls es
  NoCalls (Ended ∷ es) = NoCalls es

  arrivals_lead : (k : ℕ) (x : Account) (es : List Event) → NoCalls es → ClocksRunOn x → LeadsBack t k x → AreAlone x k es → LeadsBack t (counted x k es) (happen x es)
  arrivals_lead k x [] n runs h a = h
  arrivals_lead k x (Called call ∷ es) n runs h a = absurd n
  arrivals_lead k x (Arrived m ∷ es) n runs h a = arrivals_lead k (received_or x (Receive.receive x m)) es n (receive_runs x m (Receive.receive x m) runs refl) (receive_leads k x m (Receive.receive x m) runs h a.0 refl) a.2
  arrivals_lead k x (Ended ∷ es) n runs h a = arrivals_lead k (calls.lost x) es n (keeps_clocks.lost x runs) (same_leads k x (calls.lost x) refl refl refl refl h) a.2

  no_calls_append : (es fs : List Event) → NoCalls es → NoCalls fs → NoCalls (es ++ fs)
  no_calls_append [] fs h k = k
  no_calls_append (Called call ∷ es) fs h k = absurd h
  no_calls_append (Arrived m ∷ es) fs h k = no_calls_append es fs h k
  no_calls_append (Ended ∷ es) fs h k = no_calls_append es fs h k

  first_calls_none : (ms : List Outbound) → NoCalls (first_as ms)
  first_calls_none [] = tt
  first_calls_none (Pong ∷ ms) = tt
  first_calls_none (Message m ∷ ms) = tt
  first_calls_none (Closed code text ∷ ms) = tt

  if_none : (b : Bool) (es : List Event) → NoCalls es → NoCalls (cond b es [])
  if_none true es h = h
  if_none false es h = tt

  owned_none : (c : ℕ) (o : Option ℕ) (ms : List Outbound) → NoCalls (owned_events c o ms)
  owned_none c None ms = tt
  owned_none c (Some d) ms = if_none (d == c) (first_as ms) (first_calls_none ms)

  outbound_none : (c : ℕ) (o : Option Conn) → NoCalls (outbound_events c o)
  outbound_none c None = tt
  outbound_none c (Some q) = owned_none c q.owner q.outbound

  traffic_none : (w : World) (c k : ℕ) (traffic : lines.Traffic) → NoCalls (traffic_events w c k traffic)
  traffic_none w c k lines.Up = tt
  traffic_none w c k lines.Down = outbound_none c (get w.conns k)
  traffic_none w c k lines.Gone = tt
  traffic_none w c k (lines.Raw text) = tt

  moved_by : (w : World) (number c n : ℕ) (o : Option (ℕ × lines.Traffic)) → ((v : World) → NoCalls (moved_events n v number c))
      → NoCalls (where_some o (λ m. traffic_events w c m.0 m.1 ++ moved_events n (World.conn_line w number m.0 m.1).world number c))
  moved_by w number c n None f = tt
  moved_by w number c n (Some m) f = no_calls_append (traffic_events w c m.0 m.1) (moved_events n (World.conn_line w number m.0 m.1).world number c) (traffic_none w c m.0 m.1) (f (World.conn_line w number m.0 m.1).world)

  moved_none : (n : ℕ) (w : World) (number c : ℕ) → NoCalls (moved_events n w number c)
  moved_none zero w number c = tt
  moved_none (suc n) w number c = moved_by w number c n (next_move w) (λ v. moved_none n v number c)

  -- any line

  own_leads : (k : ℕ) (x : Account) (call : Call) (b : Bool) → IsSound x → IsCall call → LeadsBack t k x → AreAlone x k (cond b (Called call ∷ []) []) → LeadsBack t (counted x k (cond b (Called call ∷ []) [])) (happen x (cond b (Called call ∷ []) []))
  own_leads k x call true s i h a = call_leads k x call s i h a.0 a.1
  own_leads k x call false s i h a = h

  line_leads : (k : ℕ) (w : World) (c number : ℕ) (l : Line) → IsSound (account w c) → IsLine l → LeadsBack t k (account w c) → AreAlone (account w c) k (line_events w c number l)
      → LeadsBack t (counted (account w c) k (line_events w c number l)) (happen (account w c) (line_events w c number l))
  line_leads k w c number (lines.OfClient d call) s i h a = own_leads k (account w c) call (d == c) s i.1 h a
  line_leads k w c number (lines.AsksClient d question) s i h a = h
  line_leads k w c number (lines.OfConnection j traffic) s i h a = arrivals_lead k (account w c) (traffic_events w c j traffic) (traffic_none w c j traffic) s.own.runs h a
  line_leads k w c number (lines.OfServer service) s i h a = h
  line_leads k w c number (lines.Drain n) s i h a = arrivals_lead k (account w c) (moved_events n w number c) (moved_none n w number c) s.own.runs h a
  line_leads k w c number lines.Link s i h a = h

alone_front : (x : Account) (k : ℕ) (es fs : List Event) → AreAlone x k (es ++ fs) → AreAlone x k es
alone_front x k [] fs h = tt
alone_front x k (e ∷ es) fs h = (h.0, h.1, alone_front (happened x e) (event_count x e k) es fs h.2)

alone_back : (x : Account) (k : ℕ) (es fs : List Event) → AreAlone x k (es ++ fs) → AreAlone (happen x es) (counted x k es) fs
alone_back x k [] fs h = h
alone_back x k (e ∷ es) fs h = alone_back (happened x e) (event_count x e k) es fs h.2

counted-append : (x : Account) (k : ℕ) (es fs : List Event) → counted x k (es ++ fs) ≡ counted (happen x es) (counted x k es) fs
counted-append x k [] fs = refl
counted-append x k (e ∷ es) fs = counted-append (happened x e) (event_count x e k) es fs

spelled_next : (done : List (ℕ × Line)) (l : ℕ × Line) (ls : List (ℕ × Line)) → AreSpelled (done ++ l ∷ ls) → IsLine l.1
spelled_next [] l ls h = h.0
spelled_next (d ∷ done) l ls h = spelled_next done l ls h.1

module _ (accounts : SoundAccounts) (s : State) (valid : IsValidState s) (c : ℕ) (t : Nodes) where
  lines_lead : (done ms : List (ℕ × Line)) (k : ℕ) → AreLines (done ++ ms) → LeadsBack t k (account (run (opened s) done).world c) → AreAlone (account (run (opened s) done).world c) k (events (run (opened s) done).world c ms)
      → LeadsBack t (counted (account (run (opened s) done).world c) k (events (run (opened s) done).world c ms)) (account (run (run (opened s) done) ms).world c)
  lines_lead done [] k a h b = h
  lines_lead done (l ∷ ms) k a h b =
      let r = run (opened s) done in
      let w = r.world in
      let x = account w c in
      let es = line_events w c l.0 l.1 in
      let v = (World.step w l.0 l.1).world in
      let fs = events v c ms in
      let next = done ++ l ∷ [] in
      let there : run (opened s) next ≡ line r l.0 l.1 = run-append done (l ∷ []) (opened s) in
      let more : AreLines (next ++ ms) = subst AreLines (sym (append_assoc done (l ∷ []) ms)) a in
      let step : account v c ≡ happen x es = step_after c w l.0 l.1 in
      let here : LeadsBack t (counted x k es) (account v c) = subst (LeadsBack t (counted x k es)) (sym step)
      (line_leads t k w c l.0 l.1 (accounts s done c valid (lines_front done (l ∷ ms) a)) (spelled_next done l ms a.spelled) h (alone_front x k es fs b)) in
      let rest : AreAlone (account v c) (counted x k es) fs = subst (λ y. AreAlone y (counted x k es) fs) (sym step) (alone_back x k es fs b) in
      let count : counted x k (es ++ fs) ≡ counted (account v c) (counted x k es) fs = counted-append x k es fs ∙ ap (λ y. counted y (counted x k es) fs) (sym step) in
      let all : LeadsBack t (counted (account v c) (counted x k es) fs) (account (run (line r l.0 l.1) ms).world c) =
      subst (λ (z : Run). LeadsBack t (counted x k es) (account z.world c) → AreAlone (account z.world c) (counted x k es) (events z.world c ms) → LeadsBack t (counted (account z.world c) (counted x k es) (events z.world c ms)) (account (run z ms).world c)) there
      (lines_lead next ms (counted x k es) more) here rest in
      subst (λ n. LeadsBack t n (account (run (line r l.0 l.1) ms).world c)) (sym count) all

pub always_alone : SoundAccounts → AlwaysAlone
always_alone accounts s ls ms c k t y h l b a n u =
    let x = account (run (opened s) ls).world c in
    let z = account (run (opened s) (ls ++ ms)).world c in
    let start : LeadsBack t 0 x = undoes_alone.begins t x b.shows b.none b.back b.bare in
    let end : LeadsBack t (suc k) z = subst (λ (r : Run). LeadsBack t (suc k) (account r.world c)) (sym (run-append ls ms (opened s)))
    (subst (λ m. LeadsBack t m (account (run (run (opened s) ls) ms).world c)) n (lines_lead accounts s h c t ls ms 0 l start a)) in
    let closed = (back_as calls.Undo z z.batch u.out refl u.undoes).none in
    undoes_alone.restores t (suc k) z y end closed u
