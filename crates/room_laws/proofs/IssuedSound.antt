-- Each batch that a client issues is valid.
use Rattle.std.proofs.Common.{◌≡◌, ℕ, zero, suc, ◌==◌, inl, inr, Bool, true, false, cond, List, [], ◌∷◌, ◌++◌, refl, sym, subst, append_assoc}
use Rattle.std.specs.Prelude.{Option, Some, None, Result, Ok, Err, ⊤}
use Rattle.std.specs.FinMap.{get, entries}
use Rattle.room_nodes.specs.declared.nodes.Body.{Body}
use Rattle.room_nodes.specs.declared.nodes.Change.{Change}
use Rattle.room_nodes.specs.Shape.{Nodes}
use Rattle.room_msg.specs.declared.messages.ServerFrame.TheVariants.{Msgs}
use Rattle.room_log.specs.Log.{State, bodies_of}
use Rattle.room_log.specs.Follows.{IsValidState}
use Rattle.room_model.specs.Account.{Account, Batch, OpenBatch, shown}
use Rattle.room_model.specs.Calls as calls
use Rattle.room_model.specs.Receive
use Rattle.room_model.specs.Edits.{Edit, EditFault, Made}
use Rattle.room_model.specs.Lines as lines
use Rattle.room_model.specs.Lines.{Line}
use Rattle.room_model.specs.Server
use Rattle.room_model.specs.Server.{Outbound, Pong, Message, Closed, Inbound, Served}
use Rattle.room_model.specs.Sound.{AreValidBatches, AreValidBodies, IsCall, IsLine, IsSound}
use Rattle.room_model.specs.World
use Rattle.room_model.specs.World.{World, Conn, Host, Running, Stopped, Stepped, slot, account}
use Rattle.room_model.specs.Run.{Run, run, line, opened, issued_of}
use Rattle.room_laws.specs.Accounts.{KeepsSound}
use Rattle.room_laws.specs.Ledger.{In}
use Rattle.room_laws.specs.Validity.{AreLines, AreSpelled, SoundAccounts}
use Rattle.room_laws.proofs.Alone.{back_as}
use Rattle.room_laws.proofs.Facts.{ok_is}
use Rattle.room_laws.proofs.Open.{edit_as}
use Rattle.room_laws.proofs.UndoSound.{lines_front, run-append}

abbrev Each : List (ℕ × Batch) → Type 0
Each [] = ⊤
Each (e ∷ es) = AreValidBodies e.1.bodies × Each es

each_append : (es fs : List (ℕ × Batch)) → Each es → Each fs → Each (es ++ fs)
each_append [] fs h k = k
each_append (e ∷ es) fs h k = (h.0, each_append es fs h.1 k)

each_of : (c : ℕ) (bs : List Batch) → AreValidBatches bs → Each (World.issued_by c bs)
each_of c [] h = tt
each_of c (b ∷ bs) h = (h.0, each_of c bs h.1)

valid_back : (bs cs : List Batch) → AreValidBatches (bs ++ cs) → AreValidBatches cs
valid_back [] cs h = h
valid_back (b ∷ bs) cs h = valid_back bs cs h.1

-- what a call issues is among what the account then holds, which is sound

edited_issues : (x : Account) (t : Nodes) (m : Made) (bs : List Body) (o : Option OpenBatch) → IsSound (calls.edited_in x t m bs o) → AreValidBatches (calls.edit_issues x bs o)
edited_issues x t m bs (Some o) h = tt
edited_issues x t m [] None h = tt
edited_issues x t m (b ∷ bs) None h = valid_back x.fresh (calls.batch_of x (b ∷ bs) ∷ []) (valid_back x.sent (x.fresh ++ calls.batch_of x (b ∷ bs) ∷ []) h.own.closed)

edit_issues : (x : Account) (e : Edit) (out : calls.Done) → calls.edit x e ≡ Ok out → IsSound out.account → AreValidBatches out.issues
edit_issues x e out p h =
    let a = edit_as x e (shown x) out p in
    subst (λ (d : calls.Done). IsSound d.account → AreValidBatches d.issues) a.is (edited_issues x a.tree a.made (bodies_of a.made.ops) x.batch) h

closed_issues : (x : Account) (o : OpenBatch) → IsSound (calls.closed x o).account → AreValidBatches (calls.issues_of x o.bodies)
closed_issues x o h = valid_back x.fresh (calls.issues_of x o.bodies) (valid_back x.sent (x.fresh ++ calls.issues_of x o.bodies) h.own.closed)

end_issues : (x : Account) (out : calls.Done) (o : Option OpenBatch) → calls.end_at x o ≡ Ok out → IsSound out.account → AreValidBatches out.issues
end_issues x out None p h = cc
end_issues x out (Some o) p h = subst (λ (d : calls.Done). IsSound d.account → AreValidBatches d.issues) (ok_is (calls.closed x o) out p) (closed_issues x o) h

went_issues : (direction : calls.Direction) (x : Account) (e : List Change) → IsSound (calls.went_back direction x e).account → AreValidBatches (calls.issues_of x (calls.entry_bodies e))
went_issues direction x e h = valid_back x.fresh (calls.issues_of x (calls.entry_bodies e)) (valid_back x.sent (x.fresh ++ calls.issues_of x (calls.entry_bodies e)) h.own.closed)

back_issues : (direction : calls.Direction) (x : Account) (out : calls.Done) → calls.go_back direction x ≡ Ok (Some out) → IsSound out.account → AreValidBatches out.issues
back_issues direction x out p h =
    let a = back_as direction x x.batch out refl p in
    subst (λ (d : calls.Done). IsSound d.account → AreValidBatches d.issues) a.is (went_issues direction x a.entry) h

-- a line of a client

module _ (keep : KeepsSound) (w : World) (n c : ℕ) (sound : IsSound (account w c)) where
  edits : (e : Edit) (r : Result calls.Done EditFault) → IsCall (lines.Edits e) → calls.edit (account w c) e ≡ r → Each (World.edit_out w n c (slot w c) r).issues
  edits e (Err fault) i p = tt
  edits e (Ok out) i p = each_of c out.issues (edit_issues (account w c) e out p (keep.edit (account w c) e out sound i p))

  begins : (r : Result Account calls.BatchFault) → Each (World.begin_out w n c (slot w c) r).issues
  begins (Err fault) = tt
  begins (Ok y) = tt

  ends : (r : Result calls.Done calls.BatchFault) → calls.batch_end (account w c) ≡ r → Each (World.end_out w n c (slot w c) r).issues
  ends (Err fault) p = tt
  ends (Ok out) p = each_of c out.issues (end_issues (account w c) out (account w c).batch p (keep.batch_end (account w c) out sound p))

  backs : (direction : calls.Direction) (r : Result (Option calls.Done) calls.UndoFault) → calls.go_back direction (account w c) ≡ r → Each (World.back_out w n c (slot w c) r).issues
  backs direction (Err fault) p = tt
  backs direction (Ok None) p = tt
  backs direction (Ok (Some out)) p = each_of c out.issues (back_issues direction (account w c) out p (keep.go_back direction (account w c) out sound p))

  says : (r : Result Account calls.SayFault) → Each (World.say_out w n c (slot w c) r).issues
  says (Err fault) = tt
  says (Ok y) = tt

  call_issues : (call : lines.Call) → IsCall call → Each (World.client_calls w n c (slot w c) call).issues
  call_issues lines.Dial i = tt
  call_issues (lines.Edits e) i = edits e (calls.edit (account w c) e) i refl
  call_issues lines.Begin i = begins (calls.batch_begin (account w c))
  call_issues lines.End i = ends (calls.batch_end (account w c)) refl
  call_issues lines.Undo i = backs calls.Undo (calls.go_back calls.Undo (account w c)) refl
  call_issues lines.Redo i = backs calls.Redo (calls.go_back calls.Redo (account w c)) refl
  call_issues lines.Pause i = tt
  call_issues lines.Resume i = tt
  call_issues lines.Clear i = tt
  call_issues (lines.Presence patch in_history) i = says (calls.presence (account w c) patch in_history)
  call_issues (lines.Event e) i = says (calls.event (account w c) e)
  call_issues lines.Flush i = tt
  call_issues lines.Resend i = tt
  call_issues lines.Cut i = tt

-- all other lines issue nothing

fires : (w : World) (es : List _) (b : Bool) (s z : State) → Each (cond b (record { world = World.stopped w s; lines = []; entries = es; issues = []; given = [] }) (World.quiet (World.stopped w z))).issues
fires w es true s z = tt
fires w es false s z = tt

answers : (w : World) (v : Server.Server) (k : ℕ) (out : Served) (b : World.Burnt) → Each (World.answered w v k out b).issues
answers w v k out (World.Intact f) = tt
answers w v k out (World.Fires call how) = fires w (World.entries_in out.entry) (World.is_kept call how) (World.state_with v.state out.entry) v.state

inbound_from : (w : World) (k : ℕ) (g : Host) (q : Conn) (us : List Inbound) → Each (World.inbound_from w k g q us).issues
inbound_from w k (Running v) q (u ∷ us) = answers (World.with_conn w k (record q { inbound = us })) v k (Server.serve v k u) (World.burn (World.commit_calls (Server.serve v k u).entry) w.fuse)
inbound_from w k (Running v) q [] = tt
inbound_from w k (Stopped s) q us = tt

server_receives : (w : World) (k : ℕ) (o : Option Conn) → Each (World.inbound_at w k o).issues
server_receives w k None = tt
server_receives w k (Some q) = inbound_from w k w.host q q.inbound

frame_issues : (w : World) (n c k : ℕ) (p : World.Slot) (r : Result Receive.Received Receive.Refusal) → Each (World.frame_taken w n c k p r).issues
frame_issues w n c k p (Err out) = tt
frame_issues w n c k p (Ok out) = tt

takes : (w : World) (n c k : ℕ) (p : World.Slot) (m : Outbound) → Each (World.client_takes w n c k p m).issues
takes w n c k p Pong = tt
takes w n c k p (Message m) = frame_issues w n c k p (Receive.receive_frame p.account (Msgs (m ∷ [])))
takes w n c k p (Closed code text) = tt

link_takes : (w : World) (k : ℕ) (m : Outbound) → Each (World.link_takes w k m).issues
link_takes w k Pong = tt
link_takes w k (Message m) = tt
link_takes w k (Closed code text) = tt

owner_takes : (w : World) (n k : ℕ) (m : Outbound) (o : Option ℕ) → Each (World.owner_takes w n k m o).issues
owner_takes w n k m None = link_takes w k m
owner_takes w n k m (Some c) = takes w n c k (slot w c) m

outbound_from : (w : World) (n k : ℕ) (q : Conn) (ms : List Outbound) → Each (World.outbound_from w n k q ms).issues
outbound_from w n k q [] = tt
outbound_from w n k q (m ∷ ms) = owner_takes (World.with_conn w k (record q { outbound = ms })) n k m q.owner

peer_receives : (w : World) (n k : ℕ) (o : Option Conn) → Each (World.outbound_at w n k o).issues
peer_receives w n k None = tt
peer_receives w n k (Some q) = outbound_from w n k q q.outbound

conn_issues : (w : World) (n k : ℕ) (traffic : lines.Traffic) → Each (World.conn_line w n k traffic).issues
conn_issues w n k lines.Up = server_receives w k (get w.conns k)
conn_issues w n k lines.Down = peer_receives w n k (get w.conns k)
conn_issues w n k lines.Gone = tt
conn_issues w n k (lines.Raw text) = tt

started : (w : World) (s : State) (b : World.Burnt) → Each (World.started w s b).issues
started w s (World.Intact f) = tt
started w s (World.Fires call how) = tt

start : (w : World) (g : Host) → Each (World.start w g).issues
start w (Running v) = tt
start w (Stopped s) = started w s (World.burn 2 w.fuse)

server_issues : (w : World) (service : lines.Service) → Each (World.server_line w service).issues
server_issues w lines.Stop = tt
server_issues w lines.Start = start w w.host
server_issues w (lines.Fuse n how) = tt
server_issues w lines.Compact = tt
server_issues w (lines.Limit updates sessions) = tt
server_issues w lines.ShowServer = tt
server_issues w lines.BriefServer = tt

drain_step : (w : World) (n : ℕ) (inbound outbound : Option ℕ) → Each (World.or_quiet w (World.drain_step w n inbound outbound)).issues
drain_step w n (Some k) outbound = server_receives w k (get w.conns k)
drain_step w n None (Some k) = peer_receives w n k (get w.conns k)
drain_step w n None None = tt

drains : (n m : ℕ) (w : World) → Each (World.drain w n m).issues
unfolding World.drain
drains n zero w = tt
drains n (suc m) w =
    let out = World.drain_once w n in
    each_append out.issues (World.drain out.world n m).issues (drain_step w n (World.least World.has_inbound (entries w.conns)) (World.least World.has_outbound (entries w.conns))) (drains n m out.world)

module _ (keep : KeepsSound) where
  step_issues : (w : World) (n : ℕ) (l : Line) → ((c : ℕ) → IsSound (account w c)) → IsLine l → Each (World.step w n l).issues
  step_issues w n (lines.OfClient c call) h i = call_issues keep w n c (h c) call i.1
  step_issues w n (lines.AsksClient c question) h i = tt
  step_issues w n (lines.OfConnection k traffic) h i = conn_issues w n k traffic
  step_issues w n (lines.OfServer service) h i = server_issues w service
  step_issues w n (lines.Drain m) h i = drains n m w
  step_issues w n lines.Link h i = tt

  module _ (accounts : SoundAccounts) (s : State) (valid : IsValidState s) where
    spelled_next : (done : List (ℕ × Line)) (l : ℕ × Line) (ls : List (ℕ × Line)) → AreSpelled (done ++ l ∷ ls) → IsLine l.1
    spelled_next [] l ls h = h.0
    spelled_next (d ∷ done) l ls h = spelled_next done l ls h.1

    each_from : (done ls : List (ℕ × Line)) → AreLines (done ++ ls) → Each (run (opened s) done).issued → Each (run (run (opened s) done) ls).issued
    each_from done [] a h = h
    each_from done (l ∷ ls) a h =
        let r = run (opened s) done in
        let next = done ++ l ∷ [] in
        let there : run (opened s) next ≡ line r l.0 l.1 = run-append done (l ∷ []) (opened s) in
        let more : AreLines (next ++ ls) = subst AreLines (sym (append_assoc done (l ∷ []) ls)) a in
        let here : Each (line r l.0 l.1).issued = each_append r.issued (World.step r.world l.0 l.1).issues h
        (step_issues r.world l.0 l.1 (λ c. accounts s done c valid (lines_front done (l ∷ ls) a)) (spelled_next done l ls a.spelled)) in
        subst (λ (z : Run). Each (run z ls).issued) there (each_from next ls more (subst (λ (z : Run). Each z.issued) (sym there) here))

    in_test : (b d : Batch) (bs : List Batch) (t : Bool) → AreValidBodies d.bodies → (In b bs → AreValidBodies b.bodies) → In b (cond t (d ∷ bs) bs) → AreValidBodies b.bodies
    in_test b d bs true h f (inl e) = rw e h
    in_test b d bs true h f (inr j) = f j
    in_test b d bs false h f j = f j

    in_each : (c : ℕ) (b : Batch) (es : List (ℕ × Batch)) → Each es → In b (issued_of c es) → AreValidBodies b.bodies
    in_each c b [] h i = absurd i
    in_each c b (e ∷ es) h i = in_test b e.1 (issued_of c es) (e.0 == c) h.0 (λ j. in_each c b es h.1 j) i

    pub issued_valid : (ls : List (ℕ × Line)) (c : ℕ) (b : Batch) → AreLines ls → In b (issued_of c (run (opened s) ls).issued) → AreValidBodies b.bodies
    issued_valid ls c b a i = in_each c b (run (opened s) ls).issued (each_from [] ls a tt) i
