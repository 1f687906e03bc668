-- What a move of a drain leaves of the server.
use Rattle.std.proofs.Common.{◌≡◌, inl, inr, ℕ, zero, suc, Bool, true, false, cond, List, [], ◌∷◌, ◌++◌, Option, Some}
use Rattle.std.proofs.Common.{map, None, Result, Ok, Err, refl, sym, ap, ◌∙◌, subst}
use Rattle.std.specs.FinMap.{get, entries}
use Rattle.room_log.specs.Log.{State, Entry, state_after}
use Rattle.room_msg.specs.declared.messages.ServerFrame.TheVariants.{Pong as PongOf, Msgs as ServerMsgsOf}
use Rattle.room_model.specs.Receive.{Received, Refusal, receive_frame}
use Rattle.room_model.specs.Server.{Inbound, Outbound, Pong, Message, Closed, Server, Served, serve}
use Rattle.room_model.specs.World.{World, Conn, Slot, Host, Running, Stopped, Burnt, Intact, Fires, Stepped, burn}
use Rattle.room_model.specs.World.{commit_calls, is_kept, answered, stopped, state_in, state_with, entries_in, quiet}
use Rattle.room_model.specs.World.{with_conn, with_slot, inbound_from, inbound_at, server_receives, outbound_from}
use Rattle.room_model.specs.World.{outbound_at, owner_takes, client_takes, link_takes, frame_taken, peer_receives}
use Rattle.room_model.specs.World.{cut_present, inbound_frame, send_inbound, slot, is_attached, least, has_inbound}
use Rattle.room_model.specs.World.{has_outbound, drain_step, drain_once, or_quiet, inbounds_on}
use Rattle.room_queues.specs.Calls.{first, next_inbound}
use Rattle.room_host.proofs.Serving.{serve_follows}
use Rattle.room_moves.proofs.Parts.{stopped_receives}
use Rattle.room_world.specs.Moving.{Leaves, next_tries}
use Rattle.room_world.specs.Trying.{tried_by, up_tries, move_tries, drain_tries}

stays : (s : State) (h : Host) → state_in h ≡ s → Leaves s [] h
stays s h is = inl is

-- a frame that the server receives

with_is : (s : State) (o : Option Entry) → state_with s o ≡ state_after s (entries_in o)
with_is s None = refl
with_is s (Some e) = refl

fired_leaves : (w : World) (v : Server) (out : Served) (kept : Bool)
    → Leaves v.state (entries_in out.entry) (cond {A = Stepped} kept
    (record {
      world = stopped w (state_with v.state out.entry);
      lines = [];
      entries = entries_in out.entry;
      issues = [];
      given = [];
    }) (quiet (stopped w v.state))).world.host
fired_leaves w v out true = inl (with_is v.state out.entry)
fired_leaves w v out false = inr refl

answered_leaves : (w : World) (v : Server) (k : ℕ) (out : Served) (b : Burnt)
    → out.server.state ≡ state_with v.state out.entry
    → Leaves v.state (entries_in out.entry) (answered w v k out b).world.host
answered_leaves w v k out (Intact fuse) is = inl (is ∙ with_is v.state out.entry)
answered_leaves w v k out (Fires call how) is = fired_leaves w v out (is_kept call how)

from_leaves : (w : World) (k : ℕ) (h : Host) (q : Conn) (us : List Inbound) → w.host ≡ h
    → Leaves (state_in h) (tried_by k h (first us)) (inbound_from w k h q us).world.host
from_leaves w k (Running v) q (u ∷ us) is =
    let x = with_conn w k (record q { inbound = us }) in
    let out = serve v k u in
    answered_leaves x v k out (burn (commit_calls out.entry) x.fuse) (serve_follows v k u)
from_leaves w k (Running v) q [] is = stays v.state w.host (ap state_in is)
from_leaves w k (Stopped s) q us is = stays s w.host (ap state_in is)

none_leaves : (w : World) (k : ℕ) (h : Host) → w.host ≡ h → Leaves (state_in h) (tried_by k h None) w.host
none_leaves w k (Running v) is = stays v.state w.host (ap state_in is)
none_leaves w k (Stopped s) is = stays s w.host (ap state_in is)

at_leaves : (w : World) (k : ℕ) (o : Option Conn)
    → Leaves (state_in w.host) (tried_by k w.host (next_inbound o)) (inbound_at w k o).world.host
at_leaves w k None = none_leaves w k w.host refl
at_leaves w k (Some q) = from_leaves w k w.host q q.inbound refl

up_leaves : (w : World) (k : ℕ) → Leaves (state_in w.host) (up_tries w k) (server_receives w k).world.host
up_leaves w k = at_leaves w k (get w.conns k)

-- a frame that a client or a link receives

sent_host : (w : World) (k : ℕ) (us : List Inbound) (b : Bool) (o : Option Conn) → (inbounds_on w k us b o).host ≡ w.host
sent_host w k us true (Some q) = refl
sent_host w k us true None = refl
sent_host w k us false o = refl

cut_host : (w : World) (o : Option ℕ) → (cut_present w o).host ≡ w.host
cut_host w None = refl
cut_host w (Some k) = refl

taken_host : (w : World) (line c k : ℕ) (p : Slot) (r : Result Received Refusal)
    → (frame_taken w line c k p r).world.host ≡ w.host
taken_host w line c k p (Err out) = cut_host w p.present
taken_host w line c k p (Ok out) =
    let x = with_slot w c (record { account = out.account; present = p.present; noticed = out.notices }) in
    sent_host x k (map inbound_frame out.replies) (is_attached x k) (get x.conns k)

client_host : (w : World) (line c k : ℕ) (p : Slot) (m : Outbound)
    → (client_takes w line c k p m).world.host ≡ w.host
client_host w line c k p Pong = taken_host w line c k p (receive_frame p.account PongOf)
client_host w line c k p (Message m) = taken_host w line c k p (receive_frame p.account (ServerMsgsOf (m ∷ [])))
client_host w line c k p (Closed code text) = cut_host w p.present

link_host : (w : World) (k : ℕ) (m : Outbound) → (link_takes w k m).world.host ≡ w.host
link_host w k Pong = refl
link_host w k (Message m) = refl
link_host w k (Closed code text) = refl

owner_host : (w : World) (line k : ℕ) (m : Outbound) (o : Option ℕ)
    → (owner_takes w line k m o).world.host ≡ w.host
owner_host w line k m None = link_host w k m
owner_host w line k m (Some c) = client_host w line c k (slot w c) m

out_host : (w : World) (line k : ℕ) (q : Conn) (ms : List Outbound) → (outbound_from w line k q ms).world.host ≡ w.host
out_host w line k q [] = refl
out_host w line k q (m ∷ ms) = owner_host (with_conn w k (record q { outbound = ms })) line k m q.owner

peer_at : (w : World) (line k : ℕ) (o : Option Conn) → (outbound_at w line k o).world.host ≡ w.host
peer_at w line k None = refl
peer_at w line k (Some q) = out_host w line k q q.outbound

peer_host : (w : World) (line k : ℕ) → (peer_receives w line k).world.host ≡ w.host
peer_host w line k = peer_at w line k (get w.conns k)

-- a move

move_leaves : (w : World) (line : ℕ) (i o : Option ℕ)
    → Leaves (state_in w.host) (move_tries w i) (or_quiet w (drain_step w line i o)).world.host
move_leaves w line (Some k) o = up_leaves w k
move_leaves w line None (Some k) = stays (state_in w.host) _ (ap state_in (peer_host w line k))
move_leaves w line None None = stays (state_in w.host) w.host refl

pub once_leaves : (w : World) (line : ℕ) → Leaves (state_in w.host) (next_tries w) (drain_once w line).world.host
once_leaves w line = move_leaves w line (least has_inbound (entries w.conns)) (least has_outbound (entries w.conns))

-- a server that is stopped stays so, and nothing more is tried

still_stopped : (w : World) (line : ℕ) (s : State) (i o : Option ℕ) → w.host ≡ Stopped s
    → (or_quiet w (drain_step w line i o)).world.host ≡ Stopped s
still_stopped w line s (Some k) o is = ap (λ x. x.world.host) (stopped_receives w k s is) ∙ is
still_stopped w line s None (Some k) is = peer_host w line k ∙ is
still_stopped w line s None None is = is

none_tried : (w : World) (s : State) (i : Option ℕ) → w.host ≡ Stopped s → move_tries w i ≡ []
none_tried w s None is = refl
none_tried w s (Some k) is = ap (λ h. tried_by k h (next_inbound (get w.conns k))) is

pub stopped_tries : (n : ℕ) (w : World) (line : ℕ) (s : State) → w.host ≡ Stopped s → drain_tries w line n ≡ []
stopped_tries zero w line s is = refl
stopped_tries (suc n) w line s is =
    let i = least has_inbound (entries w.conns) in
    let o = least has_outbound (entries w.conns) in
    ap (λ es. es ++ drain_tries (drain_once w line).world line n) (none_tried w s i is)
    ∙ stopped_tries n (drain_once w line).world line s (still_stopped w line s i o is)
