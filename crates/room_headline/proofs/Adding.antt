-- What a line tries to add is what it adds, and at most one entry more, where the disk stopped.
use Rattle.std.proofs.Common.{◌≡◌, inl, inr, ℕ, zero, suc, Bool, true, false, cond, List, [], ◌∷◌, ◌++◌, append-nil}
use Rattle.std.proofs.Common.{append_assoc, map, refl, sym, ap, ◌∙◌}
use Rattle.std.specs.Prelude.{Option, Some, None, Result, Ok, Err, ◌⊎◌}
use Rattle.std.specs.FinMap.{get, entries}
use Rattle.room_log.specs.Log.{State, Entry}
use Rattle.room_msg.specs.declared.messages.ServerFrame.TheVariants.{Pong as PongOf, Msgs as ServerMsgsOf}
use Rattle.room_model.specs.Account.{Account}
use Rattle.room_model.specs.Calls.{Undo as Back, Redo as Forth, Done, BatchFault, UndoFault, SayFault, edit}
use Rattle.room_model.specs.Calls.{batch_begin, batch_end, go_back, presence, event}
use Rattle.room_model.specs.Edits.{EditFault}
use Rattle.room_model.specs.Lines as lines
use Rattle.room_model.specs.Lines.{Line}
use Rattle.room_model.specs.Receive.{Received, Refusal, receive_frame}
use Rattle.room_model.specs.Server.{Inbound, Outbound, Pong, Message, Closed, Server, Served, serve}
use Rattle.room_model.specs.World
use Rattle.room_model.specs.World.{World, Conn, Slot, Host, Running, Stopped, Burnt, Intact, Fires, Stepped, entries_in}
use Rattle.room_model.specs.World.{drain_once, has_inbound, has_outbound, least, quiet, slot, step, with_conn}
use Rattle.room_queues.specs.Calls.{first, next_inbound}
use Rattle.room_world.specs.Trying.{tried_by, up_tries, move_tries, drain_tries, tries}

-- all of it, or the disk stopped in the commit of the last one, and with it the server

pub record Drops (out : Stepped) (tried : List Entry) : Type 0 where
  pub entry : Entry
  pub is : tried ≡ out.entries ++ entry ∷ []
  pub state : State
  pub host : out.world.host ≡ Stopped state

abbrev pub Tried : Stepped → List Entry → Type 0
Tried out tried = (tried ≡ out.entries) ⊎ Drops out tried

pub record Ends (es tried : List Entry) : Type 0 where
  pub dropped : Option Entry
  pub is : tried ≡ es ++ entries_in dropped

ends : (out : Stepped) (tried : List Entry) → Tried out tried → Ends out.entries tried
ends out tried (inl is) = record { dropped = None; is = is ∙ sym (append-nil out.entries) }
ends out tried (inr h) = record { dropped = Some h.entry; is = h.is }

-- a frame that the server receives

fired : (w : World) (v : Server) (o : Option Entry) (kept : Bool)
    → Tried (cond {A = Stepped} kept
    (record {
      world = World.stopped w (World.state_with v.state o);
      lines = [];
      entries = entries_in o;
      issues = [];
      given = [];
    }) (quiet (World.stopped w v.state))) (entries_in o)
fired w v o true = inl refl
fired w v None false = inl refl
fired w v (Some e) false = inr (record { entry = e; is = refl; state = v.state; host = refl })

answered : (w : World) (v : Server) (k : ℕ) (out : Served) (b : Burnt)
    → Tried (World.answered w v k out b) (entries_in out.entry)
answered w v k out (Intact fuse) = inl refl
answered w v k out (Fires call how) = fired w v out.entry (World.is_kept call how)

from_tries : (w : World) (k : ℕ) (h : Host) (q : Conn) (us : List Inbound)
    → Tried (World.inbound_from w k h q us) (tried_by k h (first us))
from_tries w k (Running v) q (u ∷ us) =
    let x = with_conn w k (record q { inbound = us }) in
    let out = serve v k u in
    answered x v k out (World.burn (World.commit_calls out.entry) x.fuse)
from_tries w k (Running v) q [] = inl refl
from_tries w k (Stopped s) q us = inl refl

nothing : (k : ℕ) (h : Host) → tried_by k h None ≡ []
nothing k (Running v) = refl
nothing k (Stopped s) = refl

at_tries : (w : World) (k : ℕ) (o : Option Conn) → Tried (World.inbound_at w k o) (tried_by k w.host (next_inbound o))
at_tries w k None = inl (nothing k w.host)
at_tries w k (Some q) = from_tries w k w.host q q.inbound

receives : (w : World) (k : ℕ) → Tried (World.server_receives w k) (up_tries w k)
receives w k = at_tries w k (get w.conns k)

-- what adds no entry, and leaves the server

pub record Still (w : World) (out : Stepped) : Type 0 where
  pub none : out.entries ≡ []
  pub host : out.world.host ≡ w.host

sent_host : (w : World) (k : ℕ) (us : List Inbound) (b : Bool) (o : Option Conn)
    → (World.inbounds_on w k us b o).host ≡ w.host
sent_host w k us true (Some q) = refl
sent_host w k us true None = refl
sent_host w k us false o = refl

cut_host : (w : World) (o : Option ℕ) → (World.cut_present w o).host ≡ w.host
cut_host w None = refl
cut_host w (Some k) = refl

taken_still : (w : World) (number c k : ℕ) (p : Slot) (r : Result Received Refusal)
    → Still w (World.frame_taken w number c k p r)
taken_still w number c k p (Err out) = record { none = refl; host = cut_host w p.present }
taken_still w number c k p (Ok out) =
    let p' : Slot = record { account = out.account; present = p.present; noticed = out.notices } in
    let x = World.with_slot w c p' in
    record {
      none = refl;
      host = sent_host x k (map World.inbound_frame out.replies) (World.is_attached x k) (get x.conns k);
    }

client_still : (w : World) (number c k : ℕ) (p : Slot) (m : Outbound) → Still w (World.client_takes w number c k p m)
client_still w number c k p Pong = taken_still w number c k p (receive_frame p.account PongOf)
client_still w number c k p (Message m) =
    taken_still w number c k p (receive_frame p.account (ServerMsgsOf (m ∷ [])))
client_still w number c k p (Closed code text) = record { none = refl; host = cut_host w p.present }

link_still : (w : World) (k : ℕ) (m : Outbound) → Still w (World.link_takes w k m)
link_still w k Pong = record { none = refl; host = refl }
link_still w k (Message m) = record { none = refl; host = refl }
link_still w k (Closed code text) = record { none = refl; host = refl }

owner_still : (w : World) (number k : ℕ) (m : Outbound) (o : Option ℕ) → Still w (World.owner_takes w number k m o)
owner_still w number k m None = link_still w k m
owner_still w number k m (Some c) = client_still w number c k (slot w c) m

out_still : (w : World) (number k : ℕ) (q : Conn) (ms : List Outbound) → Still w (World.outbound_from w number k q ms)
out_still w number k q [] = record { none = refl; host = refl }
out_still w number k q (m ∷ ms) =
    let h = owner_still (with_conn w k (record q { outbound = ms })) number k m q.owner in
    record { none = h.none; host = h.host }

peer_at : (w : World) (number k : ℕ) (o : Option Conn) → Still w (World.outbound_at w number k o)
peer_at w number k None = record { none = refl; host = refl }
peer_at w number k (Some q) = out_still w number k q q.outbound

peer_still : (w : World) (number k : ℕ) → Still w (World.peer_receives w number k)
peer_still w number k = peer_at w number k (get w.conns k)

-- a move of a drain

pub move_tried : (w : World) (number : ℕ) (i o : Option ℕ)
    → Tried (World.or_quiet w (World.drain_step w number i o)) (move_tries w i)
move_tried w number (Some k) o = receives w k
move_tried w number None (Some k) = inl (sym (peer_still w number k).none)
move_tried w number None None = inl refl

-- once the server is stopped nothing more is tried

stopped_from : (w : World) (k : ℕ) (s : State) (h : Host) (q : Conn) (us : List Inbound) → h ≡ Stopped s
    → Still w (World.inbound_from w k h q us)
stopped_from w k s (Running v) q us e = cc
stopped_from w k s (Stopped t) q us e = record { none = refl; host = refl }

stopped_at : (w : World) (k : ℕ) (s : State) (o : Option Conn) → w.host ≡ Stopped s → Still w (World.inbound_at w k o)
stopped_at w k s None e = record { none = refl; host = refl }
stopped_at w k s (Some q) e = stopped_from w k s w.host q q.inbound e

stopped_move : (w : World) (number : ℕ) (s : State) (i o : Option ℕ) → w.host ≡ Stopped s
    → Still w (World.or_quiet w (World.drain_step w number i o))
stopped_move w number s (Some k) o e = stopped_at w k s (get w.conns k) e
stopped_move w number s None (Some k) e = peer_still w number k
stopped_move w number s None None e = record { none = refl; host = refl }

none_tried : (w : World) (s : State) (i : Option ℕ) → w.host ≡ Stopped s → move_tries w i ≡ []
none_tried w s None e = refl
none_tried w s (Some k) e = ap (λ h. tried_by k h (next_inbound (get w.conns k))) e

abbrev pub next_in : World → Option ℕ
next_in w = least has_inbound (entries w.conns)

abbrev pub next_out : World → Option ℕ
next_out w = least has_outbound (entries w.conns)

pub record Rests (w : World) (number n : ℕ) : Type 0 where
  pub tried : drain_tries w number n ≡ []
  pub none : (World.drain w number n).entries ≡ []

pub rests : (n : ℕ) (w : World) (number : ℕ) (s : State) → w.host ≡ Stopped s → Rests w number n
unfolding World.drain
rests zero w number s e = record { tried = refl; none = refl }
rests (suc n) w number s e =
    let still = stopped_move w number s (next_in w) (next_out w) e in
    let more = rests n (drain_once w number).world number s (still.host ∙ e) in
    record {
      tried = ap (λ es. es ++ drain_tries (drain_once w number).world number n) (none_tried w s (next_in w) e)
          ∙ more.tried;
      none = ap (λ es. es ++ (World.drain (drain_once w number).world number n).entries) still.none ∙ more.none;
    }

-- a move, and those behind it
then_tried : (out : Stepped) (tried more rest : List Entry) → Tried out tried → Ends more rest
    → ((s : State) → out.world.host ≡ Stopped s → (rest ≡ []) × (more ≡ []))
    → Ends (out.entries ++ more) (tried ++ rest)
then_tried out tried more rest (inl is) h stop = record {
  dropped = h.dropped;
  is = ap (λ es. es ++ rest) is ∙ ap (λ es. out.entries ++ es) h.is
      ∙ sym (append_assoc out.entries more (entries_in h.dropped));
}
then_tried out tried more rest (inr d) h stop =
    let none = stop d.state d.host in
    record {
      dropped = Some d.entry;
      is = ap (λ es. tried ++ es) none.0 ∙ append-nil tried ∙ d.is
          ∙ ap (λ es. es ++ d.entry ∷ []) (sym (append-nil out.entries) ∙ ap (λ es. out.entries ++ es) (sym none.1));
    }

drains : (n : ℕ) (w : World) (number : ℕ) → Ends (World.drain w number n).entries (drain_tries w number n)
unfolding World.drain
drains zero w number = record { dropped = None; is = refl }
drains (suc n) w number =
    let v = (drain_once w number).world in
    then_tried (drain_once w number) (move_tries w (next_in w)) (World.drain v number n).entries
    (drain_tries v number n) (move_tried w number (next_in w) (next_out w)) (drains n v number)
    (λ s e. let r = rests n v number s e in (r.tried, r.none))

-- a call of a client

edit_none : (w : World) (number c : ℕ) (p : Slot) (r : Result Done EditFault)
    → (World.edit_out w number c p r).entries ≡ []
edit_none w number c p (Err fault) = refl
edit_none w number c p (Ok out) = refl

begin_none : (w : World) (number c : ℕ) (p : Slot) (r : Result Account BatchFault)
    → (World.begin_out w number c p r).entries ≡ []
begin_none w number c p (Err fault) = refl
begin_none w number c p (Ok x) = refl

end_none : (w : World) (number c : ℕ) (p : Slot) (r : Result Done BatchFault)
    → (World.end_out w number c p r).entries ≡ []
end_none w number c p (Err fault) = refl
end_none w number c p (Ok out) = refl

back_none : (w : World) (number c : ℕ) (p : Slot) (r : Result (Option Done) UndoFault)
    → (World.back_out w number c p r).entries ≡ []
back_none w number c p (Err fault) = refl
back_none w number c p (Ok None) = refl
back_none w number c p (Ok (Some out)) = refl

say_none : (w : World) (number c : ℕ) (p : Slot) (r : Result Account SayFault)
    → (World.say_out w number c p r).entries ≡ []
say_none w number c p (Err fault) = refl
say_none w number c p (Ok x) = refl

call_none : (w : World) (number c : ℕ) (p : Slot) (call : lines.Call)
    → (World.client_calls w number c p call).entries ≡ []
call_none w number c p lines.Dial = refl
call_none w number c p (lines.Edits e) = edit_none w number c p (edit p.account e)
call_none w number c p lines.Begin = begin_none w number c p (batch_begin p.account)
call_none w number c p lines.End = end_none w number c p (batch_end p.account)
call_none w number c p lines.Undo = back_none w number c p (go_back Back p.account)
call_none w number c p lines.Redo = back_none w number c p (go_back Forth p.account)
call_none w number c p lines.Pause = refl
call_none w number c p lines.Resume = refl
call_none w number c p lines.Clear = refl
call_none w number c p (lines.Presence patch in_history) = say_none w number c p (presence p.account patch in_history)
call_none w number c p (lines.Event e) = say_none w number c p (event p.account e)
call_none w number c p lines.Flush = refl
call_none w number c p lines.Resend = refl
call_none w number c p lines.Cut = refl

-- a line

started_none : (w : World) (s : State) (b : Burnt) → (World.started w s b).entries ≡ []
started_none w s (Intact fuse) = refl
started_none w s (Fires call how) = refl

start_none : (w : World) (h : Host) → (World.start w h).entries ≡ []
start_none w (Running v) = refl
start_none w (Stopped s) = started_none w s (World.burn 2 w.fuse)

service_none : (w : World) (service : lines.Service) → (World.server_line w service).entries ≡ []
service_none w lines.Stop = refl
service_none w lines.Start = start_none w w.host
service_none w (lines.Fuse calls how) = refl
service_none w lines.Compact = refl
service_none w (lines.Limit updates sessions) = refl
service_none w lines.ShowServer = refl
service_none w lines.BriefServer = refl

quietly : (es : List Entry) → es ≡ [] → Ends es []
quietly es e = record { dropped = None; is = ap (λ xs. xs ++ []) (sym e) }

traffic_ends : (w : World) (number k : ℕ) (traffic : lines.Traffic)
    → Ends (World.conn_line w number k traffic).entries (tries w number (lines.OfConnection k traffic))
traffic_ends w number k lines.Up = ends (World.server_receives w k) (up_tries w k) (receives w k)
traffic_ends w number k lines.Down = quietly _ (peer_still w number k).none
traffic_ends w number k lines.Gone = quietly [] refl
traffic_ends w number k (lines.Raw text) = quietly [] refl

pub line_ends : (w : World) (number : ℕ) (l : Line) → Ends (step w number l).entries (tries w number l)
line_ends w number (lines.OfClient c call) = quietly _ (call_none w number c (slot w c) call)
line_ends w number (lines.AsksClient c question) = quietly [] refl
line_ends w number (lines.OfConnection k traffic) = traffic_ends w number k traffic
line_ends w number (lines.OfServer service) = quietly _ (service_none w service)
line_ends w number (lines.Drain n) = drains n w number
line_ends w number lines.Link = quietly [] refl
