-- The world: a server, clients, an inbound and an outbound queue for each connection; what each line of a schedule
-- does.
--
-- The entry is `step`, at the end. A line of a client is a call (`client_calls`), which changes its account and may
-- send
-- frames; a line of a connection (`conn_line`) moves what waits in its queues: the server receives (`server_receives`),
-- or
-- the client or the link does (`peer_receives`); a line of the server (`server_line`) stops it, starts it or sets what
-- stops it; `drain` moves what waits until nothing does.
use Rattle.std.specs.Prelude.{ℕ, zero, suc, ◌+◌, ◌-◌, Bool, true, false, ◌&&◌, if◌then◌else◌, nat_le, is_some, List, []}
use Rattle.std.specs.Prelude.{◌∷◌, ◌++◌, map, codes, Option, Some, None, Result, Ok, Err}
use Rattle.std.specs.Ordering.{nat_cmp}
use Rattle.std.specs.FinMap.{FinMap, get, insert, entries, from_entries, empty}
use Rattle.room_msg.specs.declared.messages.ClientMsg.{ClientMsg}
use Rattle.room_msg.specs.declared.messages.ClientFrame.TheVariants.{Msgs as ClientMsgsOf}
use Rattle.room_msg.specs.declared.messages.ServerFrame.TheVariants.{Pong as PongOf, Msgs as ServerMsgsOf}
use Rattle.room_msg.specs.Written.{server_text}
use Rattle.room_msg.specs.Frame.{client_frame_in}
use Rattle.room_log.specs.Log.{State, Entry, after}
use Rattle.room_model.specs.Edits.{EditFault}
use Rattle.room_model.specs.Notices.{Notice}
use Rattle.room_model.specs.Account.{Account, Batch, new_account, is_some_list}
use Rattle.room_model.specs.Calls.{Done, Undo as Back, Redo as Forth, BatchFault, UndoFault, SayFault, lost, dialled}
use Rattle.room_model.specs.Calls.{hello_of, edit, batch_begin, batch_end, go_back, pause, resume, clear, presence}
use Rattle.room_model.specs.Calls.{event, flush_frames, flushed, resend_frames, resent}
use Rattle.room_model.specs.Receive.{Received, Refusal, receive_frame}
use Rattle.room_model.specs.Server.{Outbound, Pong, Message, Closed, Inbound, Limits, Server, Served, Link, opened}
use Rattle.room_model.specs.Server.{gone, serve}
use Rattle.room_model.specs.Lines

-- what is there

-- a connection: the client that dialled it, if one did, its queues, and whether what the server sends still enters the
-- outbound queue
pub record Conn : Type 0 where
  pub owner : Option ℕ
  pub inbound : List Inbound
  pub outbound : List Outbound
  pub listens : Bool

-- a client, its present connection, and the last notices that it was told
pub record Slot : Type 0 where
  pub account : Account
  pub present : Option ℕ
  pub noticed : List Notice

-- the server runs, or is stopped, and then its files stand for a state
pub data Host : Type 0 where
  Running : Server → Host
  Stopped : State → Host

-- the server stops at its call of the disk of that number from now on
pub record Fuse : Type 0 where
  pub left : ℕ
  pub how : Lines.How

pub record World : Type 0 where
  pub host : Host
  pub limits : Limits
  pub fuse : Option Fuse
  pub clients : FinMap nat_cmp Slot
  pub conns : FinMap nat_cmp Conn
  pub opened : ℕ  -- how many connections were opened

abbrev pub room_name : List ℕ
room_name = codes "room"

abbrev pub state_in : Host → State
state_in (Running v) = v.state
state_in (Stopped s) = s

-- a step's outcome: the world, report lines, the entries of the log, the batches that clients issued, and the actors
-- that connections were given, each with the client that dialled the connection
pub record Stepped : Type 0 where
  pub world : World
  pub lines : List (List ℕ)
  pub entries : List Entry
  pub issues : List (ℕ × Batch)
  pub given : List (ℕ × Option ℕ)

abbrev pub quiet : World → Stepped
quiet w = record { world = w; lines = []; entries = []; issues = []; given = [] }

abbrev pub saying : World → List (List ℕ) → Stepped
saying w ls = record (quiet w) { lines = ls }

-- clients

abbrev pub new_slot : Slot
new_slot = record { account = new_account room_name; present = None; noticed = [] }

-- a client that was not heard of yet is a new one; it is there once something changes it

abbrev pub slot_in : Option Slot → Slot
slot_in None = new_slot
slot_in (Some p) = p

abbrev pub slot : World → ℕ → Slot
slot w c = slot_in (get w.clients c)

abbrev pub account : World → ℕ → Account
account w c = (slot w c).account

abbrev pub with_slot : World → ℕ → Slot → World
with_slot w c p = record w { clients = insert w.clients c p }

abbrev pub with_account : Slot → Account → Slot
with_account p x = record p { account = x }

-- queues

abbrev pub links_of : Host → FinMap nat_cmp Link
links_of (Running v) = v.links
links_of (Stopped s) = empty

abbrev pub is_attached : World → ℕ → Bool
is_attached w k = is_some (get (links_of w.host) k)

abbrev pub with_conn : World → ℕ → Conn → World
with_conn w k q = record w { conns = insert w.conns k q }

abbrev pub inbound_frame : List ClientMsg → Inbound
inbound_frame ms = Ok (ClientMsgsOf ms)

-- frames enter the inbound queue where the server has the connection, and are dropped elsewhere

abbrev pub inbounds_on : World → ℕ → List Inbound → Bool → Option Conn → World
inbounds_on w k us true (Some q) = with_conn w k (record q { inbound = q.inbound ++ us })
inbounds_on w k us true None = w
inbounds_on w k us false q = w

abbrev pub send_inbound : World → ℕ → List Inbound → World
send_inbound w k us = inbounds_on w k us (is_attached w k) (get w.conns k)

abbrev pub send_present : World → Option ℕ → List (List ClientMsg) → World
send_present w None frames = w
send_present w (Some k) frames = send_inbound w k (map inbound_frame frames)

-- what the server sends enters the outbound queue where the connection listens; a close empties the inbound queue

abbrev pub is_close : Outbound → Bool
is_close Pong = false
is_close (Message m) = false
is_close (Closed code text) = true

abbrev pub with_outbound : Conn → Outbound → Conn
with_outbound q m = record {
  owner = q.owner;
  inbound = (if is_close m then [] else q.inbound);
  outbound = (if q.listens then q.outbound ++ m ∷ [] else q.outbound);
  listens = q.listens;
}

abbrev pub give : FinMap nat_cmp Conn → ℕ → Outbound → Option Conn → FinMap nat_cmp Conn
give qs k m None = qs
give qs k m (Some q) = insert qs k (with_outbound q m)

abbrev pub deliver : FinMap nat_cmp Conn → List (ℕ × Outbound) → FinMap nat_cmp Conn
deliver qs [] = qs
deliver qs (o ∷ os) = deliver (give qs o.0 o.1 (get qs o.0)) os

-- the client notices a loss: the outbound queue is emptied, and nothing more enters it; the inbound queue stays

abbrev pub cut_conn : FinMap nat_cmp Conn → ℕ → Option Conn → FinMap nat_cmp Conn
cut_conn qs k None = qs
cut_conn qs k (Some q) = insert qs k (record q { outbound = []; listens = false })

abbrev pub cut_present : World → Option ℕ → World
cut_present w None = w
cut_present w (Some k) = record w { conns = cut_conn w.conns k (get w.conns k) }

abbrev pub cut_slot : World → ℕ → Slot → World
cut_slot w c p =
    with_slot (cut_present w p.present) c (record { account = lost p.account; present = None; noticed = p.noticed })

-- connections

abbrev pub new_conn : Option ℕ → Conn
new_conn owner = record { owner = owner; inbound = []; outbound = []; listens = true }

-- the key of a connection is its number
abbrev pub opened_host : Host → ℕ → Host
opened_host (Running v) k = Running (opened v k k)
opened_host (Stopped s) k = Stopped s

abbrev pub open_conn : World → Option ℕ → World
open_conn w owner = record w {
  host = opened_host w.host (w.opened + 1);
  conns = insert w.conns (w.opened + 1) (new_conn owner);
  opened = w.opened + 1;
}

-- a dial drops the old connection first; the hello is sent on the new one
abbrev pub dial_slot : World → ℕ → Slot → World
dial_slot w c p =
    let k = w.opened + 1 in
    let x = dialled p.account in
    send_inbound (with_slot (open_conn (cut_present w p.present) (Some c)) c
    (record { account = x; present = Some k; noticed = p.noticed }))
    k (inbound_frame (hello_of x) ∷ [])

-- the server's disk calls, and its stops

abbrev pub emptied_conn : ℕ × Conn → ℕ × Conn
emptied_conn e = (e.0, record (e.1) { inbound = []; outbound = [] })

-- queues and attachments are emptied; the disk is settled, which disarms the fuse
abbrev pub stopped : World → State → World
stopped w s =
    record w { host = Stopped s; fuse = None; conns = from_entries {R = nat_cmp} (map emptied_conn (entries w.conns)) }

-- so many calls of the disk with a fuse: it stays, with what is left, or it fires at the call of that number
pub data Burnt : Type 0 where
  Intact : Option Fuse → Burnt
  Fires : (call : ℕ) → Lines.How → Burnt

abbrev pub burn : ℕ → Option Fuse → Burnt
burn calls None = Intact None
burn calls (Some f) =
    if nat_le f.left calls then Fires f.left f.how else Intact (Some (record { left = f.left - calls; how = f.how }))

-- a commit makes four calls, none where nothing is committed
abbrev pub commit_calls : Option Entry → ℕ
commit_calls None = 0
commit_calls (Some e) = 4

abbrev pub leaves_new : Lines.How → Bool
leaves_new Lines.Old = false
leaves_new Lines.New = true
leaves_new Lines.Torn = true

-- the third call opens the record's gate, so from there on a stop that leaves what was written leaves the entry
abbrev pub is_kept : ℕ → Lines.How → Bool
is_kept call how = nat_le 3 call && leaves_new how

abbrev pub entries_in : Option Entry → List Entry
entries_in None = []
entries_in (Some e) = e ∷ []

abbrev pub state_with : State → Option Entry → State
state_with s None = s
state_with s (Some e) = after s e

-- which actor a connection was given by a step of the server
abbrev pub actor_on : Option Link → Option ℕ
actor_on None = None
actor_on (Some l) = l.actor

abbrev pub owner_of : Option Conn → Option ℕ
owner_of None = None
owner_of (Some q) = q.owner

abbrev pub newly_given : Option ℕ → Option ℕ → Option ℕ → List (ℕ × Option ℕ)
newly_given None (Some a) owner = (a, owner) ∷ []
newly_given None None owner = []
newly_given (Some b) now owner = []

abbrev pub given_by : World → Server → Served → ℕ → List (ℕ × Option ℕ)
given_by w v out k =
    newly_given (actor_on (get v.links k)) (actor_on (get out.server.links k)) (owner_of (get w.conns k))

-- nothing of the event in which a fuse fires is sent
abbrev pub answered : World → Server → ℕ → Served → Burnt → Stepped
answered w v k out (Intact fuse) = record {
  world = record w { host = Running out.server; fuse = fuse; conns = deliver w.conns out.outs };
  lines = [];
  entries = entries_in out.entry;
  issues = [];
  given = given_by w v out k;
}
answered w v k out (Fires call how) =
    if is_kept call how
    then record {
      world = stopped w (state_with v.state out.entry);
      lines = [];
      entries = entries_in out.entry;
      issues = [];
      given = [];
    }
    else quiet (stopped w v.state)

abbrev pub answer : World → Server → ℕ → Served → Stepped
answer w v k out = answered w v k out (burn (commit_calls out.entry) w.fuse)

-- the server receives the next frame of a connection

abbrev pub inbound_from : World → ℕ → Host → Conn → List Inbound → Stepped
inbound_from w k (Running v) q (u ∷ us) = answer (with_conn w k (record q { inbound = us })) v k (serve v k u)
inbound_from w k (Running v) q [] = quiet w
inbound_from w k (Stopped s) q us = quiet w

abbrev pub inbound_at : World → ℕ → Option Conn → Stepped
inbound_at w k None = quiet w
inbound_at w k (Some q) = inbound_from w k w.host q q.inbound

abbrev pub server_receives : World → ℕ → Stepped
server_receives w k = inbound_at w k (get w.conns k)

-- the client, or the link, of a connection receives what is next

-- a link writes what it gets
abbrev pub link_takes : World → ℕ → Outbound → Stepped
link_takes w k Pong = saying w (Lines.got_line k (codes "pong") ∷ [])
link_takes w k (Message m) = saying w (Lines.got_line k (server_text m) ∷ [])
link_takes w k (Closed code text) = saying w (Lines.closed_line k code text ∷ [])

-- a client that refuses a frame is lost, and its connection is as after a cut
abbrev pub frame_taken : World → ℕ → ℕ → ℕ → Slot → Result Received Refusal → Stepped
frame_taken w line c k p (Err out) = saying
    (with_slot (cut_present w p.present) c (record { account = out.account; present = None; noticed = p.noticed }))
    (Lines.refused_line line (Lines.frame_fault_words out.fault) ∷ [])
frame_taken w line c k p (Ok out) = saying
    (send_inbound (with_slot w c (record { account = out.account; present = p.present; noticed = out.notices })) k
    (map inbound_frame out.replies))
    (Lines.event_lines (Some c) out.events)

abbrev pub client_takes : World → ℕ → ℕ → ℕ → Slot → Outbound → Stepped
client_takes w line c k p Pong = frame_taken w line c k p (receive_frame p.account PongOf)
client_takes w line c k p (Message m) = frame_taken w line c k p (receive_frame p.account (ServerMsgsOf (m ∷ [])))
client_takes w line c k p (Closed code text) = saying (cut_slot w c p) (Lines.closed_line k code text ∷ [])

abbrev pub owner_takes : World → ℕ → ℕ → Outbound → Option ℕ → Stepped
owner_takes w line k m None = link_takes w k m
owner_takes w line k m (Some c) = client_takes w line c k (slot w c) m

abbrev pub outbound_from : World → ℕ → ℕ → Conn → List Outbound → Stepped
outbound_from w line k q [] = quiet w
outbound_from w line k q (m ∷ ms) = owner_takes (with_conn w k (record q { outbound = ms })) line k m q.owner

abbrev pub outbound_at : World → ℕ → ℕ → Option Conn → Stepped
outbound_at w line k None = quiet w
outbound_at w line k (Some q) = outbound_from w line k q q.outbound

abbrev pub peer_receives : World → ℕ → ℕ → Stepped
peer_receives w line k = outbound_at w line k (get w.conns k)

-- drain: so many times, the server receives from the least connection with something inbound, else the client or the
-- link
-- receives on the least with something outbound

abbrev pub has_inbound : Conn → Bool
has_inbound q = is_some_list q.inbound

abbrev pub has_outbound : Conn → Bool
has_outbound q = is_some_list q.outbound

abbrev pub least : (Conn → Bool) → List (ℕ × Conn) → Option ℕ
least p [] = None
least p (e ∷ es) = if p e.1 then Some e.0 else least p es

abbrev pub drain_step : World → ℕ → Option ℕ → Option ℕ → Option Stepped
drain_step w line (Some k) outbound = Some (server_receives w k)
drain_step w line None (Some k) = Some (peer_receives w line k)
drain_step w line None None = None

abbrev pub drain_next : World → ℕ → Option Stepped
drain_next w line = drain_step w line (least has_inbound (entries w.conns)) (least has_outbound (entries w.conns))

abbrev pub then_stepped : Stepped → Stepped → Stepped
then_stepped before out = record {
  world = out.world;
  lines = before.lines ++ out.lines;
  entries = before.entries ++ out.entries;
  issues = before.issues ++ out.issues;
  given = before.given ++ out.given;
}

abbrev pub or_quiet : World → Option Stepped → Stepped
or_quiet w None = quiet w
or_quiet w (Some out) = out

-- where nothing waits, nothing is done
abbrev pub drain_once : World → ℕ → Stepped
drain_once w line = or_quiet w (drain_next w line)

unfoldable pub drain : World → ℕ → ℕ → Stepped
drain w line zero = quiet w
drain w line (suc n) =
    let out = drain_once w line in
    then_stepped out (drain out.world line n)

-- calls of a client

abbrev pub issued_by : ℕ → List Batch → List (ℕ × Batch)
issued_by c [] = []
issued_by c (b ∷ bs) = (c, b) ∷ issued_by c bs

-- a call that answered notices, or none of its own
abbrev pub done_noticed : World → ℕ → Slot → Done → Stepped
done_noticed w c p out =
    record (quiet (with_slot w c (record {
      account = out.account;
      present = p.present;
      noticed = out.notices;
    }))) { issues = issued_by c out.issues }

abbrev pub done_quiet : World → ℕ → Slot → Done → Stepped
done_quiet w c p out = record (quiet (with_slot w c (with_account p out.account))) { issues = issued_by c out.issues }

abbrev pub refuses : World → ℕ → List (List ℕ) → Stepped
refuses w line ws = saying w (Lines.refused_line line ws ∷ [])

abbrev pub edit_out : World → ℕ → ℕ → Slot → Result Done EditFault → Stepped
edit_out w line c p (Err fault) = refuses w line (Lines.edit_fault_words fault)
edit_out w line c p (Ok out) = done_noticed w c p out

abbrev pub begin_out : World → ℕ → ℕ → Slot → Result Account BatchFault → Stepped
begin_out w line c p (Err fault) = refuses w line (Lines.batch_fault_words fault)
begin_out w line c p (Ok x) = quiet (with_slot w c (with_account p x))

abbrev pub end_out : World → ℕ → ℕ → Slot → Result Done BatchFault → Stepped
end_out w line c p (Err fault) = refuses w line (Lines.batch_fault_words fault)
end_out w line c p (Ok out) = done_quiet w c p out

abbrev pub back_out : World → ℕ → ℕ → Slot → Result (Option Done) UndoFault → Stepped
back_out w line c p (Err fault) = refuses w line (Lines.undo_fault_words fault)
back_out w line c p (Ok None) = saying w (Lines.nothing_line line ∷ [])
back_out w line c p (Ok (Some out)) = done_noticed w c p out

abbrev pub say_out : World → ℕ → ℕ → Slot → Result Account SayFault → Stepped
say_out w line c p (Err fault) = refuses w line (Lines.say_fault_words fault)
say_out w line c p (Ok x) = quiet (with_slot w c (with_account p x))

abbrev pub speaks : World → ℕ → Slot → Account → List (List ClientMsg) → Stepped
speaks w c p x frames = quiet (send_present (with_slot w c (with_account p x)) p.present frames)

-- what the user of the client c calls

abbrev pub client_calls : World → ℕ → ℕ → Slot → Lines.Call → Stepped
client_calls w line c p Lines.Dial = quiet (dial_slot w c p)
client_calls w line c p (Lines.Edits e) = edit_out w line c p (edit p.account e)
client_calls w line c p Lines.Begin = begin_out w line c p (batch_begin p.account)
client_calls w line c p Lines.End = end_out w line c p (batch_end p.account)
client_calls w line c p Lines.Undo = back_out w line c p (go_back Back p.account)
client_calls w line c p Lines.Redo = back_out w line c p (go_back Forth p.account)
client_calls w line c p Lines.Pause = quiet (with_slot w c (with_account p (pause p.account)))
client_calls w line c p Lines.Resume = quiet (with_slot w c (with_account p (resume p.account)))
client_calls w line c p Lines.Clear = quiet (with_slot w c (with_account p (clear p.account)))
client_calls w line c p (Lines.Presence patch in_history) = say_out w line c p (presence p.account patch in_history)
client_calls w line c p (Lines.Event e) = say_out w line c p (event p.account e)
client_calls w line c p Lines.Flush = speaks w c p (flushed p.account) (flush_frames p.account)
client_calls w line c p Lines.Resend = speaks w c p (resent p.account) (resend_frames p.account)
client_calls w line c p Lines.Cut = quiet (cut_slot w c p)

-- lines of connections and of the server

-- the server notices that a connection is gone
abbrev pub gone_conn : FinMap nat_cmp Conn → ℕ → Option Conn → FinMap nat_cmp Conn
gone_conn qs k None = qs
gone_conn qs k (Some q) = insert qs k (record q { inbound = [] })

abbrev pub gone_on : World → ℕ → Host → Bool → World
gone_on w k (Running v) true =
    let out = gone v k in record w {
      host = Running out.server;
      conns = deliver (gone_conn w.conns k (get w.conns k)) out.outs;
    }
gone_on w k (Running v) false = w
gone_on w k (Stopped s) b = w

abbrev pub goes : World → ℕ → World
goes w k = gone_on w k w.host (is_attached w k)

-- a text is sent on a link; on a client's connection nothing happens

abbrev pub raw_on : World → ℕ → List ℕ → Option ℕ → World
raw_on w k text None = send_inbound w k (client_frame_in text ∷ [])
raw_on w k text (Some c) = w

abbrev pub raw_at : World → ℕ → List ℕ → Option Conn → World
raw_at w k text None = w
raw_at w k text (Some q) = raw_on w k text q.owner

abbrev pub stop : World → Host → World
stop w (Running v) = stopped w v.state
stop w (Stopped s) = w

-- a start makes two calls of the disk
abbrev pub started : World → State → Burnt → Stepped
started w s (Intact fuse) = saying
    (record w {
      host = Running (record { state = s; room = room_name; limits = w.limits; access = None; links = empty });
      fuse = fuse;
    })
    (Lines.start_line s ∷ [])
started w s (Fires call how) = saying (stopped w s) (Lines.start_failed_line ∷ [])

abbrev pub start : World → Host → Stepped
start w (Running v) = quiet w
start w (Stopped s) = started w s (burn 2 w.fuse)

-- a compaction makes six calls of the disk, and leaves the state as it is
abbrev pub compacted : World → Server → Burnt → World
compacted w v (Intact fuse) = record w { fuse = fuse }
compacted w v (Fires call how) = stopped w v.state

abbrev pub compact : World → Host → World
compact w (Running v) = compacted w v (burn 6 w.fuse)
compact w (Stopped s) = w

abbrev pub limited : Host → Limits → Host
limited (Running v) limits = Running (record v { limits = limits })
limited (Stopped s) limits = Stopped s

abbrev pub limit : World → Limits → World
limit w limits = record w { host = limited w.host limits; limits = limits }

abbrev pub server_shown : Host → List ℕ
server_shown (Running v) = Lines.server_line v.state
server_shown (Stopped s) = Lines.server_stopped_line

abbrev pub server_brief : Host → List ℕ
server_brief (Running v) = Lines.server_brief_line v.state
server_brief (Stopped s) = Lines.server_stopped_line

-- a line of a connection, and of the server

abbrev pub conn_line : World → ℕ → ℕ → Lines.Traffic → Stepped
conn_line w line k Lines.Up = server_receives w k
conn_line w line k Lines.Down = peer_receives w line k
conn_line w line k Lines.Gone = quiet (goes w k)
conn_line w line k (Lines.Raw text) = quiet (raw_at w k text (get w.conns k))

abbrev pub server_line : World → Lines.Service → Stepped
server_line w Lines.Stop = quiet (stop w w.host)
server_line w Lines.Start = start w w.host
server_line w (Lines.Fuse calls how) = quiet (record w { fuse = Some (record { left = calls; how = how }) })
server_line w Lines.Compact = quiet (compact w w.host)
server_line w (Lines.Limit updates sessions) = quiet (limit w (record { updates = updates; sessions = sessions }))
server_line w Lines.ShowServer = saying w (server_shown w.host ∷ [])
server_line w Lines.BriefServer = saying w (server_brief w.host ∷ [])

-- a line of the schedule, with its number
abbrev pub step : World → ℕ → Lines.Line → Stepped
step w line (Lines.OfClient c call) = client_calls w line c (slot w c) call
step w line (Lines.AsksClient c question) =
    saying w (Lines.answer_line (Some c) (account w c) (slot w c).noticed question ∷ [])
step w line (Lines.OfConnection k traffic) = conn_line w line k traffic
step w line (Lines.OfServer service) = server_line w service
step w line (Lines.Drain n) = drain w line n
step w line Lines.Link = quiet (open_conn w None)

-- the default limits
abbrev pub first_limits : Limits
first_limits = record { updates = 1000000000000; sessions = 1000000 }

-- a recovered server, and nobody there
abbrev pub opening : State → World
opening s = record {
  host = Running (record { state = s; room = room_name; limits = first_limits; access = None; links = empty });
  limits = first_limits;
  fuse = None;
  clients = empty;
  conns = empty;
  opened = 0;
}
