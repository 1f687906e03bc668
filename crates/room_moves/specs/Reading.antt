-- What is sent as a text is read as it was meant.
use Rattle.std.specs.Prelude.{◌≡◌, ℕ, zero, suc, List, [], ◌∷◌, map, codes, Option, Some, None, Result, Ok, Err, ⊤}
use Rattle.std.specs.FinMap.{get, entries}
use Rattle.room_msg.specs.Frame.{client_frame_in, server_frame_in}
use Rattle.room_msg.specs.Written.{client_text, server_text}
use Rattle.room_msg.specs.declared.messages.ClientMsg.{ClientMsg}
use Rattle.room_msg.specs.declared.messages.ClientFrame.TheVariants as client
use Rattle.room_msg.specs.declared.messages.ServerFrame.TheVariants as server
use Rattle.room_model.specs.Account.{Account}
use Rattle.room_model.specs.Calls.{dialled, hello_of, flush_frames, resend_frames}
use Rattle.room_model.specs.Receive.{Received, Refusal, receive_frame}
use Rattle.room_model.specs.Server.{Outbound, Pong, Message, Closed, Inbound, serve, gone}
use Rattle.room_model.specs.Lines as lines
use Rattle.room_model.specs.Lines.{Line}
use Rattle.room_model.specs.World.{World, Slot, Host, Running, Stopped, inbound_frame, slot, account, owner_of, least}
use Rattle.room_model.specs.World.{has_inbound, has_outbound, drain_once, step}
use Rattle.room_queues.specs.Calls.{next_inbound, next_outbound}
use Rattle.room_queues.specs.declared.mail.Mail.{Mail}
use Rattle.room_queues.specs.declared.mail.Mail.TheVariants.{Frame, Close}
use Rattle.room_queues.specs.Seen.{outbound_in, IsMail}

-- a client's frames

abbrev pub AreFramesRead : List (List ClientMsg) → Type 0
AreFramesRead [] = ⊤
AreFramesRead (f ∷ fs) = (client_frame_in (client_text f) ≡ Ok (client.Msgs f)) × AreFramesRead fs

abbrev pub FramesAreSeen : Type 0
FramesAreSeen = (fs : List (List ClientMsg)) → AreFramesRead fs
    → map client_frame_in (map client_text fs) ≡ map inbound_frame fs

-- what the server sends

abbrev pub IsOutRead : Outbound → Type 0
IsOutRead Pong = ⊤
IsOutRead (Message m) = server_frame_in (server_text m) ≡ Ok (server.Msgs (m ∷ []))
IsOutRead (Closed code text) = ⊤

abbrev pub mail_of : Outbound → Mail
mail_of Pong = Frame (codes "pong")
mail_of (Message m) = Frame (server_text m)
mail_of (Closed code text) = Close code text

abbrev pub OutsAreSeen : Type 0
OutsAreSeen = (o : Outbound) → IsOutRead o → IsMail (mail_of o) × (outbound_in (mail_of o) ≡ o)

-- What is sent in a line of a schedule, by the parts of the world that send it.

-- all that the server sends at once, each on its connection
abbrev pub AreSendsRead : List (ℕ × Outbound) → Type 0
AreSendsRead [] = ⊤
AreSendsRead (o ∷ os) = IsOutRead o.1 × AreSendsRead os

-- what a client sends in a call
abbrev pub CallReads : Account → lines.Call → Type 0
CallReads x lines.Dial = AreFramesRead (hello_of (dialled x) ∷ [])
CallReads x (lines.Edits e) = ⊤
CallReads x lines.Begin = ⊤
CallReads x lines.End = ⊤
CallReads x lines.Undo = ⊤
CallReads x lines.Redo = ⊤
CallReads x lines.Pause = ⊤
CallReads x lines.Resume = ⊤
CallReads x lines.Clear = ⊤
CallReads x (lines.Presence patch in_history) = ⊤
CallReads x (lines.Event e) = ⊤
CallReads x lines.Flush = AreFramesRead (flush_frames x)
CallReads x lines.Resend = AreFramesRead (resend_frames x)
CallReads x lines.Cut = ⊤

-- what the server sends as it receives the next frame of a connection

abbrev pub ServeReads : ℕ → Host → Option Inbound → Type 0
ServeReads k (Running v) (Some u) = AreSendsRead (serve v k u).outs
ServeReads k (Running v) None = ⊤
ServeReads k (Stopped s) u = ⊤

abbrev pub UpReads : World → ℕ → Type 0
UpReads w k = ServeReads k w.host (next_inbound (get w.conns k))

-- what a client, or a link, takes next on a connection, and what the client answers

abbrev pub replies_in : Result Received Refusal → List (List ClientMsg)
replies_in (Err refusal) = []
replies_in (Ok out) = out.replies

abbrev pub replies_to : Slot → Outbound → List (List ClientMsg)
replies_to p Pong = replies_in (receive_frame p.account server.Pong)
replies_to p (Message m) = replies_in (receive_frame p.account (server.Msgs (m ∷ [])))
replies_to p (Closed code text) = []

abbrev pub OwnerReads : World → Outbound → Option ℕ → Type 0
OwnerReads w m None = IsOutRead m
OwnerReads w m (Some c) = IsOutRead m × AreFramesRead (replies_to (slot w c) m)

abbrev pub TakeReads : World → Option Outbound → Option ℕ → Type 0
TakeReads w None owner = ⊤
TakeReads w (Some m) owner = OwnerReads w m owner

abbrev pub DownReads : World → ℕ → Type 0
DownReads w k = TakeReads w (next_outbound (get w.conns k)) (owner_of (get w.conns k))

-- what the server sends as it notices that a connection is gone
abbrev pub GoneReads : ℕ → Host → Type 0
GoneReads k (Running v) = AreSendsRead (gone v k).outs
GoneReads k (Stopped s) = ⊤

abbrev pub TrafficReads : World → ℕ → lines.Traffic → Type 0
TrafficReads w k lines.Up = UpReads w k
TrafficReads w k lines.Down = DownReads w k
TrafficReads w k lines.Gone = GoneReads k w.host
TrafficReads w k (lines.Raw text) = ⊤

-- a drain, one move after the other

abbrev pub MoveReads : World → Option ℕ → Option ℕ → Type 0
MoveReads w (Some k) outbound = UpReads w k
MoveReads w None (Some k) = DownReads w k
MoveReads w None None = ⊤

abbrev pub NextReads : World → Type 0
NextReads w = MoveReads w (least has_inbound (entries w.conns)) (least has_outbound (entries w.conns))

abbrev pub DrainReads : World → ℕ → ℕ → Type 0
DrainReads w line zero = ⊤
DrainReads w line (suc n) = NextReads w × DrainReads (drain_once w line).world line n

-- all that is sent in a line, with its number, is read as it was meant
abbrev pub Reads : World → ℕ → Line → Type 0
Reads w line (lines.OfClient c call) = CallReads (account w c) call
Reads w line (lines.AsksClient c question) = ⊤
Reads w line (lines.OfConnection k traffic) = TrafficReads w k traffic
Reads w line (lines.OfServer service) = ⊤
Reads w line (lines.Drain n) = DrainReads w line n
Reads w line lines.Link = ⊤

-- and in all lines, from a world on
abbrev pub AllRead : World → List (ℕ × Line) → Type 0
AllRead w [] = ⊤
AllRead w (l ∷ ls) = Reads w l.0 l.1 × AllRead (step w l.0 l.1).world ls
