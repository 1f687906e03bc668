-- What happens to one client in a run, and what its account is after it.
use Rattle.std.specs.Prelude.{◌≡◌, ℕ, zero, suc, ◌==◌, if◌then◌else◌, List, [], ◌∷◌, ◌++◌, Option, Some, None, Result}
use Rattle.std.specs.Prelude.{Ok, Err}
use Rattle.std.specs.FinMap.{get}
use Rattle.room_msg.specs.declared.messages.ServerMsg.{ServerMsg}
use Rattle.room_model.specs.Account.{Account}
use Rattle.room_model.specs.Calls.{Done, Undo, Redo, UndoFault, lost, dialled, edit, batch_begin, batch_end, go_back}
use Rattle.room_model.specs.Calls.{pause, resume, clear, presence, event, flushed, resent}
use Rattle.room_model.specs.Receive.{Received, FrameFault, receive}
use Rattle.room_model.specs.Server.{Outbound, Pong, Message, Closed}
use Rattle.room_model.specs.Lines as lines
use Rattle.room_model.specs.Lines.{Call, Line, Traffic}
use Rattle.room_model.specs.World.{World, Conn, account, conn_line, step}
use Rattle.room_model.specs.Run.{Run, run}
use Rattle.room_laws.specs.Moves.{next_move, where_some}

-- its user calls, a message comes down, or a close does
pub data Event : Type 0 where
  Called : Call → Event
  Arrived : ServerMsg → Event
  Ended : Event

-- the account after it; a refused call changes nothing, and a client that refuses a message is lost

abbrev pub done_or : {E : Type 0} → Account → Result Done E → Account
done_or x (Err fault) = x
done_or x (Ok out) = out.account

abbrev pub account_or : {E : Type 0} → Account → Result Account E → Account
account_or x (Err fault) = x
account_or x (Ok y) = y

abbrev pub back_or : Account → Result (Option Done) UndoFault → Account
back_or x (Err fault) = x
back_or x (Ok None) = x
back_or x (Ok (Some out)) = out.account

abbrev pub received_or : Account → Result Received FrameFault → Account
received_or x (Err fault) = lost x
received_or x (Ok out) = out.account

abbrev pub called : Account → Call → Account
called x lines.Dial = dialled x
called x (lines.Edits e) = done_or x (edit x e)
called x lines.Begin = account_or x (batch_begin x)
called x lines.End = done_or x (batch_end x)
called x lines.Undo = back_or x (go_back Undo x)
called x lines.Redo = back_or x (go_back Redo x)
called x lines.Pause = pause x
called x lines.Resume = resume x
called x lines.Clear = clear x
called x (lines.Presence patch in_history) = account_or x (presence x patch in_history)
called x (lines.Event e) = account_or x (event x e)
called x lines.Flush = flushed x
called x lines.Resend = resent x
called x lines.Cut = lost x

abbrev pub happened : Account → Event → Account
happened x (Called call) = called x call
happened x (Arrived m) = received_or x (receive x m)
happened x Ended = lost x

abbrev pub happen : Account → List Event → Account
happen x [] = x
happen x (e ∷ es) = happen (happened x e) es

-- what happens to the client c in a line

abbrev pub if_own : ℕ → ℕ → List Event → List Event
if_own c d es = if d == c then es else []

abbrev pub arrives_as : Outbound → List Event
arrives_as Pong = []
arrives_as (Message m) = Arrived m ∷ []
arrives_as (Closed code text) = Ended ∷ []

abbrev pub first_as : List Outbound → List Event
first_as [] = []
first_as (m ∷ ms) = arrives_as m

abbrev pub owned_events : ℕ → Option ℕ → List Outbound → List Event
owned_events c None ms = []
owned_events c (Some d) ms = if_own c d (first_as ms)

abbrev pub outbound_events : ℕ → Option Conn → List Event
outbound_events c None = []
outbound_events c (Some q) = owned_events c q.owner q.outbound

abbrev pub traffic_events : World → ℕ → ℕ → Traffic → List Event
traffic_events w c k lines.Up = []
traffic_events w c k lines.Down = outbound_events c (get w.conns k)
traffic_events w c k lines.Gone = []
traffic_events w c k (lines.Raw text) = []

-- in a drain, frame by frame
abbrev pub moved_events : ℕ → World → ℕ → ℕ → List Event
moved_events zero w number c = []
moved_events (suc n) w number c =
    where_some (next_move w) (λ m.
    traffic_events w c m.0 m.1 ++ moved_events n (conn_line w number m.0 m.1).world number c)

abbrev pub line_events : World → ℕ → ℕ → Line → List Event
line_events w c number (lines.OfClient d call) = if_own c d (Called call ∷ [])
line_events w c number (lines.AsksClient d question) = []
line_events w c number (lines.OfConnection k traffic) = traffic_events w c k traffic
line_events w c number (lines.OfServer service) = []
line_events w c number (lines.Drain n) = moved_events n w number c
line_events w c number lines.Link = []

-- and in lines
abbrev pub events : World → ℕ → List (ℕ × Line) → List Event
events w c [] = []
events w c (l ∷ ls) = line_events w c l.0 l.1 ++ events (step w l.0 l.1).world c ls

-- a client's account is what its events make of it, whatever happens to the others
abbrev pub FollowsEvents : Type 0
FollowsEvents = (r : Run) (c : ℕ) (ls : List (ℕ × Line)) →
    account (run r ls).world c ≡ happen (account r.world c) (events r.world c ls)
