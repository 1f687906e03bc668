-- How the texts that wait are seen.
use Rattle.std.specs.Prelude.{◌≡◌, ℕ, List, [], ◌∷◌, codes, Result, Ok, Err, ⊤}
use Rattle.room_msg.specs.Frame.{server_frame_in}
use Rattle.room_msg.specs.Written.{server_text}
use Rattle.room_msg.specs.declared.reason.Reason.{Reason}
use Rattle.room_msg.specs.declared.messages.ServerFrame.{ServerFrame}
use Rattle.room_msg.specs.declared.messages.ServerFrame.TheVariants as frame
use Rattle.room_model.specs.Server.{Outbound, Pong, Message, Closed}
use Rattle.room_queues.specs.declared.mail.Mail.{Mail}
use Rattle.room_queues.specs.declared.mail.Mail.TheVariants.{Frame, Close}

-- a frame of the server has one message, or is the pong; nothing else waits (`IsSent`)
abbrev pub outbound_of : Result ServerFrame Reason → Outbound
outbound_of (Ok frame.Pong) = Pong
outbound_of (Ok (frame.Msgs [])) = Pong
outbound_of (Ok (frame.Msgs (m ∷ ms))) = Message m
outbound_of (Err r) = Pong

-- what goes down, as it is read
abbrev pub outbound_in : Mail → Outbound
outbound_in (Frame t) = outbound_of (server_frame_in t)
outbound_in (Close code t) = Closed code t

-- the frame of what is sent, and its text

abbrev pub frame_of : Outbound → ServerFrame
frame_of Pong = frame.Pong
frame_of (Message m) = frame.Msgs (m ∷ [])
frame_of (Closed code t) = frame.Msgs []

abbrev pub text_of : Outbound → List ℕ
text_of Pong = codes "pong"
text_of (Message m) = server_text m
text_of (Closed code t) = t

-- a text that the server sends for this: it is read as its frame
pub record IsSent (t : List ℕ) (o : Outbound) : Type 0 where
  pub reads : server_frame_in t ≡ Ok (frame_of o)
  pub text : t ≡ text_of o

abbrev pub IsMail : Mail → Type 0
IsMail (Frame t) = IsSent t (outbound_of (server_frame_in t))
IsMail (Close code t) = ⊤

-- all that is sent at once, each on its connection

abbrev pub AreMail : List (ℕ × Mail) → Type 0
AreMail [] = ⊤
AreMail (s ∷ ss) = IsMail s.1 × AreMail ss

abbrev pub outs_in : List (ℕ × Mail) → List (ℕ × Outbound)
outs_in [] = []
outs_in (s ∷ ss) = (s.0, outbound_in s.1) ∷ outs_in ss
