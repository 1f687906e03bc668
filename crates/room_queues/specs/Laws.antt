-- What is sent is seen as it was meant.
use Rattle.std.specs.Prelude.{◌≡◌, false, ℕ, List, codes}
use Rattle.room_nodes.specs.Shallow.{AreShallowOps}
use Rattle.room_msg.specs.Laws.{IsServerFrame}
use Rattle.room_msg.specs.Sound.{IsShallowServerMsg}
use Rattle.room_msg.specs.Written.{server_text}
use Rattle.room_msg.specs.declared.messages.ServerMsg.{ServerMsg}
use Rattle.room_msg.specs.declared.messages.ServerMsg.TheVariants as server
use Rattle.room_model.specs.Server.{Outbound, Pong, Message}
use Rattle.room_model.specs.World.{is_close}
use Rattle.room_queues.specs.Seen.{IsSent, IsMail, outbound_in}
use Rattle.room_queues.specs.declared.mail.Mail.TheVariants.{Frame}

-- no deeper than a frame of 60 levels holds it
abbrev pub FitsFrame : ServerMsg → Type 0
FitsFrame (server.Presence actor target patch) = IsShallowServerMsg (server.Presence actor target patch)
FitsFrame (server.Joined actor) = IsShallowServerMsg (server.Joined actor)
FitsFrame (server.Left actor) = IsShallowServerMsg (server.Left actor)
FitsFrame (server.Broadcast actor event) = IsShallowServerMsg (server.Broadcast actor event)
FitsFrame (server.RoomState actor key users) = IsShallowServerMsg (server.RoomState actor key users)
FitsFrame (server.State seq last items more) = IsShallowServerMsg (server.State seq last items more)
FitsFrame (server.Update seq ops) = AreShallowOps ops

-- a message as `write_server` writes it
abbrev pub SentAreSeen : Type 0
SentAreSeen = (m : ServerMsg) (t : List ℕ) → FitsFrame m → IsServerFrame m t → t ≡ server_text m → IsSent t (Message m)

abbrev pub PongIsSent : Type 0
PongIsSent = IsSent (codes "pong") Pong

-- what is sent for this is seen as this
abbrev pub SeenAreMail : Type 0
SeenAreMail = (t : List ℕ) (o : Outbound) → is_close o ≡ false → IsSent t o
    → IsMail (Frame t) × (outbound_in (Frame t) ≡ o)
