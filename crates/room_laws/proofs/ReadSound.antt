-- What was read of a frame may go up.
use Rattle.std.proofs.Common.{List, [], ◌∷◌, Ok, Err, All}
use Rattle.std.proofs.lemmas.List.Elements.{All-head, All-tail}
use Rattle.room_msg.specs.Sound.{IsSoundClientMsg, IsShallowClientMsg}
use Rattle.room_msg.specs.declared.messages.ClientMsg.{ClientMsg}
use Rattle.room_msg.specs.declared.messages.ClientMsg.TheVariants as client
use Rattle.room_msg.specs.declared.messages.ClientFrame.TheVariants.{Ping, Msgs}
use Rattle.room_model.specs.Server.{Inbound}
use Rattle.room_model.specs.Sound.{IsReadSound}
use Rattle.room_laws.specs.Validity.{IsSoundInbound, IsValidClientMsg, AreValidClientMsgs}

message : (m : ClientMsg) → IsSoundClientMsg m → IsShallowClientMsg m → IsValidClientMsg m
message (client.Hello h) s d = s.content
message (client.Presence target patch) s d = (s.content, s.sendable, d)
message (client.Broadcast e) s d = (s.content, d)
message client.Fetch s d = s.content
message (client.Update os) s d = (s.content, d)

messages : (ms : List ClientMsg) → All IsSoundClientMsg ms → All IsShallowClientMsg ms → AreValidClientMsgs ms
messages [] s d = tt
messages (m ∷ ms) s d = (
  message m (All-head IsSoundClientMsg m ms s) (All-head IsShallowClientMsg m ms d),
  messages ms (All-tail IsSoundClientMsg m ms s) (All-tail IsShallowClientMsg m ms d),
)

pub read_sound : (u : Inbound) → IsReadSound u → IsSoundInbound u
read_sound (Err reason) h = tt
read_sound (Ok Ping) h = tt
read_sound (Ok (Msgs ms)) h = messages ms h.0 h.1
