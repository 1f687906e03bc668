-- Which messages can be sent, and what is read of them.
use Rattle.std.specs.Prelude.{◌≡◌, ◌≤◌, ◌≤ℤ◌, ⊤, ℕ, ℤ, pos, negsuc}
use Rattle.std.specs.Prelude.{length, All, List, [], ◌∷◌, map, Option, Some, None, Ok}
use Rattle.room_json.specs.Fields.{each_in}
use Rattle.room_json.specs.Profile.{IsJson}
use Rattle.room_json.specs.Value.{Value, depth, list, values_of}
use Rattle.room_nodes.specs.declared.nodes.Op.{Op}
use Rattle.room_wire.specs.Laws.{IsOpInRange}
use Rattle.room_wire.specs.Written.{op_out}
use Rattle.room_msg.specs.Frame.{client_frame_in, server_frame_in}
use Rattle.room_msg.specs.Msg.{op_at, client_in, server_in}
use Rattle.room_msg.specs.Users.{IsRising}
use Rattle.room_msg.specs.Written.{client_out, client_text, server_out, server_text}
use Rattle.room_msg.specs.declared.messages.Resume.{Resume}
use Rattle.room_msg.specs.declared.messages.ClientMsg.{ClientMsg}
use Rattle.room_msg.specs.declared.messages.ClientMsg.TheVariants as client
use Rattle.room_msg.specs.declared.messages.ServerMsg.{ServerMsg}
use Rattle.room_msg.specs.declared.messages.ServerMsg.TheVariants as server
use Rattle.room_msg.specs.declared.messages.ClientFrame.TheVariants as to_server
use Rattle.room_msg.specs.declared.messages.ServerFrame.TheVariants as to_client

-- -1 for all others, else an actor
abbrev pub IsTarget : Option ℤ → Type 0
IsTarget None = ⊤
IsTarget (Some z) = (negsuc 0 ≤ℤ z) × (z ≤ℤ pos 4294967295)

-- sessions have actors from 1 on
abbrev pub IsResumable : Option Resume → Type 0
IsResumable None = ⊤
IsResumable (Some r) = 1 ≤ r.actor

abbrev pub IsShort : Option (List ℕ) → Type 0
IsShort None = ⊤
IsShort (Some t) = length t ≤ 64

-- what a client may send
abbrev pub IsSendable : ClientMsg → Type 0
IsSendable (client.Hello h) = IsResumable h.resume × IsShort h.name
IsSendable (client.Presence target patch) = IsTarget target
IsSendable (client.Broadcast event) = ⊤
IsSendable client.Fetch = ⊤
IsSendable (client.Update ops) = ⊤

-- what the server may send
abbrev pub IsServed : ServerMsg → Type 0
IsServed (server.Presence actor target patch) = IsTarget target
IsServed (server.Joined actor) = ⊤
IsServed (server.Left actor) = ⊤
IsServed (server.Broadcast actor event) = ⊤
IsServed (server.RoomState actor key users) = (1 ≤ actor) × IsRising users
IsServed (server.State seq last items more) = (seq ≤ 9007199254740991) × (last ≤ 9007199254740991)
IsServed (server.Update seq ops) = seq ≤ 9007199254740991

-- where the numbers are those of their types

abbrev pub IsActor : ℕ → Type 0
IsActor n = n ≤ 4294967295

abbrev pub IsKey : ℕ → Type 0
IsKey n = n ≤ 18446744073709551615

abbrev pub IsResume : Option Resume → Type 0
IsResume None = ⊤
IsResume (Some r) = IsActor r.actor × IsKey r.key

abbrev pub AreActors : List (ℕ × List ℕ) → Type 0
AreActors [] = ⊤
AreActors (u ∷ us) = IsActor u.0 × AreActors us

abbrev pub AreOpsKnown : List Op → Type 0
AreOpsKnown ops = each_in op_at (map op_out ops) ≡ Ok ops

abbrev pub IsClientInRange : ClientMsg → Type 0
IsClientInRange (client.Hello h) = IsResume h.resume
IsClientInRange (client.Presence target patch) = ⊤
IsClientInRange (client.Broadcast event) = ⊤
IsClientInRange client.Fetch = ⊤
IsClientInRange (client.Update ops) = All IsOpInRange ops

abbrev pub IsServerInRange : ServerMsg → Type 0
IsServerInRange (server.Presence actor target patch) = IsActor actor
IsServerInRange (server.Joined actor) = IsActor actor
IsServerInRange (server.Left actor) = IsActor actor
IsServerInRange (server.Broadcast actor event) = IsActor actor
IsServerInRange (server.RoomState actor key users) = IsActor actor × IsKey key × AreActors users
IsServerInRange (server.State seq last items more) = ⊤
IsServerInRange (server.Update seq ops) = All IsOpInRange ops

-- a message is read as it was written

abbrev pub IsClientAgain : ClientMsg → Type 0
IsClientAgain m = client_in (client_out m) ≡ Ok m

abbrev pub IsServerAgain : ServerMsg → Type 0
IsServerAgain m = server_in (server_out m) ≡ Ok m

abbrev pub ClientMsgsReadBack : Type 0
ClientMsgsReadBack = (m : ClientMsg) → IsSendable m → IsClientInRange m → IsClientAgain m

abbrev pub ServerMsgsReadBack : Type 0
ServerMsgsReadBack = (m : ServerMsg) → IsServed m → IsServerInRange m → IsServerAgain m

-- a frame is read as it was written, within the limits of frames

abbrev pub client_value : List ClientMsg → Value
client_value ms = list (values_of (map client_out ms))

abbrev pub IsClientFrame : List ClientMsg → List ℕ → Type 0
IsClientFrame ms t = length t ≤ 1048576 → depth (client_value ms) ≤ 60 → client_frame_in t ≡ Ok (to_server.Msgs ms)

abbrev pub IsServerFrame : ServerMsg → List ℕ → Type 0
IsServerFrame m t = depth (server_out m) ≤ 60 → server_frame_in t ≡ Ok (to_client.Msgs (m ∷ []))

abbrev pub ClientFramesReadBack : Type 0
ClientFramesReadBack = (ms : List ClientMsg)
    → All IsSendable ms → All IsClientInRange ms → IsJson (client_value ms) → IsClientFrame ms (client_text ms)

abbrev pub ServerFramesReadBack : Type 0
ServerFramesReadBack = (m : ServerMsg)
    → IsServed m → IsServerInRange m → IsJson (server_out m) → IsServerFrame m (server_text m)
