-- What the messages and frames of real values are, beyond their shape.
use Rattle.std.specs.Prelude.{◌≡◌, ◌≤◌, ℕ, All, List, [], ◌∷◌, Option, Some, None, Ok, IsUtf8, ⊤}
use Rattle.room_json.specs.Profile.{IsJson, AreJson, AreSoundMembers}
use Rattle.room_json.specs.Value.{Value, depth, list, members, values_of, fields_of}
use Rattle.room_json.specs.View.{json_of}
use Rattle.room_nodes.specs.Shallow.{AreShallowOps}
use Rattle.room_nodes.specs.Sound.{AreSoundOps}
use Rattle.room_msg.specs.Laws.{IsSendable, IsServed, IsClientInRange, IsServerInRange}
use Rattle.room_msg.specs.Msg.{server_msgs_in}
use Rattle.room_msg.specs.Frame.{client_msgs_in}
use Rattle.room_msg.specs.declared.messages.ClientMsg.{ClientMsg}
use Rattle.room_msg.specs.declared.messages.ClientMsg.TheVariants as client
use Rattle.room_msg.specs.declared.messages.ServerMsg.{ServerMsg}
use Rattle.room_msg.specs.declared.messages.ServerMsg.TheVariants as server
use Rattle.room_msg.specs.declared.messages.ClientFrame.{ClientFrame}
use Rattle.room_msg.specs.declared.messages.ClientFrame.TheVariants as to_server
use Rattle.room_msg.specs.declared.messages.ServerFrame.{ServerFrame}
use Rattle.room_msg.specs.declared.messages.ServerFrame.TheVariants as to_client

-- texts in UTF-8

abbrev pub IsTextIfThere : Option (List ℕ) → Type 0
IsTextIfThere None = ⊤
IsTextIfThere (Some t) = IsUtf8 t

abbrev pub AreNames : List (ℕ × List ℕ) → Type 0
AreNames [] = ⊤
AreNames (u ∷ us) = IsUtf8 u.1 × AreNames us

-- what a message holds is of the profile

abbrev pub HasSoundClientContent : ClientMsg → Type 0
HasSoundClientContent (client.Hello h) = IsUtf8 h.room × IsTextIfThere h.name × IsTextIfThere h.«pass»
HasSoundClientContent (client.Presence target patch) = AreSoundMembers patch
HasSoundClientContent (client.Broadcast event) = IsJson (json_of event)
HasSoundClientContent client.Fetch = ⊤
HasSoundClientContent (client.Update ops) = AreSoundOps ops

abbrev pub HasSoundServerContent : ServerMsg → Type 0
HasSoundServerContent (server.Presence actor target patch) = AreSoundMembers patch
HasSoundServerContent (server.Joined actor) = ⊤
HasSoundServerContent (server.Left actor) = ⊤
HasSoundServerContent (server.Broadcast actor event) = IsJson (json_of event)
HasSoundServerContent (server.RoomState actor key users) = AreNames users
HasSoundServerContent (server.State seq last items more) = AreJson (values_of items)
HasSoundServerContent (server.Update seq ops) = AreSoundOps ops

pub record IsSoundClientMsg (m : ClientMsg) : Type 0 where
  pub sendable : IsSendable m
  pub in_range : IsClientInRange m
  pub content : HasSoundClientContent m

pub record IsSoundServerMsg (m : ServerMsg) : Type 0 where
  pub served : IsServed m
  pub in_range : IsServerInRange m
  pub content : HasSoundServerContent m

-- and no deeper than a frame of 60 levels makes it: a client's message stands one level down, a server's may be the
-- frame

abbrev pub IsShallowClientMsg : ClientMsg → Type 0
IsShallowClientMsg (client.Hello h) = ⊤
IsShallowClientMsg (client.Presence target patch) = depth (members (fields_of patch)) ≤ 58
IsShallowClientMsg (client.Broadcast event) = depth (json_of event) ≤ 58
IsShallowClientMsg client.Fetch = ⊤
IsShallowClientMsg (client.Update ops) = AreShallowOps ops

abbrev pub IsShallowServerMsg : ServerMsg → Type 0
IsShallowServerMsg (server.Presence actor target patch) = depth (members (fields_of patch)) ≤ 59
IsShallowServerMsg (server.Joined actor) = ⊤
IsShallowServerMsg (server.Left actor) = ⊤
IsShallowServerMsg (server.Broadcast actor event) = depth (json_of event) ≤ 59
IsShallowServerMsg (server.RoomState actor key users) = ⊤
IsShallowServerMsg (server.State seq last items more) = depth (list (values_of items)) ≤ 59
IsShallowServerMsg (server.Update seq ops) = ⊤

-- frames

abbrev pub AreSoundClientMsgs : List ClientMsg → Type 0
AreSoundClientMsgs ms = All IsSoundClientMsg ms

abbrev pub AreSoundServerMsgs : List ServerMsg → Type 0
AreSoundServerMsgs ms = All IsSoundServerMsg ms

abbrev pub IsSoundClientFrame : ClientFrame → Type 0
IsSoundClientFrame to_server.Ping = ⊤
IsSoundClientFrame (to_server.Msgs ms) = AreSoundClientMsgs ms

abbrev pub IsShallowClientFrame : ClientFrame → Type 0
IsShallowClientFrame to_server.Ping = ⊤
IsShallowClientFrame (to_server.Msgs ms) = All IsShallowClientMsg ms

abbrev pub IsSoundServerFrame : ServerFrame → Type 0
IsSoundServerFrame to_client.Pong = ⊤
IsSoundServerFrame (to_client.Msgs ms) = AreSoundServerMsgs ms

-- messages that stand in a value of the profile are sound, and shallow where the value is

abbrev pub ClientMsgsAreSound : Type 0
ClientMsgsAreSound = (v : Value) (f : ClientFrame) → client_msgs_in v ≡ Ok f → IsJson v → IsSoundClientFrame f

abbrev pub ClientMsgsAreShallow : Type 0
ClientMsgsAreShallow = (v : Value) (f : ClientFrame) → client_msgs_in v ≡ Ok f → depth v ≤ 60 → IsShallowClientFrame f

abbrev pub ServerMsgsAreSound : Type 0
ServerMsgsAreSound = (v : Value) (ms : List ServerMsg) → server_msgs_in v ≡ Ok ms → IsJson v → AreSoundServerMsgs ms

abbrev pub ServerMsgsAreShallow : Type 0
ServerMsgsAreShallow = (v : Value) (ms : List ServerMsg)
    → server_msgs_in v ≡ Ok ms → depth v ≤ 60 → All IsShallowServerMsg ms
