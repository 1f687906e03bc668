-- Over all lines that a schedule can spell, the log of the run is valid.
use Rattle.std.specs.Prelude.{◌≡◌, ℕ, ◌≤◌, List, [], ◌∷◌, length, Option, Some, None, Ok, Err, IsUtf8, ⊤}
use Rattle.std.specs.FinMap.{get}
use Rattle.room_json.specs.Value.{depth, fields_of, members}
use Rattle.room_json.specs.View.{json_of}
use Rattle.room_json.specs.Profile.{IsJson, AreSoundMembers}
use Rattle.room_nodes.specs.Shallow.{AreShallowOps}
use Rattle.room_nodes.specs.Shape.{Nodes}
use Rattle.room_nodes.specs.Sound.{AreSoundOps}
use Rattle.room_items.specs.Items.{items_of}
use Rattle.room_msg.specs.Laws.{IsTarget}
use Rattle.room_msg.specs.Sound.{IsTextIfThere}
use Rattle.room_msg.specs.declared.messages.ClientMsg.{ClientMsg}
use Rattle.room_msg.specs.declared.messages.ClientMsg.TheVariants as client
use Rattle.room_msg.specs.declared.messages.ClientFrame.TheVariants.{Ping, Msgs}
use Rattle.room_log.specs.Log.{State}
use Rattle.room_log.specs.Follows.{IsKey, IsValidLog, IsValidState, most, most_actor}
use Rattle.room_model.specs.Lines.{Line}
use Rattle.room_model.specs.Server.{Outbound, Pong, Message, Closed, Inbound, Limits, Link, Server}
use Rattle.room_model.specs.World.{Conn, Host, Running, Stopped, World, account}
use Rattle.room_model.specs.Run.{run, opened}
use Rattle.room_model.specs.Sound.{AreItems, IsLine, IsSound, IsValidTree}
use Rattle.room_laws.specs.Accounts.{IsValidServerMsg}
use Rattle.room_laws.specs.Invariant.{conn}
use Rattle.room_laws.specs.Laws.{IsReadable}

-- lines

abbrev pub AreSpelled : List (ℕ × Line) → Type 0
AreSpelled [] = ⊤
AreSpelled (l ∷ ls) = IsLine l.1 × AreSpelled ls

-- fewer than 2^64, so that the number of each connection can be a key
pub record AreLines (ls : List (ℕ × Line)) : Type 0 where
  pub spelled : AreSpelled ls
  pub fewer : IsKey (length ls)

-- what is inbound

abbrev pub IsValidClientMsg : ClientMsg → Type 0
IsValidClientMsg (client.Hello h) = IsUtf8 h.room × IsTextIfThere h.name × IsTextIfThere h.«pass»
IsValidClientMsg (client.Presence target patch) =
    AreSoundMembers patch × IsTarget target × (depth (members (fields_of patch)) ≤ 58)
IsValidClientMsg (client.Broadcast e) = IsJson (json_of e) × (depth (json_of e) ≤ 58)
IsValidClientMsg client.Fetch = ⊤
IsValidClientMsg (client.Update os) = AreSoundOps os × AreShallowOps os

abbrev pub AreValidClientMsgs : List ClientMsg → Type 0
AreValidClientMsgs [] = ⊤
AreValidClientMsgs (m ∷ ms) = IsValidClientMsg m × AreValidClientMsgs ms

abbrev pub IsSoundInbound : Inbound → Type 0
IsSoundInbound (Err reason) = ⊤
IsSoundInbound (Ok Ping) = ⊤
IsSoundInbound (Ok (Msgs ms)) = AreValidClientMsgs ms

abbrev pub AreSoundInbounds : List Inbound → Type 0
AreSoundInbounds [] = ⊤
AreSoundInbounds (u ∷ us) = IsSoundInbound u × AreSoundInbounds us

-- and what is outbound

abbrev pub IsSoundOutbound : Outbound → Type 0
IsSoundOutbound Pong = ⊤
IsSoundOutbound (Message m) = IsValidServerMsg m
IsSoundOutbound (Closed code text) = ⊤

abbrev pub AreSoundOutbounds : List Outbound → Type 0
AreSoundOutbounds [] = ⊤
AreSoundOutbounds (m ∷ ms) = IsSoundOutbound m × AreSoundOutbounds ms

pub record IsSoundConn (q : Conn) : Type 0 where
  pub inbound : AreSoundInbounds q.inbound
  pub outbound : AreSoundOutbounds q.outbound

-- a server

pub record AreLimits (l : Limits) : Type 0 where
  pub updates : l.updates ≤ most
  pub sessions : l.sessions ≤ most_actor

-- one of that many sessions
abbrev pub IsActorOf : ℕ → Option ℕ → Type 0
IsActorOf sessions None = ⊤
IsActorOf sessions (Some a) = (1 ≤ a) × (a ≤ sessions)

pub record IsSoundLink (sessions : ℕ) (l : Link) : Type 0 where
  pub key : IsKey l.key
  pub actor : IsActorOf sessions l.actor

pub record IsSoundServer (v : Server) : Type 0 where
  pub state : IsValidState v.state
  pub limits : AreLimits v.limits
  pub links : (k : ℕ) (l : Link) → get v.links k ≡ Some l → IsSoundLink (length v.state.sessions) l

abbrev pub IsSoundHost : Host → Type 0
IsSoundHost (Running v) = IsSoundServer v
IsSoundHost (Stopped s) = IsValidState s

-- a world in which at most so many connections were opened
pub record IsSoundWorld (most_opened : ℕ) (w : World) : Type 0 where
  pub host : IsSoundHost w.host
  pub limits : AreLimits w.limits
  pub clients : (c : ℕ) → IsSound (account w c)
  pub conns : (k : ℕ) → IsSoundConn (conn w k)
  pub opened : w.opened ≤ most_opened

-- the items of a valid tree are items
abbrev pub ItemsOfValid : Type 0
ItemsOfValid = (t : Nodes) → IsValidTree t → AreItems (items_of t)

-- each entry of a run's log follows from those before it, and each tree of the log is read again
abbrev pub ValidRun : Type 0
ValidRun = (s : State) (ls : List (ℕ × Line)) → IsValidState s → AreLines ls → IsValidLog s (run (opened s) ls).log

abbrev pub ReadableRun : Type 0
ReadableRun = (s : State) (ls : List (ℕ × Line)) → IsValidState s → AreLines ls → IsReadable s ls

-- what is there after a run is sound: the server, its limits, and what waits on each connection
abbrev pub SoundWorlds : Type 0
SoundWorlds = (s : State) (ls : List (ℕ × Line)) → IsValidState s → AreLines ls
    → IsSoundWorld (length ls) (run (opened s) ls).world

-- and each client's account is sound
abbrev pub SoundAccounts : Type 0
SoundAccounts =
    (s : State) (ls : List (ℕ × Line)) (c : ℕ) → IsValidState s → AreLines ls
    → IsSound (account (run (opened s) ls).world c)
