-- Laws of a served room: over whatever happens on its hub, from each valid opening state.
use Rattle.std.specs.Prelude.{◌≡◌, ⊤, ◌⊎◌, ℕ, ◌+◌, List, [], ◌∷◌, ◌++◌, length, Option, Some}
use Rattle.room_hub.specs.declared.hub.Event.{Event}
use Rattle.room_hub.specs.declared.hub.Event.TheVariants.{Opened, Frame, Gone, Quiet, End}
use Rattle.room_hub.specs.declared.hub.Happening.{Happening}
use Rattle.room_hub.specs.declared.hub.Happening.TheVariants.{Gave, Did, Failed}
use Rattle.room_nodes.specs.declared.nodes.Op.{Op}
use Rattle.room_msg.specs.Frame.{client_frame_in}
use Rattle.room_msg.specs.declared.messages.ServerMsg.{ServerMsg}
use Rattle.room_msg.specs.declared.messages.ServerMsg.TheVariants as server
use Rattle.room_log.specs.Log.{Session, State, Update, Entry, Join, updates_of, ops_of, session_of, state_after}
use Rattle.room_log.specs.Follows.{IsKey, IsValidLog, IsValidState}
use Rattle.room_model.specs.Access.{Access}
use Rattle.room_model.specs.Server.{Outbound, Pong, Message, Closed}
use Rattle.room_model.specs.Sound.{IsReadSound}
use Rattle.room_serving.specs.Serving.{Serving, Serves, opening, served}

-- what a hub gives: keys are below 2^64, and what is read of a text is as its reader says

abbrev pub IsSoundEvent : Event → Type 0
IsSoundEvent (Opened k key) = IsKey key
IsSoundEvent (Frame k text) = IsReadSound (client_frame_in text)
IsSoundEvent (Gone k) = ⊤
IsSoundEvent Quiet = ⊤
IsSoundEvent End = ⊤

abbrev pub IsSoundHappening : Happening → Type 0
IsSoundHappening (Gave e) = IsSoundEvent e
IsSoundHappening (Did d) = ⊤
IsSoundHappening Failed = ⊤

abbrev pub AreSound : List Happening → Type 0
AreSound [] = ⊤
AreSound (h ∷ hs) = IsSoundHappening h × AreSound hs

-- the entries of all turns, in order
abbrev pub log_of : List (List Entry) → List Entry
log_of [] = []
log_of (g ∷ gs) = g ++ log_of gs

-- Parts. What serves is served from its first part on, and back; the log only grows, turn by turn.

pub record InParts (m : Serving) (hs ks : List Happening) : Type 0 where
  pub first : Serves m hs
  pub rest : Serves (served m hs) ks

pub record Adds (now later : List (List Entry)) : Type 0 where
  pub more : List (List Entry)
  pub is : later ≡ now ++ more

pub record Parts : Type 0 where
  pub cut : (m : Serving) (hs ks : List Happening) → Serves m (hs ++ ks) → InParts m hs ks
  pub joined : (m : Serving) (hs ks : List Happening) → InParts m hs ks → Serves m (hs ++ ks)
  pub goes_on : (m : Serving) (hs ks : List Happening) → served m (hs ++ ks) ≡ served (served m hs) ks
  pub grows : (m : Serving) (hs : List Happening) → Adds m.groups (served m hs).groups

-- The log is valid, and leads to the server's state.

pub record IsLogOf (s : State) (m : Serving) : Type 0 where
  pub valid : IsValidLog s (log_of m.groups)
  pub state : m.server.state ≡ state_after s (log_of m.groups)

abbrev pub ServedValid : Type 0
ServedValid =
    (s : State) (room : List ℕ) (access : Option Access) (turns : ℕ) (hs : List Happening) → IsValidState s
    → AreSound hs → IsLogOf s (served (opening s room access turns) hs)

-- What is to be sent is in the log: an update is the one of its number there, and a room state names a session of the
-- opening state or one that joined since. So it is for all that is sent, since it is tried only then.

pub record IsUpdateOf (s : State) (log : List Entry) (seq : ℕ) (os : List Op) : Type 0 where
  pub before : List Update
  pub update : Update
  pub behind : List Update
  pub at : updates_of log ≡ before ++ update ∷ behind
  pub number : seq ≡ s.count + length before + 1
  pub ops : os ≡ ops_of update

pub record IsKnown (s : State) (actor key : ℕ) : Type 0 where
  pub session : Session
  pub known : session_of s.sessions actor ≡ Some session
  pub same : session.key ≡ key

pub record HasJoined (log : List Entry) (actor key : ℕ) : Type 0 where
  pub before : List Entry
  pub name : List ℕ
  pub behind : List Entry
  pub at : log ≡ before ++ Join actor key name ∷ behind

abbrev pub IsLoggedMessage : State → List Entry → ServerMsg → Type 0
IsLoggedMessage s log (server.Presence a target patch) = ⊤
IsLoggedMessage s log (server.Joined a) = ⊤
IsLoggedMessage s log (server.Left a) = ⊤
IsLoggedMessage s log (server.Broadcast a e) = ⊤
IsLoggedMessage s log (server.RoomState a key users) = IsKnown s a key ⊎ HasJoined log a key
IsLoggedMessage s log (server.State seq last items more) = ⊤
IsLoggedMessage s log (server.Update seq os) = IsUpdateOf s log seq os

abbrev pub IsLogged : State → List Entry → Outbound → Type 0
IsLogged s log Pong = ⊤
IsLogged s log (Message m) = IsLoggedMessage s log m
IsLogged s log (Closed code text) = ⊤

abbrev pub AreLogged : State → List Entry → List (ℕ × Outbound) → Type 0
AreLogged s log [] = ⊤
AreLogged s log (o ∷ os) = IsLogged s log o.1 × AreLogged s log os

abbrev pub SentIsLogged : Type 0
SentIsLogged =
    (s : State) (room : List ℕ) (access : Option Access) (turns : ℕ) (hs : List Happening) → IsValidState s
    → AreSound hs → AreLogged s
    (log_of (served (opening s room access turns) hs).groups) (served (opening s room access turns) hs).todo
