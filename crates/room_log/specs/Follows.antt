-- Which entries follow a state, as a test; which states and logs are valid.
use Rattle.std.specs.Prelude.{◌≡◌, ◌≤◌, ◌<◌, ◌+◌, ◌==◌, ℕ, suc, Bool, true, false, ◌&&◌, nat_le, nat_lt, List, [], ◌∷◌}
use Rattle.std.specs.Prelude.{length, Option, Some, None, IsUtf8}
use Rattle.room_nodes.specs.Equal.{same_bodies}
use Rattle.room_nodes.specs.Shallow.{AreShallow, IsShallowTree, all_shallow}
use Rattle.room_nodes.specs.Shape.{IsFormed}
use Rattle.room_nodes.specs.Sound.{AreSoundBodies, IsSoundTree}
use Rattle.room_nodes.specs.Steps.{settle_all}
use Rattle.room_log.specs.Log.{Session, State, Update, Entry, Join, Updated, session_of, last_from, after}

-- the greatest clock, and the greatest number of updates: 2^53 - 1
abbrev pub most : ℕ
most = 9007199254740991

-- the greatest actor: 2^32 - 1
abbrev pub most_actor : ℕ
most_actor = 4294967295

-- an update of a session: its clocks run on from the session's last, it has an operation, each operation is settled on
-- the tree before it, no value is too deep, and neither the last clock nor the number of updates passes its bound
abbrev pub follows_session : State → Update → Option Session → Bool
follows_session s u None = false
follows_session s u (Some session) =
    (u.first == session.last + 1) && (nat_lt 0 (length u.bodies) && (same_bodies (settle_all s.tree u.bodies) u.bodies
    && (all_shallow u.bodies && (nat_le (last_from u.first u.bodies) most && nat_lt s.count most))))

-- a join is of the next actor
abbrev pub follows : State → Entry → Bool
follows s (Join actor key name) = (actor == suc (length s.sessions)) && nat_le actor most_actor
follows s (Updated u) = follows_session s u (session_of s.sessions u.actor)

-- the same of an update, in words
pub record IsNextUpdate (s : State) (u : Update) : Type 0 where
  pub session : Session
  pub known : session_of s.sessions u.actor ≡ Some session
  pub first : u.first ≡ session.last + 1
  pub some : 0 < length u.bodies
  pub settled : settle_all s.tree u.bodies ≡ u.bodies
  pub shallow : AreShallow u.bodies
  pub last : last_from u.first u.bodies ≤ most
  pub count : s.count + 1 ≤ most

-- a key is below 2^64
abbrev pub IsKey : ℕ → Type 0
IsKey key = key < 18446744073709551616

-- what an entry of real values is
abbrev pub IsSoundEntry : Entry → Type 0
IsSoundEntry (Join actor key name) = IsKey key × IsUtf8 name
IsSoundEntry (Updated u) = AreSoundBodies u.bodies

abbrev pub IsNext : State → Entry → Type 0
IsNext s e = (follows s e ≡ true) × IsSoundEntry e

abbrev pub IsValidLog : State → List Entry → Type 0
IsValidLog s [] = Unit {0}
IsValidLog s (e ∷ es) = IsNext s e × IsValidLog (after s e) es

pub record IsValidSession (s : Session) : Type 0 where
  pub key : IsKey s.key
  pub last : s.last ≤ most
  pub name : IsUtf8 s.name

abbrev pub AreValidSessions : List Session → Type 0
AreValidSessions [] = Unit {0}
AreValidSessions (s ∷ ss) = IsValidSession s × AreValidSessions ss

pub record IsValidState (s : State) : Type 0 where
  pub formed : IsFormed s.tree
  pub sound : IsSoundTree s.tree
  pub shallow : IsShallowTree s.tree
  pub count : s.count ≤ most
  pub sessions : AreValidSessions s.sessions
  pub actors : length s.sessions ≤ most_actor
