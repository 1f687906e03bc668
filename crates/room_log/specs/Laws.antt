-- Laws of the log: what is taken, and what follows.
use Rattle.std.specs.Prelude.{◌≡◌, ◌≤◌, ◌+◌, ◌↔◌, ℕ, true, List, Some}
use Rattle.room_nodes.specs.declared.nodes.Op.{Op}
use Rattle.room_nodes.specs.Shallow.{AreShallowOps}
use Rattle.room_nodes.specs.Sound.{AreSoundOps}
use Rattle.room_log.specs.Log.{Session, State, Update, Entry, Updated, empty_state, session_of, after, state_after}
use Rattle.room_log.specs.Follows.{IsValidState, IsNext, IsNextUpdate, IsValidLog, follows, most}
use Rattle.room_log.specs.Taking.{Nothing, Takes, take}

-- what was taken is taken once: the same operations again are nothing
abbrev pub TakenOnce : Type 0
TakenOnce = (s : State) (a : ℕ) (os : List Op) (u : Update) (session : Session) →
    session_of s.sessions a ≡ Some session → take s a os ≡ Takes u → take (after s (Updated u)) a os ≡ Nothing

-- what is taken of a session's operations follows, where they are sound and shallow and the number of updates is below
-- its bound. The clocks of sound operations are at most the greatest one, so the last of an update is
abbrev pub TakenFollows : Type 0
TakenFollows = (s : State) (a : ℕ) (os : List Op) (u : Update) (session : Session) → IsValidState s →
    session_of s.sessions a ≡ Some session → AreSoundOps os → AreShallowOps os → take s a os ≡ Takes u →
    s.count + 1 ≤ most → IsNext s (Updated u)

-- the test says what follows: an update of a session whose clocks run on, settled, shallow and within the bounds
abbrev pub FollowsExactly : Type 0
FollowsExactly = (s : State) (u : Update) → (follows s (Updated u) ≡ true) ↔ IsNextUpdate s u

-- the empty state is valid; a valid entry leads from a valid state to a valid state, and a valid log does
pub record ValidAfter : Type 0 where
  pub empty : IsValidState empty_state
  pub entry : (s : State) (e : Entry) → IsValidState s → IsNext s e → IsValidState (after s e)
  pub log : (s : State) (es : List Entry) → IsValidState s → IsValidLog s es → IsValidState (state_after s es)
