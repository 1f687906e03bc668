-- Which actors attached connections have.
use Rattle.std.specs.Prelude.{◌≡◌, ◌≤◌, ℕ, ⊤, List, Option, Some, None, IsSome}
use Rattle.std.specs.Ordering.{nat_cmp}
use Rattle.std.specs.FinMap.{FinMap, get}
use Rattle.room_msg.specs.declared.messages.Resume.{Resume}
use Rattle.room_log.specs.Log.{Session, session_of}
use Rattle.room_model.specs.Server.{Link}

-- one of that many sessions
abbrev pub IsSeat : ℕ → Option ℕ → Type 0
IsSeat sessions None = ⊤
IsSeat sessions (Some a) = (1 ≤ a) × (a ≤ sessions)

-- the session of each connection is there
unfoldable pub AreSeated : ℕ → FinMap nat_cmp Link → Type 0
AreSeated sessions ls = (k : ℕ) (l : Link) → get ls k ≡ Some l → IsSeat sessions l.actor

-- a session that is resumed is there
abbrev pub IsKnown : List Session → Option Resume → Type 0
IsKnown ss None = ⊤
IsKnown ss (Some r) = IsSome (session_of ss r.actor)
