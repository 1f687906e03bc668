-- Sessions.
use Rattle.std.proofs.Common.{◌≡◌, ℕ, zero, suc, ◌<◌, ◌≤◌, List, length, refl, arith}
use Rattle.std.specs.Prelude.{Option, Some, None, slice_get}
use Rattle.std.proofs.lemmas.Option.{slice_get_within}
use Rattle.room_msg.specs.declared.messages.Resume.{Resume}
use Rattle.room_log.specs.Log.{State, Session, last_of, last_in}
use Rattle.room_model.specs.Account.{actor_in}
use Rattle.room_laws.specs.Invariant

slice_past : (o : Option Session) (ss : List Session) (i : ℕ) → slice_get ss i ≡ o → length ss ≤ i → last_in o ≡ 0
slice_past None ss i e h = refl
slice_past (Some x) ss i e h = absurd (omega (arith, slice_get_within ss i x e))

pub last_past : (ss : List Session) (a : ℕ) → length ss < a → last_of ss a ≡ 0
last_past ss zero h = refl
last_past ss (suc i) h = slice_past (slice_get ss i) ss i refl (omega arith)

-- a session that was begun since the opening has no clock before it
pub begun_since : (s : State) (ss : List Session) (o : Option Resume) → Invariant.StandsIn s ss o → last_of s.sessions (actor_in o) ≡ 0
begun_since s ss None h = refl
begun_since s ss (Some w) h = last_past s.sessions w.actor h.since
