-- What a server takes of the operations that a session sends.
use Rattle.std.specs.Prelude.{◌+◌, ◌==◌, ℕ, nat_lt, if◌then◌else◌, List, [], ◌∷◌, Option, Some, None}
use Rattle.room_nodes.specs.declared.nodes.Op.{Op}
use Rattle.room_nodes.specs.Steps.{settle_all}
use Rattle.room_log.specs.Log.{State, Update, clock_of, bodies_of, last_of}

-- nothing is new; the clocks have a gap, where one was expected and another came; or an update
pub data Taken : Type 0 where
  Nothing : Taken
  Gap : (expected : ℕ) → (got : ℕ) → Taken
  Takes : Update → Taken

-- the operations beyond the last clock; those up to it are dropped, wherever they stand
abbrev pub rest_beyond : ℕ → List Op → List Op
rest_beyond last [] = []
rest_beyond last (o ∷ os) = if nat_lt last (clock_of o) then o ∷ rest_beyond last os else rest_beyond last os

-- the first place where the clocks don't run on by ones from the expected one: which was expected there, and which came
abbrev pub gap_in : ℕ → List Op → Option (ℕ × ℕ)
gap_in expected [] = None
gap_in expected (o ∷ os) = if clock_of o == expected then gap_in (expected + 1) os else Some (expected, clock_of o)

-- what is taken of the new operations, by where their clocks have a gap
abbrev pub taken_rest : State → ℕ → List Op → Option (ℕ × ℕ) → Taken
taken_rest s a [] gap = Nothing
taken_rest s a (o ∷ os) (Some gap) = Gap gap.0 gap.1
taken_rest s a (o ∷ os) None =
    Takes (record { actor = a; first = clock_of o; bodies = settle_all s.tree (bodies_of (o ∷ os)) })

-- of the actor's operations the new ones, if their clocks run on by ones from the session's last, each settled on the
-- tree after those before it
abbrev pub take : State → ℕ → List Op → Taken
take s a os =
    let last = last_of s.sessions a in
    let rest = rest_beyond last os in
    taken_rest s a rest (gap_in (last + 1) rest)
