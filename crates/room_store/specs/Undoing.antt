-- What takes a state back to the one before the group that is open.
use Rattle.std.specs.Prelude.{◌≡◌, ◌≤◌, ◌+◌, ◌-◌, ℕ, List, [], ◌∷◌, length, take, Option, Some, None}
use Rattle.std.specs.FinMap.{len}
use Rattle.room_nodes.specs.Shape.{Nodes}
use Rattle.room_apply.specs.Edits.{CanTurnAll, puts_in}
use Rattle.room_apply.specs.Ways.{Way, backs, before}
use Rattle.room_log.specs.Log.{State, with_last}
use Rattle.room_log.specs.Follows.{IsValidState, most}
use Rattle.room_store.specs.declared.undo.Undo.{Undo}
use Rattle.room_store.specs.declared.undo.Undo.TheVariants.{Joined, Updated}
use Rattle.room_store.specs.declared.limits.Limits.{Limits}

-- the tree before steps, by their ways back, the last of which goes first
abbrev pub gone : Nodes → List Way → Nodes
gone t [] = t
gone t (e ∷ es) = before (gone t es) e

-- the state before a join, and before an update
abbrev pub undone_by : State → Undo → State
undone_by s Joined = record s { sessions = take (length s.sessions - 1) s.sessions }
undone_by s (Updated count actor last steps) =
    record { count = count; sessions = with_last s.sessions actor last; tree = gone s.tree steps }

-- the state before all of them, of which the last was made last
abbrev pub undone : State → List Undo → State
undone s [] = s
undone s (u ∷ us) = undone_by (undone s us) u

-- where nothing is to be undone, no group is open
abbrev pub before_of : State → List Undo → Option State
before_of s [] = None
before_of s (u ∷ us) = Some (undone s (u ∷ us))

-- the edits can go back on a tree, where its nodes and its spare places are m together
pub record CanLeave (m : ℕ) (t : Nodes) (e : Way) : Type 0 where
  pub undone : e.undone ≡ []
  pub can : CanTurnAll t (backs e)
  pub place : puts_in (backs e) + len t ≤ m

abbrev pub CanGo : ℕ → Nodes → List Way → Type 0
CanGo m t [] = Unit {0}
CanGo m t (e ∷ es) = CanLeave m (gone t es) e × CanGo m t es

abbrev pub CanUndoBy : ℕ → State → Undo → Type 0
CanUndoBy m s Joined = Unit {0}
CanUndoBy m s (Updated count actor last steps) = CanGo m s.tree steps

abbrev pub CanUndo : ℕ → State → List Undo → Type 0
CanUndo m s [] = Unit {0}
CanUndo m s (u ∷ us) = CanUndoBy m (undone s us) u × CanUndo m s us

-- what a store keeps of its parts
pub record IsWhole (m : ℕ) (s : State) (us : List Undo) (limits : Limits) : Type 0 where
  pub undo : CanUndo m s us
  pub valid : IsValidState s
  pub valid_before : IsValidState (undone s us)
  pub bounded : limits.updates ≤ most
