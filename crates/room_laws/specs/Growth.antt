-- The log only grows, and what a recovery finds is a first part of it.
use Rattle.std.specs.Prelude.{◌≡◌, ℕ, List, ◌++◌}
use Rattle.room_log.specs.Log.{State, Entry, state_after, tree_at}
use Rattle.room_log.specs.Follows.{IsValidLog, IsValidState}
use Rattle.room_model.specs.Lines.{Line}
use Rattle.room_model.specs.World.{state_in}
use Rattle.room_model.specs.Run.{Run, run, opened}
use Rattle.room_laws.specs.Validity.{AreLines}

-- the server's state, or the one that it finds when it starts again
abbrev pub state_of : Run → State
state_of r = state_in r.world.host

-- What further lines make of a run: entries are added behind those that were there, and each follows. The server
-- stands, running or stopped, where its log leads; so the tree of a recovery is that of the later log after as many
-- updates.
pub record GrowsTo (s : State) (r later : Run) : Type 0 where
  pub more : List Entry
  pub log : later.log ≡ r.log ++ more
  pub stands : state_of r ≡ state_after s r.log
  pub goes_on : state_of later ≡ state_after (state_of r) more
  pub valid : IsValidLog (state_of r) more
  pub tree : (state_of r).tree ≡ tree_at s later.log (state_of r).count

abbrev pub LogGrows : Type 0
LogGrows = (s : State) (ls ms : List (ℕ × Line)) → IsValidState s → AreLines (ls ++ ms) →
    GrowsTo s (run (opened s) ls) (run (opened s) (ls ++ ms))
