-- A room that was served: what happened on the hub, and what the disk holds meanwhile and at the end.
use Rattle.std.specs.Prelude.{◌≡◌, ◌⊎◌, ◌≤◌, ◌<◌, ℕ, ◌+◌, true, false, List, ◌++◌, Option, Some, Result, Ok, Err, IsErrOf}
use Rattle.room_disk.specs.Model.{Reads, Images}
use Rattle.room_hub.specs.declared.hub.Happening.{Happening}
use Rattle.room_host.specs.Rests.{Each}
use Rattle.room_host.specs.Seen.{room_files}
use Rattle.room_journal.specs.Files.{reading}
use Rattle.room_log.specs.Log.{State}
use Rattle.room_model.specs.Access.{Access}
use Rattle.room_replay.specs.Files.{StandsFor}
use Rattle.room_serving.specs.Serving.{Serving, Serves, Ending, opening, served, is_over}
use Rattle.room_serving.specs.Turns.{is_round}
use Rattle.room_store.specs.Consistent.{BeforeOr, IsStill, Since}
use Rattle.room_turns.specs.Breaking.{is_midway}
use Rattle.room_turns.specs.Ending.{ending_in}
use Rattle.room_turns.specs.Faults.{IsOfFiles}
use Rattle.room_turns.specs.Holding.{StandsWithin, IsCompacted, WasLast, calls_in}
use Rattle.room_turns.specs.declared.ended.Ended.{Ended}
use Rattle.room_turns.specs.declared.fault.ServeFault.{ServeFault}
use Rattle.room_turns.specs.declared.fault.ServeFault.TheVariants.{Disk}

-- Nothing is left to be done, and it ended so. By the moment `till` the disk made just the calls of the turns since the
-- moment `from`. Each round number of an update is in the snapshot, but where there was no further generation.
pub record IsDone (s : State) (n : Serving) (e : Ending) (seen : Reads) (images : Images) (from till : ℕ)
    : Type 0 where
  pub over : is_over n ≡ true
  pub ending : n.ending ≡ e
  pub calls : till ≡ from + calls_in s n.groups
  pub compacted : (k : ℕ) → s.count < k → k ≤ n.server.state.count → is_round k ≡ true
      → IsCompacted seen k ⊎ WasLast images from till

-- From `m`, a room over the state s, what happened on the hub is what serving asks for. The images are those of the disk
-- from the moment `since` on, and `from` is the moment before the first turn.
pub record Served (s : State) (m : Serving) (was is : List Happening) (seen : Reads) (images : Images)
    (since from till : ℕ) (result : Result Ended ServeFault) : Type 0 where
  pub happened : List Happening
  pub happened_is : is ≡ was ++ happened
  pub serves : Serves m happened
  -- at each moment each image stands for the state after a first part of the turns
  pub stands : Since since till images (StandsWithin s (served m happened).groups 0)
  -- at the end with each turn of which anything was sent
  pub holds : Each (images till) (StandsWithin s (served m happened).groups (served m happened).owed)
  -- however it ends, the disk made no more calls than these
  pub later : from ≤ till
  pub calls : till ≤ from + calls_in s (served m happened).groups
  -- where the disk failed, all of a turn was tried or nothing
  pub unbroken : IsErrOf result Disk → is_midway m false happened ≡ false
  pub done : (e : Ending) → ending_in result ≡ Some e → IsDone s (served m happened) e seen images from till

-- Within the opening an image is one from before it, or stands for the state that the files stand for; since its two
-- syncs the images stand for that state with a first part of the turns.
pub record Opened (s : State) (room : List ℕ) (access : Option Access) (turns : ℕ) (was is : List Happening)
    (old seen : Reads) (images : Images) (from till : ℕ) (result : Result Ended ServeFault) : Type 0 where
  pub opened : ℕ
  -- the calls of the opening: two where it makes no file
  pub most : opened ≤ from + 8
  pub two : IsStill (reading 0 (old 0) (old 1)) → opened ≡ from + 2
  pub opens : Since from opened images (BeforeOr (images from) (StandsFor 0 s))
  pub served : Served s (opening s room access turns) was is seen images (from + 2) opened till result

-- Or the opening itself ended it: nothing happened on the hub.
pub record Unopened (s : State) (was is : List Happening) (old : Reads) (images : Images) (from till : ℕ)
    (fault : ServeFault) : Type 0 where
  pub untouched : is ≡ was
  pub opens : Since from till images (BeforeOr (images from) (StandsFor 0 s))
  pub of_files : IsOfFiles (room_files old) fault

abbrev pub ServesRoom : State → (room : List ℕ) → Option Access → (turns : ℕ) → (was is : List Happening)
    → (old seen : Reads) → Images → (from till : ℕ) → Result Ended ServeFault → Type 0
ServesRoom s room access turns was is old seen images from till (Ok e) =
    Opened s room access turns was is old seen images from till (Ok e)
ServesRoom s room access turns was is old seen images from till (Err fault) =
    Unopened s was is old images from till fault
    ⊎ Opened s room access turns was is old seen images from till (Err fault)
