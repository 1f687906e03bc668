-- Why a room is served no longer, and what is known then.
use Rattle.std.specs.Prelude.{◌≡◌, ◌≤◌, ⊤, ℕ, Bool, true, false, List, [], ◌∷◌, ◌++◌, Result, IsErrOf}
use Rattle.room_edge.specs.Causes.{Rose}
use Rattle.room_edge.specs.Memory.{next}
use Rattle.room_hub.specs.declared.hub.Happening.{Happening}
use Rattle.room_hub.specs.declared.hub.Happening.TheVariants.{Failed}
use Rattle.room_replay.specs.Files.{Files}
use Rattle.room_replay.specs.Files.{Damaged as DamagedFiles}
use Rattle.room_store.specs.declared.fault.StoreFault.{StoreFault}
use Rattle.room_store.specs.declared.fault.StoreFault.TheVariants as store
use Rattle.room_server.specs.declared.fault.ServerFault.{ServerFault}
use Rattle.room_server.specs.declared.fault.ServerFault.TheVariants as server
use Rattle.room_turns.specs.declared.fault.ServeFault.{ServeFault}
use Rattle.room_turns.specs.declared.fault.ServeFault.TheVariants.{Memory, Disk, Hub, Damaged}

-- what the faults of the layers below become

abbrev pub of_server : ServerFault → ServeFault
of_server (server.Broken c) = Memory
of_server server.Memory = Memory
of_server server.Disk = Disk

abbrev pub of_store : StoreFault → ServeFault
of_store (store.Broken c) = Memory
of_store store.Memory = Memory
of_store store.Disk = Disk
of_store (store.Damaged f at) = Damaged f at
of_store (store.Gap e g) = Memory
of_store (store.Full n) = Memory
of_store (store.SessionsFull n) = Memory

-- which fault an opening answers of files that stand so; the hub isn't asked in it
abbrev pub IsOfFiles : Files → ServeFault → Type 0
IsOfFiles fs Memory = ⊤
IsOfFiles fs Disk = ⊤
IsOfFiles fs Hub = ⊥
IsOfFiles fs (Damaged f at) = fs ≡ DamagedFiles f at

-- what an opening may answer: it asks no hub
abbrev pub IsOfOpening : ServeFault → Type 0
IsOfOpening Memory = ⊤
IsOfOpening Disk = ⊤
IsOfOpening Hub = ⊥
IsOfOpening (Damaged f at) = ⊤

-- what a turn may answer
abbrev pub IsOfTurn : ServeFault → Type 0
IsOfTurn Memory = ⊤
IsOfTurn Disk = ⊤
IsOfTurn Hub = ⊥
IsOfTurn (Damaged f at) = ⊥

-- behind the opening no file is found damaged
abbrev pub IsWhole : ServeFault → Type 0
IsWhole Memory = ⊤
IsWhole Disk = ⊤
IsWhole Hub = ⊤
IsWhole (Damaged f at) = ⊥

-- between the hub as it was and as it is there was a call of `next` that failed, in which its count rose
pub record NextFailed {H : Type 0} (tells : Bool) (happened : H → List Happening) (asked faults : H → ℕ) (was is : H)
    : Type 0 where
  pub before : H
  pub behind : H
  pub since : faults was ≤ faults before
  pub till : faults behind ≤ faults is
  pub rose : Rose (faults before) (faults behind)
  pub asks : asked behind ≡ next (asked before)
  pub failed : tells ≡ true → happened behind ≡ happened before ++ Failed ∷ []

-- The counts don't fall. `Disk` comes only where the disk's count rose, and the inner one too where it wasn't the stop;
-- `Hub` only where the hub's rose in a `next`.
pub record HasCauses {D H T : Type 0} (faults inner_faults : D → ℕ) (stopped : D → Bool) (tells : Bool)
    (happened : H → List Happening) (asked hub_faults : H → ℕ) (old new : D) (was is : H) (result : Result T ServeFault)
    : Type 0 where
  pub later : faults old ≤ faults new
  pub inner_later : inner_faults old ≤ inner_faults new
  pub hub_later : hub_faults was ≤ hub_faults is
  pub disk : IsErrOf result Disk → Rose (faults old) (faults new)
  pub inner_disk : stopped new ≡ false → IsErrOf result Disk → Rose (inner_faults old) (inner_faults new)
  pub hub : IsErrOf result Hub → NextFailed tells happened asked hub_faults was is
