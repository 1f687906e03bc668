-- Why a run ended, and what is known then.
use Rattle.std.specs.Prelude.{◌≡◌, ◌≤◌, ⊤, ℕ, Result, Ok, Err, IsErrOf}
use Rattle.room_edge.specs.Causes.{Rose}
use Rattle.room_host.specs.declared.fault.HostFault.{HostFault}
use Rattle.room_host.specs.declared.fault.HostFault.TheVariants as host
use Rattle.room_replay.specs.Files.{Files}
use Rattle.room_replay.specs.Files.{Damaged as DamagedFiles}
use Rattle.room_run.specs.declared.halt.Halt.{Halt}
use Rattle.room_run.specs.declared.halt.Halt.TheVariants.{Memory, Sink, Disk, Damaged}

abbrev pub halt_of : HostFault → Halt
halt_of host.Memory = Memory
halt_of host.Disk = Disk
halt_of (host.Damaged f at) = Damaged f at

-- the disk ended it, between what two lines write
abbrev pub IsOfDisk : Halt → Type 0
IsOfDisk Memory = ⊥
IsOfDisk Sink = ⊥
IsOfDisk Disk = ⊤
IsOfDisk (Damaged f at) = ⊤

-- a line was done, or only not written whole
abbrev pub IsDone : {T : Type 0} → Result T Halt → Type 0
IsDone (Ok x) = ⊤
IsDone (Err Memory) = ⊥
IsDone (Err Sink) = ⊤
IsDone (Err Disk) = ⊥
IsDone (Err (Damaged f at)) = ⊥

-- an opening writes nothing, so that no sink fails in it
abbrev pub IsOfOpening : Halt → Type 0
IsOfOpening Memory = ⊤
IsOfOpening Sink = ⊥
IsOfOpening Disk = ⊤
IsOfOpening (Damaged f at) = ⊤

-- behind the opening no file is found damaged
abbrev pub IsWhole : Halt → Type 0
IsWhole Memory = ⊤
IsWhole Sink = ⊤
IsWhole Disk = ⊤
IsWhole (Damaged f at) = ⊥

-- which fault an opening answers of files that stand so
abbrev pub IsOfFiles : Files → Halt → Type 0
IsOfFiles fs Memory = ⊤
IsOfFiles fs Sink = ⊥
IsOfFiles fs Disk = ⊤
IsOfFiles fs (Damaged f at) = fs ≡ DamagedFiles f at

-- The counts don't fall; `Disk` comes only where the inner disk's count rose, and `Sink` only where the sink's did.
pub record HasCauses {D K T : Type 0} (faults inner_faults : D → ℕ) (sink_faults : K → ℕ) (old new : D) (told now : K)
    (result : Result T Halt) : Type 0 where
  pub later : faults old ≤ faults new
  pub inner_later : inner_faults old ≤ inner_faults new
  pub sink_later : sink_faults told ≤ sink_faults now
  pub disk : IsErrOf result Disk → Rose (inner_faults old) (inner_faults new)
  pub sink : IsErrOf result Sink → Rose (sink_faults told) (sink_faults now)
