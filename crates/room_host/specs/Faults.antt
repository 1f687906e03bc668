-- Which faults a host answers.
use Rattle.std.specs.Prelude.{◌≡◌, ◌≤◌, ℕ, Result, IsErrOf, ⊤}
use Rattle.room_edge.specs.Causes.{Rose}
use Rattle.room_disk.specs.declared.disk.DiskFault.{DiskFault}
use Rattle.room_disk.specs.declared.disk.DiskFault.TheVariants as disk
use Rattle.room_replay.specs.Files.{Files}
use Rattle.room_replay.specs.Files.{Damaged as DamagedFiles}
use Rattle.room_store.specs.declared.fault.StoreFault.{StoreFault}
use Rattle.room_store.specs.declared.fault.StoreFault.TheVariants as store
use Rattle.room_server.specs.declared.fault.ServerFault.{ServerFault}
use Rattle.room_server.specs.declared.fault.ServerFault.TheVariants as server
use Rattle.room_host.specs.declared.fault.HostFault.{HostFault}
use Rattle.room_host.specs.declared.fault.HostFault.TheVariants.{Memory, Disk, Damaged}

-- what the faults of the layers below become

abbrev pub of_disk : DiskFault → HostFault
of_disk disk.Memory = Memory
of_disk disk.Failed = Disk

abbrev pub of_server : ServerFault → HostFault
of_server (server.Broken c) = Memory
of_server server.Memory = Memory
of_server server.Disk = Disk

abbrev pub of_store : StoreFault → HostFault
of_store (store.Broken c) = Memory
of_store store.Memory = Memory
of_store store.Disk = Disk
of_store (store.Damaged f at) = Damaged f at
of_store (store.Gap e g) = Memory
of_store (store.Full n) = Memory
of_store (store.SessionsFull n) = Memory

-- what is answered of files that stand so, beside Ok, where the disk doesn't fail
abbrev pub IsFault : Files → HostFault → Type 0
IsFault fs Memory = Unit {0}
IsFault fs Disk = ⊥
IsFault fs (Damaged f at) = fs ≡ DamagedFiles f at

-- a fault that doesn't say that files are damaged
abbrev pub IsWhole : HostFault → Type 0
IsWhole Memory = ⊤
IsWhole Disk = ⊤
IsWhole (Damaged f at) = ⊥

-- The counts don't fall, and `Disk` comes only where the inner disk's count rose: a stop is no fault.
pub record HasDiskCause {D T : Type 0} (faults inner_faults : D → ℕ) (old new : D)
    (result : Result T HostFault) : Type 0 where
  pub later : faults old ≤ faults new
  pub inner_later : inner_faults old ≤ inner_faults new
  pub failed : IsErrOf result Disk → Rose (inner_faults old) (inner_faults new)
