-- When a journal may answer a fault.
use Rattle.std.specs.Prelude.{◌≡◌, ℕ, ◌≤◌, Bool, true, false, Result, IsErrOf}
use Rattle.room_edge.specs.Causes.{Rose}
use Rattle.room_disk.specs.declared.disk.DiskFault.{DiskFault}
use Rattle.room_disk.specs.declared.disk.DiskFault.TheVariants.{Memory as DiskMemory, Failed}
use Rattle.room_journal.specs.declared.fault.JournalFault.{JournalFault}
use Rattle.room_journal.specs.declared.fault.JournalFault.TheVariants.{Memory, Disk, Damaged as DamagedAt}
use Rattle.room_journal.specs.Files.{Reading, Damaged}

-- what a disk's answer becomes
abbrev pub fault_of : DiskFault → JournalFault
fault_of DiskMemory = Memory
fault_of Failed = Disk

-- The counts don't fall. `Disk` comes only where the count rose, and the inner one too where it wasn't the stop.
pub record HasDiskCause {D T : Type 0} (faults inner_faults : D → ℕ) (stopped : D → Bool) (old new : D)
    (result : Result T JournalFault) : Type 0 where
  pub later : faults old ≤ faults new
  pub inner_later : inner_faults old ≤ inner_faults new
  pub failed : IsErrOf result Disk → Rose (faults old) (faults new)
  pub inner_failed : stopped new ≡ false → IsErrOf result Disk → Rose (inner_faults old) (inner_faults new)

-- and `Memory` only from a disk that may run out of it, and nothing else: no memory is taken, nothing is read
pub record HasCauses {D T : Type 0} (may_run_out : Bool) (faults inner_faults : D → ℕ) (stopped : D → Bool)
    (old new : D) (result : Result T JournalFault) : Type 0 where
  pub disk : HasDiskCause faults inner_faults stopped old new result
  pub memory : IsErrOf result Memory → may_run_out ≡ true
  pub no_other : (f at : ℕ) → IsErrOf result (DamagedAt f at) → ⊥

-- what is answered of files that read so, beside Ok, where the disk doesn't fail
abbrev pub IsFault : Reading → JournalFault → Type 0
IsFault r Memory = Unit {0}
IsFault r Disk = ⊥
IsFault r (DamagedAt f at) = r ≡ Damaged f at
