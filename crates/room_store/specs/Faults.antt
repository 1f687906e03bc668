-- Which answers a store gives, and what they leave.
use Rattle.std.specs.Prelude.{◌≡◌, ◌⊎◌, ◌≤◌, ℕ, nat_le, Bool, false, if◌then◌else◌}
use Rattle.std.specs.Prelude.{Option, Some, None, Result, Ok, Err, IsErrOf}
use Rattle.room_edge.specs.Causes.{Rose}
use Rattle.room_journal.specs.declared.fault.JournalFault.{JournalFault}
use Rattle.room_journal.specs.declared.fault.JournalFault.TheVariants as journal
use Rattle.room_replay.specs.Files.{Files}
use Rattle.room_replay.specs.Files.{Damaged as DamagedFiles}
use Rattle.room_store.specs.declared.fault.Cause.{Cause}
use Rattle.room_store.specs.declared.fault.Cause.TheVariants as by
use Rattle.room_store.specs.declared.fault.StoreFault.{StoreFault}
use Rattle.room_store.specs.declared.fault.StoreFault.TheVariants.{Broken, Memory, Disk, Damaged, Gap, Full}
use Rattle.room_store.specs.declared.fault.StoreFault.TheVariants.{SessionsFull}

-- what a fault and an answer of the journal become, and by what they break a store

abbrev pub as_store : JournalFault → StoreFault
as_store journal.Memory = Memory
as_store journal.Disk = Disk
as_store (journal.Damaged f at) = Damaged f at

abbrev pub told : {T : Type 0} → Result T JournalFault → Result T StoreFault
told (Ok x) = Ok x
told (Err e) = Err (as_store e)

abbrev pub cause_of : JournalFault → Cause
cause_of journal.Memory = by.Memory
cause_of journal.Disk = by.Disk
cause_of (journal.Damaged f at) = by.Disk

abbrev pub cause_in : {T : Type 0} → Result T JournalFault → Option Cause
cause_in (Ok x) = None
cause_in (Err e) = Some (cause_of e)

-- a broken store answers so, and stays so; another is broken by a fault of its disk, and by nothing else
abbrev pub IsBroken : {T : Type 0} → Option Cause → Option Cause → Result T StoreFault → Type 0
IsBroken (Some c) new result = (new ≡ Some c) × (result ≡ Err (Broken c))
IsBroken None new (Ok x) = new ≡ None
IsBroken None new (Err Memory) = new ≡ Some by.Memory
IsBroken None new (Err Disk) = new ≡ Some by.Disk
IsBroken None new (Err (Broken c)) = ⊥
IsBroken None new (Err (Damaged f at)) = ⊥
IsBroken None new (Err (Gap e g)) = ⊥
IsBroken None new (Err (Full n)) = ⊥
IsBroken None new (Err (SessionsFull n)) = ⊥

-- the same of a call that may be out of memory by itself
abbrev pub IsBrokenOrFull : {T : Type 0} → Option Cause → Option Cause → Result T StoreFault → Type 0
IsBrokenOrFull (Some c) new result = IsBroken (Some c) new result
IsBrokenOrFull None new (Err Memory) = (new ≡ None) ⊎ (new ≡ Some by.Memory)
IsBrokenOrFull None new result = IsBroken None new result

-- The counts don't fall. `Disk` comes only where the count rose, and the inner one too where it wasn't the stop.
pub record HasDiskCause {D T : Type 0} (faults inner_faults : D → ℕ) (stopped : D → Bool) (old new : D)
    (result : Result T StoreFault) : Type 0 where
  pub later : faults old ≤ faults new
  pub inner_later : inner_faults old ≤ inner_faults new
  pub failed : IsErrOf result Disk → Rose (faults old) (faults new)
  pub inner_failed : stopped new ≡ false → IsErrOf result Disk → Rose (inner_faults old) (inner_faults new)

-- what is answered of files that stand so, beside Ok, where the disk doesn't fail
abbrev pub IsFault : Files → StoreFault → Type 0
IsFault fs Memory = Unit {0}
IsFault fs Disk = ⊥
IsFault fs (Broken c) = ⊥
IsFault fs (Damaged f at) = fs ≡ DamagedFiles f at
IsFault fs (Gap e g) = ⊥
IsFault fs (Full n) = ⊥
IsFault fs (SessionsFull n) = ⊥

-- what a planning is refused with, but for want of memory: a broken store with its cause; a session, where the number n
-- of sessions has reached the limit
abbrev pub join_refusal : Option Cause → (n limit : ℕ) → Option StoreFault
join_refusal (Some c) n limit = Some (Broken c)
join_refusal None n limit = if nat_le limit n then Some (SessionsFull n) else None

-- where there is a refusal, the answer is that; else it is Ok, or that memory is short
abbrev pub IsRefusedBy : {T : Type 0} → Option StoreFault → Result T StoreFault → Type 0
IsRefusedBy (Some e) result = result ≡ Err e
IsRefusedBy None (Ok x) = Unit {0}
IsRefusedBy None (Err e) = e ≡ Memory
