-- Which faults a server answers, and what they leave.
use Rattle.std.specs.Prelude.{◌≡◌, ◌⊎◌, ◌≤◌, ℕ, Bool, true, false, Option, Some, None, Result, Ok, Err, IsErrOf}
use Rattle.room_edge.specs.Causes.{Rose}
use Rattle.room_store.specs.declared.fault.Cause.{Cause}
use Rattle.room_store.specs.declared.fault.Cause.TheVariants as by
use Rattle.room_store.specs.declared.fault.StoreFault.{StoreFault}
use Rattle.room_store.specs.declared.fault.StoreFault.TheVariants as store
use Rattle.room_server.specs.declared.fault.ServerFault.{ServerFault}
use Rattle.room_server.specs.declared.fault.ServerFault.TheVariants.{Broken, Memory, Disk}

abbrev pub as_server : StoreFault → ServerFault
as_server (store.Broken c) = Broken c
as_server store.Memory = Memory
as_server store.Disk = Disk
as_server (store.Damaged f at) = Memory
as_server (store.Gap e g) = Memory
as_server (store.Full n) = Memory
as_server (store.SessionsFull n) = Memory

-- what breaks a server: what broke its store, or that a turn was out of memory
abbrev pub cause_of : Bool → Option Cause → Option Cause
cause_of true broken = Some by.Memory
cause_of false broken = broken

-- a broken server answers so, and stays so; another doesn't
abbrev pub IsBroken : {T : Type 0} → Option Cause → Option Cause → Result T ServerFault → Type 0
IsBroken (Some c) new result = (new ≡ Some c) × (result ≡ Err (Broken c))
IsBroken None new (Ok x) = new ≡ None
IsBroken None new (Err Memory) = (new ≡ None) ⊎ (new ≡ Some by.Memory)
IsBroken None new (Err Disk) = new ≡ Some by.Disk
IsBroken None new (Err (Broken c)) = ⊥

-- the counts don't fall, and `Disk` comes only where the count rose
pub record HasDiskCause {D T : Type 0} (faults inner_faults : D → ℕ) (stopped : D → Bool) (old new : D)
    (result : Result T ServerFault) : Type 0 where
  pub later : faults old ≤ faults new
  pub inner_later : inner_faults old ≤ inner_faults new
  pub failed : IsErrOf result Disk → Rose (faults old) (faults new)
  pub inner_failed : stopped new ≡ false → IsErrOf result Disk → Rose (inner_faults old) (inner_faults new)
