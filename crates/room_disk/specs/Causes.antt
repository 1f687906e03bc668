-- When a disk may answer a fault.
use Rattle.std.specs.Prelude.{◌≡◌, ℕ, ◌≤◌, Bool, true, false, Result, IsErrOf}
use Rattle.room_edge.specs.Causes.{Rose}
use Rattle.room_disk.specs.declared.disk.DiskFault.{DiskFault}
use Rattle.room_disk.specs.declared.disk.DiskFault.TheVariants.{Memory, Failed}

-- The counts don't fall. `Failed` comes only where the count rose, and the inner one too where it wasn't the stop;
-- `Memory` only from a disk that may run out of it.
pub record HasCause {D T : Type 0} (may_run_out : Bool) (faults inner_faults : D → ℕ) (stopped : D → Bool)
    (old new : D) (result : Result T DiskFault) : Type 0 where
  pub later : faults old ≤ faults new
  pub inner_later : inner_faults old ≤ inner_faults new
  pub failed : IsErrOf result Failed → Rose (faults old) (faults new)
  pub inner_failed : stopped new ≡ false → IsErrOf result Failed → Rose (inner_faults old) (inner_faults new)
  pub memory : IsErrOf result Memory → may_run_out ≡ true
