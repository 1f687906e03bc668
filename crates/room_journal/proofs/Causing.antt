-- A call that went well wasn't the stop.
use Rattle.std.proofs.Common.{◌≡◌, refl}
use Rattle.std.specs.Prelude.{Bool, true, false, Ok, IsErrOf}
use Rattle.room_disk.specs.declared.disk.DiskFault.{DiskFault}
use Rattle.room_disk.specs.declared.disk.DiskFault.TheVariants.{Failed}

pub goes_on : {T : Type 0} (b : Bool) (x : T) → (b ≡ true → IsErrOf {E = DiskFault} (Ok x) Failed) → b ≡ false
goes_on true x h = absurd (cc (h refl))
goes_on false x h = refl
