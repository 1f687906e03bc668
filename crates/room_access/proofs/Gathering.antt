-- A fault of what is left to read is one of the whole text.
use Rattle.std.proofs.Common.{◌≡◌, ℕ, List, Result, Ok, Err}
use Rattle.room_model.specs.Access.{Access}
use Rattle.room_access.specs.Grammar.{Line}
use Rattle.room_access.specs.Lines.{behind, IsFaultOf}
use Rattle.room_access.specs.declared.fault.AccessFault.{AccessFault}
use Rattle.room_access.specs.declared.fault.AccessFault.TheVariants.{Memory, BadLine}

pub fault_goes : (a : Access) (r : Result (List (ℕ × Line)) ℕ) (w : Result Access ℕ) (e : AccessFault) → behind a r ≡ w → IsFaultOf r e → IsFaultOf w e
fault_goes a r w Memory h f = tt
fault_goes a (Ok ls) w (BadLine k) h f = cc
fault_goes a (Err bad) w (BadLine k) h f = cc
