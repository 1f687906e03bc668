-- How the serving of a room ended.
use Rattle.std.specs.Prelude.{Option, Some, None, Result, Ok, Err}
use Rattle.room_serving.specs.Serving as serving
use Rattle.room_serving.specs.Serving.{Ending}
use Rattle.room_turns.specs.declared.ended.Ended.{Ended}
use Rattle.room_turns.specs.declared.ended.Ended.TheVariants.{AtEnd, OutOfTurns}
use Rattle.room_turns.specs.declared.fault.ServeFault.{ServeFault}
use Rattle.room_turns.specs.declared.fault.ServeFault.TheVariants.{Memory, Disk, Hub, Damaged}

abbrev pub ending_of : Ended → Ending
ending_of AtEnd = serving.Ended
ending_of OutOfTurns = serving.GoesOn

-- where all was done that was to be done; a hub that failed is answered only then
abbrev pub ending_in : Result Ended ServeFault → Option Ending
ending_in (Ok e) = Some (ending_of e)
ending_in (Err Memory) = None
ending_in (Err Disk) = None
ending_in (Err Hub) = Some serving.Missed
ending_in (Err (Damaged f at)) = None
