-- Whether the update of a frame still waits.
use Rattle.std.specs.Prelude.{◌≡◌, Bool, true, false, Option, Some, None}
use Rattle.room_log.specs.Log.{Update}
use Rattle.room_log.specs.Taking.{Taken, Takes}

abbrev pub Waits : Bool → Taken → Option Update → Type 0
Waits false t o = o ≡ None
Waits true t o = (u : Update) × (t ≡ Takes u) × (o ≡ Some u)
