-- What a hub gives, as the server takes it.
use Rattle.std.specs.Prelude.{Bool, true, false, List, map}
use Rattle.room_hub.specs.declared.hub.Event.{Event}
use Rattle.room_hub.specs.declared.hub.Event.TheVariants as event
use Rattle.room_hub.specs.declared.hub.Happening.{Happening}
use Rattle.room_hub.specs.declared.hub.Happening.TheVariants.{Gave, Failed}
use Rattle.room_server.specs.declared.arrivals.Came.{Came}
use Rattle.room_server.specs.declared.arrivals.Came.TheVariants as came
use Rattle.room_serving.specs.Serving as serving
use Rattle.room_turns.specs.declared.gathering.Ending.{Ending}
use Rattle.room_turns.specs.declared.gathering.Ending.TheVariants.{GoesOn, Ended, Missed}
use Rattle.room_turns.specs.declared.gathering.Given.{Given}
use Rattle.room_turns.specs.declared.gathering.Given.TheVariants.{Arrives, Ends}

abbrev pub event_of : Came → Event
event_of (came.Opened k key) = event.Opened k key
event_of (came.Frame k text) = event.Frame k text
event_of (came.Gone k) = event.Gone k

abbrev pub events_of : List Came → List Event
events_of cs = map event_of cs

abbrev pub ending_is : Ending → serving.Ending
ending_is GoesOn = serving.GoesOn
ending_is Ended = serving.Ended
ending_is Missed = serving.Missed

-- where nothing was ready it goes on
abbrev pub happening_of : Given → Happening
happening_of (Arrives c) = Gave (event_of c)
happening_of (Ends GoesOn) = Gave event.Quiet
happening_of (Ends Ended) = Gave event.End
happening_of (Ends Missed) = Failed

abbrev pub is_missed : Given → Bool
is_missed (Arrives c) = false
is_missed (Ends GoesOn) = false
is_missed (Ends Ended) = false
is_missed (Ends Missed) = true
