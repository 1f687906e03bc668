use Rattle.std.proofs.Common.{◌≡◌, ◌++◌, drop, map}
use Rattle.room_msg.specs.Written.{client_text}
use Rattle.room_model.specs.Account.{frame_of_event}
use Rattle.room_client.proofs.frames.put_events.Given as goal

abbrev pub invariant-loop-event : goal.invariant-loop-event
invariant-loop-event l =
    l.frames ++ map client_text (map frame_of_event (drop l.event-index l.events))
    ≡ l.initial.frames ++ map client_text (map frame_of_event l.events)
