use Rattle.std.proofs.Common.{drop, map}
use Rattle.serde.specs.Event.{Log}
use Rattle.serde_json.specs.Events.{SendsItems}
use Rattle.room_json.specs.Value.{items_of, values_of}
use Rattle.room_model.specs.Notices.{place_out}
use Rattle.room_notice.specs.Notices.{places_of}
use Rattle.room_notice.proofs.sending.send_path.Given as goal

-- whatever ends it well from here ends it well from the start
abbrev pub invariant-loop-step : goal.invariant-loop-step
invariant-loop-step g l =
    (end : Log) → SendsItems (items_of (values_of (map place_out (places_of (drop l.step-index l.path))))) (g.S.Serializer.written l.out) end
    → SendsItems (items_of (values_of (map place_out (places_of l.path)))) (g.S.Serializer.written l.initial.out) end
