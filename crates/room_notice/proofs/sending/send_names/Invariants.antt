use Rattle.std.proofs.Common.{drop, map}
use Rattle.serde.specs.Event.{Log}
use Rattle.serde_json.specs.Events.{SendsItems}
use Rattle.room_json.specs.Value.{items_of, text, values_of}
use Rattle.room_notice.proofs.sending.send_names.Given as goal

-- whatever ends it well from here ends it well from the start
abbrev pub invariant-loop-name : goal.invariant-loop-name
invariant-loop-name g l =
    (end : Log) → SendsItems (items_of (values_of (map text (drop l.name-index l.names)))) (g.S.Serializer.written l.out) end
    → SendsItems (items_of (values_of (map text l.names))) (g.S.Serializer.written l.initial.out) end
