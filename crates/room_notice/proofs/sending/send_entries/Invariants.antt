use Rattle.serde.specs.Event.{Log}
use Rattle.serde_json.specs.Events.{SendsMembers}
use Rattle.room_json.specs.Value.{fields_of, members_of}
use Rattle.room_json.specs.View.{members_view}
use Rattle.room_notice.proofs.sending.send_entries.Given as goal

-- whatever ends it well from here ends it well from the start
abbrev pub invariant-loop-name : goal.invariant-loop-name
invariant-loop-name g l =
    (end : Log) → SendsMembers (members_of (fields_of (members_view l.name-iterator))) (g.S.Serializer.written l.out) end
    → SendsMembers (members_of (fields_of (members_view l.entries.entries))) (g.S.Serializer.written l.initial.out) end
