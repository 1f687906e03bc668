use Rattle.std.proofs.Common.{drop, map}
use Rattle.serde.specs.Event.{Log}
use Rattle.serde_json.specs.Events.{SendsItems}
use Rattle.room_json.specs.Value.{items_of, values_of}
use Rattle.room_model.specs.Notices.{notice_out}
use Rattle.room_notice.specs.Notices.{notices_in}
use Rattle.room_notice.proofs.sending.send_notices.Given as goal

-- whatever ends it well from here ends it well from the start
abbrev pub invariant-loop-notice : goal.invariant-loop-notice
invariant-loop-notice g l =
    (end : Log) → SendsItems (items_of (values_of (map notice_out (notices_in (drop l.notice-index l.notices))))) (g.S.Serializer.written l.out) end
    → SendsItems (items_of (values_of (map notice_out (notices_in l.notices)))) (g.S.Serializer.written l.initial.out) end
