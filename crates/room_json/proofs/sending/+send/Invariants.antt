use Rattle.std.proofs.Common.{drop, map}
use Rattle.serde.specs.Event.{Log}
use Rattle.serde_json.specs.Events.{SendsItems, SendsMembers}
use Rattle.room_json.specs.Profile.{AreJson, HaveJson}
use Rattle.room_json.specs.Value.{values_of, fields_of, items_of as items_data, members_of as members_data}
use Rattle.room_json.specs.View.{json_of, members_view}
use Rattle.room_json.proofs.sending.+send.Given as goal

-- whatever ends it well from here ends it well from the start
abbrev pub invariant-send_items-loop-item : goal.invariant-send_items-loop-item
invariant-send_items-loop-item g l =
    ((end : Log) → SendsItems (items_data (values_of (map json_of (drop l.item-index l.items)))) (g.S.Serializer.written l.out) end → SendsItems (items_data (values_of (map json_of l.items))) (g.S.Serializer.written l.initial.out) end)
    × (AreJson (values_of (map json_of (drop l.item-index l.items))) → AreJson (values_of (map json_of l.items)))

abbrev pub invariant-send_members-loop-name : goal.invariant-send_members-loop-name
invariant-send_members-loop-name g l =
    ((end : Log) → SendsMembers (members_data (fields_of (members_view l.name-iterator))) (g.S.Serializer.written l.out) end → SendsMembers (members_data (fields_of (members_view l.entries.entries))) (g.S.Serializer.written l.initial.out) end)
    × (HaveJson (fields_of (members_view l.name-iterator)) → HaveJson (fields_of (members_view l.entries.entries)))
