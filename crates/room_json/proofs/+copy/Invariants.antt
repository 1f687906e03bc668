use Rattle.std.proofs.Common.{◌≡◌, List, ◌++◌, take, map}
use Rattle.room_json.specs.View.{json_of, members_view}
use Rattle.room_json.proofs.Views.{Entry}
use Rattle.room_json.proofs.+copy.Given as goal

abbrev pub invariant-tree::Items::copy-loop-item : goal.invariant-tree::Items::copy-loop-item
invariant-tree::Items::copy-loop-item l = l.copies ≡ map json_of (take l.item-index l.item-items)

abbrev pub invariant-copying::copy_entries-loop-name : goal.invariant-copying::copy_entries-loop-name
invariant-copying::copy_entries-loop-name l =
    (done : List Entry) × (l.entries.entries ≡ done ++ l.name-iterator) × (l.copies ≡ members_view done)
