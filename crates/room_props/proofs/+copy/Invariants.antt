use Rattle.std.proofs.Common.{◌≡◌, List, ◌++◌, take, map}
use Rattle.room_props.specs.Inits.{init_of, named}
use Rattle.room_props.proofs.Views.{Entry}
use Rattle.room_props.proofs.+copy.Given as goal

abbrev pub invariant-live::Inits::copy-loop-item : goal.invariant-live::Inits::copy-loop-item
invariant-live::Inits::copy-loop-item l = l.copies ≡ map init_of (take l.item-index l.item-items)

abbrev pub invariant-copying::copy_entries-loop-name : goal.invariant-copying::copy_entries-loop-name
invariant-copying::copy_entries-loop-name l =
    (done : List Entry) × (l.entries.entries ≡ done ++ l.name-iterator) × (l.copies ≡ named done)
