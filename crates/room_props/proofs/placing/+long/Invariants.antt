use Rattle.std.proofs.Common.{◌≡◌, map, drop}
use Rattle.room_ids.specs.Position.{first as first_of}
use Rattle.room_model.specs.Edits.{too_long}
use Rattle.room_model.specs.Init.{parts_positions, item_positions}
use Rattle.room_props.specs.Inits.{init_of, inits_of, parts_of, named}
use Rattle.room_props.specs.Weighing.{following}
use Rattle.room_props.proofs.placing.+long.Given as goal

abbrev pub invariant-long_in_parts-loop-name : goal.invariant-long_in_parts-loop-name
invariant-long_in_parts-loop-name l =
    too_long (parts_positions (parts_of (named l._name-iterator))) ≡ too_long (parts_positions (parts_of (named l.parts.entries)))

abbrev pub invariant-long_in_items-loop-item : goal.invariant-long_in_items-loop-item
invariant-long_in_items-loop-item l =
    too_long (item_positions (following l.last) (inits_of (map init_of (drop l.item-index l.items))))
    ≡ too_long (item_positions first_of (inits_of (map init_of l.items)))
