use Rattle.std.proofs.Common.{◌≡◌, ◌++◌, drop, map}
use Rattle.room_json.specs.View.{json_of}
use Rattle.room_arrivals.proofs.fetching.copy_items.Given as goal

abbrev pub invariant-loop-item : goal.invariant-loop-item
invariant-loop-item l = l.copies ++ map json_of (drop l.item-index l.items) ≡ map json_of l.items
