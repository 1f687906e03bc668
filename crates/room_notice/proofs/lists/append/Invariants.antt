use Rattle.std.proofs.Common.{◌≡◌, ◌++◌, map, drop}
use Rattle.room_json.specs.View.{json_of}
use Rattle.room_notice.proofs.lists.append.Given as goal

abbrev pub invariant-loop-item : goal.invariant-loop-item
invariant-loop-item l = l.to ++ map json_of (drop l.item-index l.items) ≡ l.initial.to ++ map json_of l.items
