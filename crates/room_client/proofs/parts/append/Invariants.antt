use Rattle.std.proofs.Common.{◌≡◌, ◌++◌, drop, map}
use Rattle.room_json.specs.View.{json_of}
use Rattle.room_client.proofs.parts.append.Given as goal

abbrev pub invariant-loop-item : goal.invariant-loop-item
invariant-loop-item l =
    l.all ++ map json_of (drop l.item-index l.items) ≡ l.initial.all ++ map json_of l.items
