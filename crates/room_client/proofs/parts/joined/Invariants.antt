use Rattle.std.proofs.Common.{◌≡◌, ◌++◌, drop}
use Rattle.room_model.specs.Receive.{parts_items}
use Rattle.room_client.specs.Client.{parts_of}
use Rattle.room_client.proofs.parts.joined.Given as goal

abbrev pub invariant-loop-part : goal.invariant-loop-part
invariant-loop-part l =
    l.all ++ parts_items (parts_of (drop l.part-index l.parts)) ≡ parts_items (parts_of l.parts)
