use Rattle.std.proofs.Common.{◌≡◌, drop}
use Rattle.room_items.specs.Items.{same_ids}
use Rattle.room_items.proofs.order.same_list.Given as goal

abbrev pub invariant-loop-x : goal.invariant-loop-x
invariant-loop-x l = same_ids (drop l.x-index l.a) l.rest ≡ same_ids l.a l.b
