use Rattle.std.proofs.Common.{◌≡◌, take}
use Rattle.room_msg.proofs.copies.copy_pairs.Given as goal

abbrev pub invariant-loop-pair : goal.invariant-loop-pair
invariant-loop-pair l = l.users ≡ take l.pair-index l.pairs
