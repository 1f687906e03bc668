use Rattle.std.proofs.Common.{◌≡◌, length}
use Rattle.room_ids.specs.Position.{is_spelled}
use Rattle.room_ids.proofs.places.are_spelled.Given as goal

abbrev pub invariant-loop-rest : goal.invariant-loop-rest
invariant-loop-rest l = is_spelled l.rest ≡ is_spelled l.t

abbrev pub decreases-loop-rest : goal.decreases-loop-rest
decreases-loop-rest l = length l.rest
