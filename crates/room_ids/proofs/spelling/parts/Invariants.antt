use Rattle.std.proofs.Common.{◌≡◌, ◌++◌, drop, take, option_map}
use Rattle.room_ids.specs.Ids.{parts_of}
use Rattle.room_ids.proofs.spelling.parts.Given as goal

abbrev pub invariant-loop-at : goal.invariant-loop-at
invariant-loop-at l = option_map (λ p. (take l.at l.t ++ p.0, p.1)) (parts_of (drop l.at l.t)) ≡ parts_of l.t
