use Rattle.std.proofs.Common.{◌≡◌, drop}
use Rattle.room_nodes.specs.Shallow.{all_shallow}
use Rattle.room_bytes.proofs.shallow.all_shallow.Given as goal

abbrev pub invariant-loop-body : goal.invariant-loop-body
invariant-loop-body l = all_shallow (drop l.body-index l.bodies) ≡ all_shallow l.bodies
