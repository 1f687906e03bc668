use Rattle.std.proofs.Common.{◌≡◌, drop}
use Rattle.room_nodes.specs.Cells.{meets}
use Rattle.room_foot.proofs.overlap.touches.Given as goal

abbrev pub invariant-loop-c : goal.invariant-loop-c
invariant-loop-c l = meets (drop l.c-index l.cells) l.others ≡ meets l.cells l.others
