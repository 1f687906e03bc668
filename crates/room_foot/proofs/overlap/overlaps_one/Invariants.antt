use Rattle.std.proofs.Common.{◌≡◌, drop}
use Rattle.room_nodes.specs.Cells.{overlaps_some}
use Rattle.room_foot.proofs.overlap.overlaps_one.Given as goal

abbrev pub invariant-loop-d : goal.invariant-loop-d
invariant-loop-d l = overlaps_some l.c (drop l.d-index l.others) ≡ overlaps_some l.c l.others
