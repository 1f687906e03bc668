-- What is taken back among other steps.
use Rattle.std.specs.Prelude.{◌≤◌, List}
use Rattle.room_nodes.specs.Cells.{Agrees}
use Rattle.room_nodes.specs.Shape.{Nodes}
use Rattle.room_nodes.specs.declared.cells.Cell.{Cell}
use Rattle.room_apply.specs.Edits.{puts_in}
use Rattle.room_apply.specs.Ways.{GoesBack, Way, backs, nodes_of}

-- the edits go back from u on some cells, and t agrees with u on these
pub record MayFit (cs : List Cell) (u t : Nodes) (e : Way) : Type 0 where
  pub goes : GoesBack cs u e
  pub agrees : Agrees u t cs
  pub places : puts_in (backs e) ≤ nodes_of e
