-- What an operation touches.
use Rattle.std.specs.Prelude.{List, ◌++◌}
use Rattle.room_nodes.specs.Cells.{reads, writes}
use Rattle.room_nodes.specs.Shape.{Nodes}
use Rattle.room_nodes.specs.declared.cells.Cell.{Cell}
use Rattle.room_nodes.specs.declared.nodes.Body.{Body}

abbrev pub cells_of : Nodes → Body → List Cell
cells_of t b = reads t b ++ writes t b
