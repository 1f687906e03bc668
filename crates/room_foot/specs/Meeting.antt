-- One operation against what another writes.
use Rattle.std.specs.Prelude.{ℕ, Bool, ◌||◌, not, List, Option}
use Rattle.std.specs.FinMap.{get}
use Rattle.room_ids.specs.declared.ids.NodeId.{NodeId}
use Rattle.room_nodes.specs.Cells.{create_reads, delete_reads, effect_cells, meets, reads, set_key_reads, writes}
use Rattle.room_nodes.specs.Shape.{Nodes}
use Rattle.room_nodes.specs.Steps.{holds_list, is_void}
use Rattle.room_nodes.specs.declared.cells.Cell.{Cell}
use Rattle.room_nodes.specs.declared.nodes.Body.{Body}
use Rattle.room_nodes.specs.declared.nodes.Body.TheVariants.{Create}
use Rattle.room_nodes.specs.declared.nodes.Kind.TheVariants.{List as Listed}
use Rattle.room_foot.specs.Parts.{heads, place_parts, write_parts}

-- whether an operation that isn't void writes one of these cells
abbrev pub is_met : Nodes → Body → List Cell → Bool
is_met t b cs = meets cs (effect_cells t b)

-- whether an operation writes nothing that another reads, and nothing that leads what that writes
abbrev pub is_clear : Nodes → Body → Body → Bool
is_clear t from into = not (meets (reads t from) (writes t into) || meets (heads (write_parts t from)) (writes t into))

-- what operations read where they are not known whole

abbrev pub reads_of_create : Nodes → NodeId → NodeId → Option NodeId → List Cell
reads_of_create t x p r = create_reads x p r (holds_list (get t p))

abbrev pub reads_of_delete : Nodes → NodeId → List Cell
reads_of_delete t x = delete_reads x (get t x)

abbrev pub reads_of_set_key : Nodes → NodeId → List Cell
reads_of_set_key t x = set_key_reads t x (get t x)

-- what leads the cells of a create where it puts its node
abbrev pub place_heads : Nodes → NodeId → List ℕ → Option NodeId → List Cell
place_heads t p k r = heads (place_parts t p k r)

-- whether a create is void, which what it makes has no part in
abbrev pub is_void_create : Nodes → NodeId → NodeId → List ℕ → Option NodeId → Bool
is_void_create t x p k r = is_void t (Create x p k r Listed)
