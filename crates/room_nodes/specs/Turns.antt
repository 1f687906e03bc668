-- The primitive changes of a tree as values: what one makes of a tree, and what takes it back.
use Rattle.std.specs.FinMap.{get, insert, remove}
use Rattle.std.specs.Prelude.{Option, Some, None}
use Rattle.room_nodes.specs.Shape.{Nodes, IsFree, IsLeaf}
use Rattle.room_nodes.specs.Primitives.{with_fields_at, with_key_at, fields_in, key_in, CanHold, CanStand}
use Rattle.room_ids.specs.declared.ids.NodeId.{NodeId}
use Rattle.room_nodes.specs.declared.nodes.Node.{Node}
use Rattle.room_nodes.specs.declared.turns.Turn.{Turn}
use Rattle.room_nodes.specs.declared.turns.Turn.TheVariants.{Put, Cut, Fields, Key}

abbrev pub turned : Nodes → Turn → Nodes
turned t (Put x n) = insert t x n
turned t (Cut x) = remove t x
turned t (Fields x fs) = with_fields_at t x fs
turned t (Key x k) = with_key_at t x k

abbrev pub put_of : NodeId → Option Node → Turn
put_of x None = Cut x
put_of x (Some n) = Put x n

-- what makes it again
abbrev pub reverse : Nodes → Turn → Turn
reverse t (Put x n) = Cut x
reverse t (Cut x) = put_of x (get t x)
reverse t (Fields x fs) = Fields x (fields_in (get t x))
reverse t (Key x k) = Key x (key_in (get t x))

abbrev pub CanTurn : Nodes → Turn → Type 0
CanTurn t (Put x n) = IsFree t x n
CanTurn t (Cut x) = IsLeaf t x
CanTurn t (Fields x fs) = CanHold t x fs
CanTurn t (Key x k) = CanStand t x k
