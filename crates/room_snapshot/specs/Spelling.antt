-- The bytes of a snapshot: the number of updates, then the sessions and the nodes of the tree, behind their number
-- each.
use Rattle.std.specs.Prelude.{ℕ, ◌++◌, List, [], ◌∷◌, length, Option, Some, None}
use Rattle.std.specs.FinMap.{get}
use Rattle.std.specs.List.{flat_map}
use Rattle.room_ids.specs.declared.ids.NodeId.{NodeId}
use Rattle.room_ids.specs.declared.ids.NodeId.TheVariants.{Root, Made}
use Rattle.room_nodes.specs.Preorder.{preorder}
use Rattle.room_nodes.specs.Shape.{Nodes}
use Rattle.room_nodes.specs.declared.nodes.Node.{Node}
use Rattle.room_items.specs.Items.{kind_number}
use Rattle.room_log.specs.Log.{Session, State}
use Rattle.room_bytes.specs.declared.entries.Format.{Format}
use Rattle.room_bytes.specs.Spelling.{u32_bytes, u64_bytes, text_bytes, id_bytes, kind_bytes, name_bytes}

-- a session: its key, its last clock, and in the second format its name
unfoldable pub session_bytes : Format → Session → List ℕ
session_bytes f s = u64_bytes s.key ++ (u64_bytes s.last ++ name_bytes f s.name)

-- the parent and the key of a node; the root has none
unfoldable pub place_bytes : NodeId → Node → List ℕ
place_bytes Root n = []
place_bytes (Made s) n = id_bytes n.parent ++ text_bytes n.key

-- a node: its id, its place, the number of its kind, and what is in it
unfoldable pub node_bytes : NodeId → Node → List ℕ
node_bytes x n = id_bytes x ++ (place_bytes x n ++ kind_number n.kind ∷ kind_bytes n.kind)

unfoldable pub bytes_there : NodeId → Option Node → List ℕ
bytes_there x None = []
bytes_there x (Some n) = node_bytes x n

abbrev pub bytes_at : Nodes → NodeId → List ℕ
bytes_at t x = bytes_there x (get t x)

-- the nodes in the order of items: each before those below it, children in byte order of their keys
unfoldable pub tree_bytes : Nodes → List ℕ
tree_bytes t = u32_bytes (length (preorder t Root)) ++ flat_map (bytes_at t) (preorder t Root)

unfoldable pub sessions_bytes : Format → List Session → List ℕ
sessions_bytes f ss = u32_bytes (length ss) ++ flat_map (session_bytes f) ss

unfoldable pub snapshot_bytes : Format → State → List ℕ
snapshot_bytes f s = u64_bytes s.count ++ (sessions_bytes f s.sessions ++ tree_bytes s.tree)
