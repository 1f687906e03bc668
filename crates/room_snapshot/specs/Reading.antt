-- Reading a snapshot: its parts from left to right, in whatever spelling and order; what is read counts where it is
-- within the bounds and written as these bytes, so each state has one spelling.
use Rattle.std.specs.Prelude.{◌-◌, ℕ, Bool, nat_eq, if◌then◌else◌, List, Option, Some, None, option_map, map}
use Rattle.room_json.specs.Value.{Value}
use Rattle.room_json.specs.Back.{json_in}
use Rattle.room_ids.specs.declared.ids.NodeId.{NodeId}
use Rattle.room_nodes.specs.Shape.{Nodes}
use Rattle.room_nodes.specs.declared.nodes.Node.{Node}
use Rattle.room_nodes.specs.declared.nodes.Kind.{Kind}
use Rattle.room_nodes.specs.declared.nodes.Kind.TheVariants.{Object, List as Listed, Map, Register}
use Rattle.room_items.specs.Items.{root_of, row_node, may_put, put_rows}
use Rattle.room_log.specs.Log.{Session, State}
use Rattle.room_bytes.specs.declared.entries.Format.{Format}
use Rattle.room_bytes.specs.Reading.{◌>>=◌, u32_at, u64_at, byte_at, id_at, text_at, name_at, json_at, fields_at}
use Rattle.room_bytes.specs.Reading.{each_at, behind, ended}
use Rattle.room_snapshot.specs.Bounds.{is_within}
use Rattle.room_snapshot.specs.Spelling.{snapshot_bytes}

unfoldable pub session_at : Format → List ℕ → Option (Session × List ℕ)
session_at f bytes = do
  key ← u64_at bytes
  last ← u64_at key.1
  name ← name_at f last.1
  Some (record { key = key.0; last = last.0; name = name.0 }, name.1)

-- what is in a node, by the number of its kind
unfoldable pub content_at : ℕ → List ℕ → Option (Kind × List ℕ)
content_at number bytes =
    if nat_eq number 0 then option_map (λ (x : List (List ℕ × Value) × List ℕ). (Object x.0, x.1)) (fields_at bytes)
    else (
    if nat_eq number 1 then Some (Listed, bytes) else (
    if nat_eq number 2 then Some (Map, bytes) else (
    if nat_eq number 3 then option_map (λ (x : Value × List ℕ). (Register (json_in x.0), x.1)) (json_at bytes) else
    None)))

unfoldable pub kind_at : List ℕ → Option (Kind × List ℕ)
kind_at bytes = do
  number ← byte_at bytes
  content_at number.0 number.1

-- the first node, which is written as the root
unfoldable pub root_at : List ℕ → Option (Kind × List ℕ)
root_at bytes = do
  x ← id_at bytes
  kind_at x.1

-- another node, without its depth
unfoldable pub row_at : List ℕ → Option ((NodeId × Node) × List ℕ)
row_at bytes = do
  x ← id_at bytes
  parent ← id_at x.1
  key ← text_at parent.1
  kind ← kind_at key.1
  Some ((x.0, record { parent = parent.0; key = key.0; depth = 0; kind = kind.0 }), kind.1)

-- nodes put one after another as the rows of items are

abbrev pub may_hold : Nodes → NodeId × Node → Bool
may_hold t e = may_put t (record { id = e.0; parent = e.1.parent; key = e.1.key; kind = e.1.kind })

abbrev pub held : Nodes → NodeId × Node → Node
held t e = row_node t (record { id = e.0; parent = e.1.parent; key = e.1.key; kind = e.1.kind })

abbrev pub put_nodes : Nodes → List (NodeId × Node) → Option Nodes
put_nodes t es =
    put_rows t (map (λ (e : NodeId × Node).
    record { id = e.0; parent = e.1.parent; key = e.1.key; kind = e.1.kind }) es)

-- the tree of an object with nodes put under it
abbrev pub rooted : Kind → List (NodeId × Node) → Option Nodes
rooted (Object fs) rows = put_nodes (root_of (Object fs)) rows
rooted Listed rows = None
rooted Map rows = None
rooted (Register v) rows = None

unfoldable pub tree_at : List ℕ → Option (Nodes × List ℕ)
tree_at bytes = do
  n ← u32_at bytes
  root ← root_at n.1
  rows ← each_at row_at (n.0 - 1) root.1
  t ← rooted root.0 rows.0
  Some (t, rows.1)

unfoldable pub sessions_at : Format → List ℕ → Option (List Session × List ℕ)
sessions_at f bytes = do
  n ← u32_at bytes
  each_at (session_at f) n.0 n.1

unfoldable pub parts_at : Format → List ℕ → Option (State × List ℕ)
parts_at f bytes = do
  count ← u64_at bytes
  sessions ← sessions_at f count.1
  tree ← tree_at sessions.1
  Some (record { count = count.0; sessions = sessions.0; tree = tree.0 }, tree.1)

-- what is left behind these bytes, where they stand in front and a test holds
unfoldable pub behind_if : Bool → List ℕ → List ℕ → Option (List ℕ)
behind_if test front bytes = if test then behind front bytes else None

-- a state that was read, where it is within the bounds and written as all of the bytes
unfoldable pub checked : Format → List ℕ → State → Option State
checked f bytes s = do
  rest ← behind_if (is_within f s) (snapshot_bytes f s) bytes
  ended (s, rest)

unfoldable pub snapshot_of : Format → List ℕ → Option State
snapshot_of f bytes = do
  s ← parts_at f bytes
  checked f bytes s.0
