-- A tree as JSON.
use Rattle.std.specs.Prelude.{ℕ, zero, suc, List, [], map, Option, Some, None, option_map}
use Rattle.std.specs.FinMap.{get}
use Rattle.room_json.specs.Value.{Value, nothing, list, members, values_of, fields_of, merged}
use Rattle.room_json.specs.View.{json_of}
use Rattle.room_ids.specs.declared.ids.NodeId.{NodeId}
use Rattle.room_ids.specs.declared.ids.NodeId.TheVariants.{Root}
use Rattle.room_nodes.specs.declared.nodes.Node.{Node}
use Rattle.room_nodes.specs.declared.nodes.Kind.{Kind}
use Rattle.room_nodes.specs.declared.nodes.Kind.TheVariants.{Object, List as Listed, Map, Register}
use Rattle.room_nodes.specs.Shape.{Nodes, children}

abbrev pub second : List ℕ × Value → Value
second e = e.1

-- a node whose children, by key in byte order, are shown so: an object has its fields and its children, a list its
-- children in order of position, a register is its value
abbrev pub kind_view : Kind → List (List ℕ × Value) → Value
kind_view (Object fs) vs = members (fields_of (merged fs vs))
kind_view Listed vs = list (values_of (map second vs))
kind_view Map vs = members (fields_of vs)
kind_view (Register v) vs = json_of v

abbrev pub node_view : Option Node → List (List ℕ × Value) → Value
node_view None vs = nothing
node_view (Some n) vs = kind_view n.kind vs

-- x with what lies at most n steps below it
unfoldable pub view_within : ℕ → Nodes → NodeId → Value
view_within zero t x = node_view (get t x) []
view_within (suc n) t x = node_view (get t x) (map (λ (e : List ℕ × NodeId). (e.0, view_within n t e.1)) (children t x))

-- no node is deeper than 60
unfoldable pub view_at : Nodes → NodeId → Value
view_at t x = view_within 60 t x

abbrev pub view : Nodes → Value
view t = view_at t Root

abbrev pub view_of : Nodes → NodeId → Option Value
view_of t x = option_map (λ (n : Node). view_at t x) (get t x)
