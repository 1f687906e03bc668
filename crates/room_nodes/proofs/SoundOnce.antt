-- That a tree is sound has one proof at most, so that a struct may keep it.
use Rattle.std.proofs.Common.{ℕ, List}
use Rattle.std.proofs.Props.{props}
use Rattle.std.specs.Coded.{×_prop, Unit-prop}
use Rattle.std.specs.List.Sorted.{IsStrictlySortedBy-prop}
use Rattle.room_json.specs.Value.{Value, nothing, flag, whole, text, list, members, Values, no_values, value, Fields, no_fields, field}
use Rattle.room_json.specs.Profile.{IsJson, AreJson, HaveJson, AreSoundMembers}
use Rattle.room_json.specs.View.{json_of}
use Rattle.room_ids.specs.Laws.{IsNodeInRange}
use Rattle.room_ids.specs.declared.ids.NodeId.{NodeId}
use Rattle.room_ids.specs.declared.ids.NodeId.TheVariants.{Root, Made}
use Rattle.room_nodes.specs.Shape.{Nodes}
use Rattle.room_nodes.specs.Sound.{IsSoundKind, IsSoundNode, IsSoundTree}
use Rattle.room_nodes.specs.declared.nodes.Kind.{Kind}
use Rattle.room_nodes.specs.declared.nodes.Kind.TheVariants.{Object, List as Listed, Map as Mapped, Register}
use Rattle.room_nodes.specs.declared.nodes.Node.{Node}

three : {A B C : Type 0} → IsProp A → IsProp B → IsProp C → IsProp (A × B × C)
three a b c = Prim.hlevel (a, b, c)

mutual
  json_once : (v : Value) → IsProp (IsJson v)
  json_once nothing = Unit-prop
  json_once (flag b) = Unit-prop
  json_once (whole z) = Prim.hlevel props
  json_once (text s) = Prim.hlevel props
  json_once (list vs) = all_once vs
  json_once (members fs) = ×_prop (IsStrictlySortedBy-prop _ _) (fields_once fs)

  all_once : (vs : Values) → IsProp (AreJson vs)
  all_once no_values = Unit-prop
  all_once (value v vs) = ×_prop (json_once v) (all_once vs)

  fields_once : (fs : Fields) → IsProp (HaveJson fs)
  fields_once no_fields = Unit-prop
  fields_once (field k v fs) = three (Prim.hlevel props) (json_once v) (fields_once fs)

members_once : (ms : List (List ℕ × Value)) → IsProp (AreSoundMembers ms)
members_once ms = Prim.hlevel (fields_once, props)

id_once : (x : NodeId) → IsProp (IsNodeInRange x)
id_once Root = Unit-prop
id_once (Made s) = Prim.hlevel props

kind_once : (k : Kind) → IsProp (IsSoundKind k)
kind_once (Object fs) = members_once fs
kind_once Listed = Unit-prop
kind_once Mapped = Unit-prop
kind_once (Register v) = json_once (json_of v)

node_once : (n : Node) → IsProp (IsSoundNode n)
node_once n = Prim.hlevel (id_once, kind_once, props)

pub tree_once : (t : Nodes) → IsProp (IsSoundTree t)
tree_once t = Prim.hlevel (id_once, node_once, props)
