-- What the trees and operations of real values are, beyond their shape: ids in range, texts in UTF-8, and values of the
-- profile, so that an object's fields stand in byte order of their names, each name once.
use Rattle.std.specs.Prelude.{◌≡◌, List, [], ◌∷◌, Option, Some, None, IsUtf8, ⊤}
use Rattle.std.specs.FinMap.{get}
use Rattle.room_json.specs.Profile.{IsJson, AreSoundMembers}
use Rattle.room_json.specs.View.{json_of}
use Rattle.room_ids.specs.Laws.{IsInRange, IsNodeInRange}
use Rattle.room_ids.specs.declared.ids.NodeId.{NodeId}
use Rattle.room_nodes.specs.declared.nodes.Node.{Node}
use Rattle.room_nodes.specs.declared.nodes.Kind.{Kind}
use Rattle.room_nodes.specs.declared.nodes.Kind.TheVariants.{Object, List as Listed, Map, Register}
use Rattle.room_nodes.specs.declared.nodes.Body.{Body}
use Rattle.room_nodes.specs.declared.nodes.Body.TheVariants.{SetKey, Create, Update, Delete, DeleteKey}
use Rattle.room_nodes.specs.declared.nodes.Op.{Op}
use Rattle.room_nodes.specs.declared.nodes.Change.{Change}
use Rattle.room_nodes.specs.declared.nodes.Change.TheVariants.{Op as OpChange, Presence}
use Rattle.room_nodes.specs.Shape.{Nodes}

-- nodes and trees

abbrev pub IsSoundKind : Kind → Type 0
IsSoundKind (Object fs) = AreSoundMembers fs
IsSoundKind Listed = ⊤
IsSoundKind Map = ⊤
IsSoundKind (Register v) = IsJson (json_of v)

pub record IsSoundNode (n : Node) : Type 0 where
  pub parent : IsNodeInRange n.parent
  pub key : IsUtf8 n.key
  pub kind : IsSoundKind n.kind

abbrev pub IsSoundTree : Nodes → Type 0
IsSoundTree t = (x : NodeId) (n : Node) → get t x ≡ Some n → IsNodeInRange x × IsSoundNode n

-- operations

abbrev pub IsSomeInRange : Option NodeId → Type 0
IsSomeInRange None = ⊤
IsSomeInRange (Some x) = IsNodeInRange x

abbrev pub IsSoundBody : Body → Type 0
IsSoundBody (SetKey x k) = IsNodeInRange x × IsUtf8 k
IsSoundBody (Create x p k r kind) = IsNodeInRange x × IsNodeInRange p × IsUtf8 k × IsSomeInRange r × IsSoundKind kind
IsSoundBody (Update x fs) = IsNodeInRange x × AreSoundMembers fs
IsSoundBody (Delete x) = IsNodeInRange x
IsSoundBody (DeleteKey x k) = IsNodeInRange x × IsUtf8 k

abbrev pub AreSoundBodies : List Body → Type 0
AreSoundBodies [] = ⊤
AreSoundBodies (b ∷ bs) = IsSoundBody b × AreSoundBodies bs

abbrev pub IsSoundOp : Op → Type 0
IsSoundOp o = IsInRange o.id.0 × IsSoundBody o.body

abbrev pub AreSoundOps : List Op → Type 0
AreSoundOps [] = ⊤
AreSoundOps (o ∷ os) = IsSoundOp o × AreSoundOps os

-- changes that go back

abbrev pub IsSoundChange : Change → Type 0
IsSoundChange (OpChange b) = IsSoundBody b
IsSoundChange (Presence patch) = AreSoundMembers patch

abbrev pub AreSoundChanges : List Change → Type 0
AreSoundChanges [] = ⊤
AreSoundChanges (c ∷ cs) = IsSoundChange c × AreSoundChanges cs
