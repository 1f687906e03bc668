-- What is read of a written operation.
use Rattle.std.specs.Prelude.{◌≡◌, ◌≤◌, true, Option, Some, None, Ok, ⊤}
use Rattle.room_ids.specs.Laws.{IsInRange, IsNodeInRange}
use Rattle.room_ids.specs.Ids.{node_in, stamp_in, node_text, stamp_text}
use Rattle.room_ids.specs.declared.ids.OpId.{OpId}
use Rattle.room_ids.specs.declared.ids.NodeId.{NodeId}
use Rattle.room_json.specs.Profile.{IsJson}
use Rattle.room_json.specs.Value.{Value, depth, object_of}
use Rattle.room_nodes.specs.Shallow.{is_shallow}
use Rattle.room_nodes.specs.Sound.{IsSomeInRange, IsSoundOp}
use Rattle.room_nodes.specs.declared.nodes.Op.{Op}
use Rattle.room_nodes.specs.declared.nodes.Body.{Body}
use Rattle.room_nodes.specs.declared.nodes.Body.TheVariants.{SetKey, Create, Update, Delete, DeleteKey}
use Rattle.room_wire.specs.Wire.{op_in}
use Rattle.room_wire.specs.Written.{op_out, body_out}

-- the text of an id is read again
abbrev pub IsKnown : NodeId → Type 0
IsKnown n = node_in (node_text n) ≡ Some n

abbrev pub IsKnownOp : OpId → Type 0
IsKnownOp id = stamp_in (stamp_text id.0) ≡ Some id.0

abbrev pub IsKnownMaybe : Option NodeId → Type 0
IsKnownMaybe None = ⊤
IsKnownMaybe (Some n) = IsKnown n

-- what is written of an operation is read as it
abbrev pub IsAgain : OpId → Body → Type 0
IsAgain id b = op_in (object_of (body_out id b)) ≡ Ok (record { id = id; body = b })

-- the numbers of ids are in range

abbrev pub IsBodyInRange : Body → Type 0
IsBodyInRange (SetKey node key) = IsNodeInRange node
IsBodyInRange (Create node parent key replaces kind) =
    IsNodeInRange node × IsNodeInRange parent × IsSomeInRange replaces
IsBodyInRange (Update node fields) = IsNodeInRange node
IsBodyInRange (Delete node) = IsNodeInRange node
IsBodyInRange (DeleteKey node key) = IsNodeInRange node

abbrev pub IsOpInRange : Op → Type 0
IsOpInRange o = IsInRange o.id.0 × IsBodyInRange o.body

-- an operation that was written is read again
abbrev pub OpsReadBack : Type 0
OpsReadBack = (o : Op) → IsOpInRange o → op_in (op_out o) ≡ Ok o

-- an operation that stands in a value of the profile is sound
abbrev pub OpsAreSound : Type 0
OpsAreSound = (v : Value) (o : Op) → op_in v ≡ Ok o → IsJson v → IsSoundOp o

-- and as shallow as a client's frame makes it: of 60 levels three lie around an operation
abbrev pub OpsAreShallow : Type 0
OpsAreShallow = (v : Value) (o : Op) → op_in v ≡ Ok o → depth v ≤ 57 → is_shallow o.body ≡ true
