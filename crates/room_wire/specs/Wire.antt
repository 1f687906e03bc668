-- Operations as they are read: the fields in their order, and the first that is missing or wrong.
use Rattle.std.specs.Prelude.{◌≡◌, ⊤, ℕ, ℤ, pos, negsuc, Bool, true, if◌then◌else◌, nat_eq, List, codes}
use Rattle.std.specs.Prelude.{Option, Some, None, option_and_then, Result, Ok, Err}
use Rattle.std.specs.Str.{bytes_eq}
use Rattle.room_json.specs.Back.{json_in}
use Rattle.room_json.specs.Fields.{field_of, and_then, needed, allowed}
use Rattle.room_json.specs.Value.{Value, as_members, as_text, as_whole}
use Rattle.room_ids.specs.Ids.{node_in, op_id_in}
use Rattle.room_ids.specs.declared.ids.OpId.{OpId}
use Rattle.room_ids.specs.declared.ids.NodeId.{NodeId}
use Rattle.room_nodes.specs.declared.nodes.Op.{Op}
use Rattle.room_nodes.specs.declared.nodes.Kind.{Kind as NodeKind}
use Rattle.room_nodes.specs.declared.nodes.Kind.TheVariants.{Object, List as Listing, Map, Register}
use Rattle.room_nodes.specs.declared.nodes.Body.TheVariants.{SetKey, Create, Update, Delete, DeleteKey}
use Rattle.room_wire.specs.declared.code.Shape.{Shape}
use Rattle.room_wire.specs.declared.code.Shape.TheVariants.{Object as AnObject, List as AList}
use Rattle.room_wire.specs.declared.code.Shape.TheVariants.{Map as AMap, Register as ARegister}
use Rattle.room_wire.specs.declared.code.Code.{Code}
use Rattle.room_wire.specs.declared.code.Code.TheVariants.{SetKey as ToSetKey, Create as ToCreate, Update as ToUpdate}
use Rattle.room_wire.specs.declared.code.Code.TheVariants.{Delete as ToDelete, DeleteKey as ToDeleteKey}
use Rattle.room_wire.specs.declared.fault.Field.{Field}
use Rattle.room_wire.specs.declared.fault.Field.TheVariants.{Kind, Id, OpId as OpIdField, ParentId, ParentKey}
use Rattle.room_wire.specs.declared.fault.Field.TheVariants.{Content, Key, Intent, DeletedId}
use Rattle.room_wire.specs.declared.fault.WireFault.{WireFault}
use Rattle.room_wire.specs.declared.fault.WireFault.TheVariants.{Memory, BadOp}

-- the name of a field in JSON
abbrev pub name_of : Field → List ℕ
name_of Kind = codes "type"
name_of Id = codes "id"
name_of OpIdField = codes "opId"
name_of ParentId = codes "parentId"
name_of ParentKey = codes "parentKey"
name_of Content = codes "data"
name_of Key = codes "key"
name_of Intent = codes "intent"
name_of DeletedId = codes "deletedId"

-- what a field's value spells

abbrev pub as_node : Value → Option NodeId
as_node v = option_and_then node_in (as_text v)

abbrev pub as_op_id : Value → Option OpId
as_op_id v = option_and_then op_id_in (as_text v)

-- the one intent there is
abbrev pub as_intent : Value → Option Bool
as_intent v = option_and_then (λ t. if bytes_eq t (codes "set") then Some true else None) (as_text v)

-- the numbers of operations

abbrev pub code_of_number : ℕ → Option Code
code_of_number n =
    if nat_eq n 1 then Some ToSetKey else (
    if nat_eq n 2 then Some (ToCreate AList) else (
    if nat_eq n 3 then Some ToUpdate else (
    if nat_eq n 4 then Some (ToCreate AnObject) else (
    if nat_eq n 5 then Some ToDelete else (
    if nat_eq n 6 then Some ToDeleteKey else (
    if nat_eq n 7 then Some (ToCreate AMap) else (
    if nat_eq n 8 then Some (ToCreate ARegister) else None)))))))

abbrev pub code_in : ℤ → Option Code
code_in (pos n) = code_of_number n
code_in (negsuc n) = None

abbrev pub as_code : Value → Option Code
as_code v = option_and_then code_in (as_whole v)

-- operation by operation

abbrev pub set_key_in : Value → Result Op Field
set_key_in v =
    and_then (needed as_node Id (field_of (codes "id") v)) (λ node.
    and_then (needed as_op_id OpIdField (field_of (codes "opId") v)) (λ id.
    and_then (needed as_text ParentKey (field_of (codes "parentKey") v)) (λ key.
    Ok (record { id = id; body = SetKey node key }))))

abbrev pub update_in : Value → Result Op Field
update_in v =
    and_then (needed as_node Id (field_of (codes "id") v)) (λ node.
    and_then (needed as_op_id OpIdField (field_of (codes "opId") v)) (λ id.
    and_then (needed as_members Content (field_of (codes "data") v)) (λ fields.
    Ok (record { id = id; body = Update node fields }))))

abbrev pub delete_in : Value → Result Op Field
delete_in v =
    and_then (needed as_node Id (field_of (codes "id") v)) (λ node.
    and_then (needed as_op_id OpIdField (field_of (codes "opId") v)) (λ id.
    Ok (record { id = id; body = Delete node })))

abbrev pub delete_key_in : Value → Result Op Field
delete_key_in v =
    and_then (needed as_node Id (field_of (codes "id") v)) (λ node.
    and_then (needed as_op_id OpIdField (field_of (codes "opId") v)) (λ id.
    and_then (needed as_text Key (field_of (codes "key") v)) (λ key.
    Ok (record { id = id; body = DeleteKey node key }))))

-- the kind of a created node, with its data
abbrev pub made_in : Shape → Value → Result NodeKind Field
made_in AnObject v = and_then (needed as_members Content (field_of (codes "data") v)) (λ fields. Ok (Object fields))
made_in AList v = Ok Listing
made_in AMap v = Ok Map
made_in ARegister v =
    and_then (needed Some Content (field_of (codes "data") v)) (λ found. Ok (Register (json_in found)))

abbrev pub create_in : Shape → Value → Result Op Field
create_in shape v =
    and_then (needed as_node Id (field_of (codes "id") v)) (λ node.
    and_then (needed as_op_id OpIdField (field_of (codes "opId") v)) (λ id.
    and_then (needed as_node ParentId (field_of (codes "parentId") v)) (λ parent.
    and_then (needed as_text ParentKey (field_of (codes "parentKey") v)) (λ key.
    and_then (made_in shape v) (λ kind.
    and_then (allowed as_intent Intent (field_of (codes "intent") v)) (λ intent.
    and_then (allowed as_node DeletedId (field_of (codes "deletedId") v)) (λ replaces.
    Ok (record { id = id; body = Create node parent key replaces kind }))))))))

abbrev pub coded_in : Code → Value → Result Op Field
coded_in ToSetKey v = set_key_in v
coded_in (ToCreate shape) v = create_in shape v
coded_in ToUpdate v = update_in v
coded_in ToDelete v = delete_in v
coded_in ToDeleteKey v = delete_key_in v

-- the operation that a value spells; `type` comes first
abbrev pub op_in : Value → Result Op Field
op_in v = and_then (needed as_code Kind (field_of (codes "type") v)) (λ code. coded_in code v)

-- a fault that a reading gave; memory may run out at any time
abbrev pub IsFaultOf : {A : Type 0} → Result A Field → WireFault → Type 0
IsFaultOf r Memory = ⊤
IsFaultOf r (BadOp f) = r ≡ Err f
