-- What an operation that was read is made of.
use Rattle.std.proofs.Common.{◌≡◌, ◌≤◌, ℕ, nat_le, true, List, [], ◌∷◌, codes, Option, Some, Ok, refl, subst, arith}
use Rattle.std.specs.Prelude.{⊤}
use Rattle.std.proofs.lemmas.Bool.Decides.{nat_tests}
use Rattle.room_json.specs.Fields.{field_of, needed, allowed}
use Rattle.room_json.specs.Profile.{IsJson}
use Rattle.room_json.specs.Value.{Value, text, members, fields_of, fields_depth, depth, as_text, as_members}
use Rattle.room_json.specs.Back.{json_in}
use Rattle.room_json.specs.View.{json_of}
use Rattle.room_ids.specs.Stamp.{Stamp}
use Rattle.room_ids.proofs.Spelled.{stamp_once, node_once}
use Rattle.room_ids.specs.Ids.{node_in, stamp_in, op_id_in}
use Rattle.room_ids.specs.Laws.{IsInRange, IsNodeInRange}
use Rattle.room_ids.specs.declared.ids.OpId.{OpId}
use Rattle.room_ids.specs.declared.ids.NodeId.{NodeId}
use Rattle.room_nodes.specs.Shallow.{are_shallow, is_shallow_kind, is_shallow}
use Rattle.room_nodes.specs.Sound.{IsSoundKind, IsSomeInRange, IsSoundBody}
use Rattle.room_nodes.specs.declared.nodes.Op.{Op}
use Rattle.room_nodes.specs.declared.nodes.Kind.{Kind as NodeKind}
use Rattle.room_nodes.specs.declared.nodes.Kind.TheVariants.{Object, List as Listing, Map, Register}
use Rattle.room_nodes.specs.declared.nodes.Body.{Body}
use Rattle.room_nodes.specs.declared.nodes.Body.TheVariants.{SetKey, Create, Update, Delete, DeleteKey}
use Rattle.room_wire.proofs.Fields.{Has, ok_inj, gone_on, and_then_of, map_of, needed_of, allowed_of, has_text, has_members, has_value, has_json, has_depth, sound_members}
use Rattle.room_wire.specs.Laws.{OpsAreSound, OpsAreShallow}
use Rattle.room_wire.specs.Wire.{as_node, as_op_id, as_intent, as_code, set_key_in, update_in, delete_in, delete_key_in, made_in, create_in, coded_in, op_in}
use Rattle.room_wire.specs.declared.code.Shape.{Shape}
use Rattle.room_wire.specs.declared.code.Shape.TheVariants.{Object as AnObject, List as AList, Map as AMap, Register as ARegister}
use Rattle.room_wire.specs.declared.code.Code.{Code}
use Rattle.room_wire.specs.declared.code.Code.TheVariants.{SetKey as ToSetKey, Create as ToCreate, Update as ToUpdate, Delete as ToDelete, DeleteKey as ToDeleteKey}
use Rattle.room_wire.specs.declared.fault.Field.{Field}
use Rattle.room_wire.specs.declared.fault.Field.TheVariants.{Kind, Id, OpId as OpIdField, ParentId, ParentKey, Content, Key, Intent, DeletedId}

-- its ids are in range, its texts and values stand in the fields of v

abbrev KindFrom : Value → NodeKind → Type 0
KindFrom v (Object fs) = Has v (members (fields_of fs))
KindFrom v Listing = ⊤
KindFrom v Map = ⊤
KindFrom v (Register j) = Has v (json_of j)

abbrev BodyFrom : Value → Body → Type 0
BodyFrom v (SetKey x k) = IsNodeInRange x × Has v (text k)
BodyFrom v (Create x p k r kind) = IsNodeInRange x × IsNodeInRange p × Has v (text k) × IsSomeInRange r × KindFrom v kind
BodyFrom v (Update x fs) = IsNodeInRange x × Has v (members (fields_of fs))
BodyFrom v (Delete x) = IsNodeInRange x
BodyFrom v (DeleteKey x k) = IsNodeInRange x × Has v (text k)

abbrev OpFrom : Value → Op → Type 0
OpFrom v o = IsInRange o.id.0 × BodyFrom v o.body

-- fields

node_range : (w : Value) (n : NodeId) → as_node w ≡ Some n → IsNodeInRange n
node_range w n h = and_then_of _ node_in (as_text w) n h (λ t has spells. (node_once t n spells).1)

node_at : (e : Field) (o : Option Value) (n : NodeId) → needed as_node e o ≡ Ok n → IsNodeInRange n
node_at e o n h = needed_of _ as_node e o n h (λ w is r. node_range w n r)

id_at : (e : Field) (o : Option Value) (id : OpId) → needed as_op_id e o ≡ Ok id → IsInRange id.0
id_at e o id h =
    needed_of _ as_op_id e o id h (λ w is r. and_then_of _ op_id_in (as_text w) id r (λ t has spells.
    map_of _ (λ (s : Stamp). record { 0 = s }) (stamp_in t) id spells (λ s in_t same. subst (λ (i : OpId). IsInRange i.0) same (stamp_once t s in_t).1)))

replaced_at : (e : Field) (o : Option Value) (r : Option NodeId) → allowed as_node e o ≡ Ok r → IsSomeInRange r
replaced_at e o r h = allowed_of IsSomeInRange as_node e o r h tt (λ w n is reads. node_range w n reads)

-- operation by operation

set_key_from : (v : Value) (o : Op) → set_key_in v ≡ Ok o → OpFrom v o
set_key_from v o h =
    gone_on _ (needed as_node Id (field_of (codes "id") v)) _ o h (λ node n h.
    gone_on _ (needed as_op_id OpIdField (field_of (codes "opId") v)) _ o h (λ id i h.
    gone_on _ (needed as_text ParentKey (field_of (codes "parentKey") v)) _ o h (λ key k h.
    subst (OpFrom v) {x = record { id = id; body = SetKey node key }} (ok_inj h) (id_at _ _ id i, (node_at _ _ node n, has_text v ParentKey (codes "parentKey") key k)))))

update_from : (v : Value) (o : Op) → update_in v ≡ Ok o → OpFrom v o
update_from v o h =
    gone_on _ (needed as_node Id (field_of (codes "id") v)) _ o h (λ node n h.
    gone_on _ (needed as_op_id OpIdField (field_of (codes "opId") v)) _ o h (λ id i h.
    gone_on _ (needed as_members Content (field_of (codes "data") v)) _ o h (λ fields f h.
    subst (OpFrom v) {x = record { id = id; body = Update node fields }} (ok_inj h) (id_at _ _ id i, (node_at _ _ node n, has_members v Content (codes "data") fields f)))))

delete_from : (v : Value) (o : Op) → delete_in v ≡ Ok o → OpFrom v o
delete_from v o h =
    gone_on _ (needed as_node Id (field_of (codes "id") v)) _ o h (λ node n h.
    gone_on _ (needed as_op_id OpIdField (field_of (codes "opId") v)) _ o h (λ id i h.
    subst (OpFrom v) {x = record { id = id; body = Delete node }} (ok_inj h) (id_at _ _ id i, node_at _ _ node n)))

delete_key_from : (v : Value) (o : Op) → delete_key_in v ≡ Ok o → OpFrom v o
delete_key_from v o h =
    gone_on _ (needed as_node Id (field_of (codes "id") v)) _ o h (λ node n h.
    gone_on _ (needed as_op_id OpIdField (field_of (codes "opId") v)) _ o h (λ id i h.
    gone_on _ (needed as_text Key (field_of (codes "key") v)) _ o h (λ key k h.
    subst (OpFrom v) {x = record { id = id; body = DeleteKey node key }} (ok_inj h) (id_at _ _ id i, (node_at _ _ node n, has_text v Key (codes "key") key k)))))

made_from : (shape : Shape) (v : Value) (kind : NodeKind) → made_in shape v ≡ Ok kind → KindFrom v kind
made_from AnObject v kind h = gone_on _ (needed as_members Content (field_of (codes "data") v)) _ kind h (λ fields f h. subst (KindFrom v) {x = Object fields} (ok_inj h) (has_members v Content (codes "data") fields f))
made_from AList v kind h = subst (KindFrom v) {x = Listing} (ok_inj h) tt
made_from AMap v kind h = subst (KindFrom v) {x = Map} (ok_inj h) tt
made_from ARegister v kind h = gone_on _ (needed Some Content (field_of (codes "data") v)) _ kind h (λ found f h. subst (KindFrom v) {x = Register (json_in found)} (ok_inj h) (has_value v Content (codes "data") found f))

create_from : (shape : Shape) (v : Value) (o : Op) → create_in shape v ≡ Ok o → OpFrom v o
create_from shape v o h =
    gone_on _ (needed as_node Id (field_of (codes "id") v)) _ o h (λ node n h.
    gone_on _ (needed as_op_id OpIdField (field_of (codes "opId") v)) _ o h (λ id i h.
    gone_on _ (needed as_node ParentId (field_of (codes "parentId") v)) _ o h (λ parent p h.
    gone_on _ (needed as_text ParentKey (field_of (codes "parentKey") v)) _ o h (λ key k h.
    gone_on _ (made_in shape v) _ o h (λ kind m h.
    gone_on _ (allowed as_intent Intent (field_of (codes "intent") v)) _ o h (λ intent t h.
    gone_on _ (allowed as_node DeletedId (field_of (codes "deletedId") v)) _ o h (λ replaces r h.
    subst (OpFrom v) {x = record { id = id; body = Create node parent key replaces kind }} (ok_inj h) (
      id_at _ _ id i,
      (
        node_at _ _ node n,
        node_at _ _ parent p,
        has_text v ParentKey (codes "parentKey") key k,
        replaced_at _ _ replaces r,
        made_from shape v kind m,
      ),
    ))))))))

coded_from : (code : Code) (v : Value) (o : Op) → coded_in code v ≡ Ok o → OpFrom v o
coded_from ToSetKey v o h = set_key_from v o h
coded_from (ToCreate shape) v o h = create_from shape v o h
coded_from ToUpdate v o h = update_from v o h
coded_from ToDelete v o h = delete_from v o h
coded_from ToDeleteKey v o h = delete_key_from v o h

op_from : (v : Value) (o : Op) → op_in v ≡ Ok o → OpFrom v o
op_from v o h = gone_on _ (needed as_code Kind (field_of (codes "type") v)) _ o h (λ code c h. coded_from code v o h)

-- what is of the profile

sound_kind : (v : Value) (kind : NodeKind) → KindFrom v kind → IsJson v → IsSoundKind kind
sound_kind v (Object fs) h json = sound_members fs (has_json v (members (fields_of fs)) h json)
sound_kind v Listing h json = tt
sound_kind v Map h json = tt
sound_kind v (Register j) h json = has_json v (json_of j) h json

sound_body : (v : Value) (b : Body) → BodyFrom v b → IsJson v → IsSoundBody b
sound_body v (SetKey x k) h json = (h.0, has_json v (text k) h.1 json)
sound_body v (Create x p k r kind) h json = (h.0, h.1, has_json v (text k) h.2 json, h.3, sound_kind v kind h.4 json)
sound_body v (Update x fs) h json = (h.0, sound_members fs (has_json v (members (fields_of fs)) h.1 json))
sound_body v (Delete x) h json = h
sound_body v (DeleteKey x k) h json = (h.0, has_json v (text k) h.1 json)

pub ops_sound : OpsAreSound
ops_sound v o h json = let from = op_from v o h in (from.0, sound_body v o.body from.1 json)

-- and how deep

le_true : (a b : ℕ) → a ≤ b → nat_le a b ≡ true
le_true a b h = grind (arith, nat_tests)

fields_shallow : (fs : List (List ℕ × Value)) → fields_depth (fields_of fs) ≤ 55 → are_shallow fs ≡ true
fields_shallow [] h = refl
fields_shallow (f ∷ fs) h = rw (le_true (depth f.1) 55 (omega (arith, h)), fields_shallow fs (omega (arith, h))) refl

shallow_kind : (v : Value) (kind : NodeKind) → KindFrom v kind → depth v ≤ 57 → is_shallow_kind kind ≡ true
shallow_kind v (Object fs) h small = fields_shallow fs (omega (arith, has_depth v (members (fields_of fs)) h, small))
shallow_kind v Listing h small = refl
shallow_kind v Map h small = refl
shallow_kind v (Register j) h small = le_true (depth (json_of j)) 56 (omega (arith, has_depth v (json_of j) h, small))

shallow_body : (v : Value) (b : Body) → BodyFrom v b → depth v ≤ 57 → is_shallow b ≡ true
shallow_body v (SetKey x k) h small = refl
shallow_body v (Create x p k r kind) h small = shallow_kind v kind h.4 small
shallow_body v (Update x fs) h small = fields_shallow fs (omega (arith, has_depth v (members (fields_of fs)) h.1, small))
shallow_body v (Delete x) h small = refl
shallow_body v (DeleteKey x k) h small = refl

pub ops_shallow : OpsAreShallow
ops_shallow v o h small = shallow_body v o.body (op_from v o h).1 small
