-- What is read of a written operation.
use Rattle.std.proofs.Common.{List, ℕ, Option, Some, None, refl}
use Rattle.room_json.proofs.Again.{json_again}
use Rattle.room_json.proofs.Values.{fields_list-fields_of}
use Rattle.room_ids.proofs.Spelled.{stamp_again, node_again}
use Rattle.room_ids.specs.declared.ids.OpId.{OpId}
use Rattle.room_ids.specs.declared.ids.NodeId.{NodeId}
use Rattle.room_nodes.specs.declared.nodes.Kind.{Kind as NodeKind}
use Rattle.room_nodes.specs.declared.nodes.Kind.TheVariants.{Object, List as Listing, Map, Register}
use Rattle.room_nodes.specs.declared.nodes.Body.{Body}
use Rattle.room_nodes.specs.declared.nodes.Body.TheVariants.{SetKey, Create, Update, Delete, DeleteKey}
use Rattle.room_wire.specs.Laws.{IsOpInRange, OpsReadBack, IsKnown, IsKnownOp, IsKnownMaybe, IsAgain}

pub set_key_again : (id : OpId) (node : NodeId) (key : List ℕ) → IsKnownOp id → IsKnown node → IsAgain id (SetKey node key)
set_key_again id node key s n = rw (n, s) refl

pub update_again : (id : OpId) (node : NodeId) (fields : List (List ℕ × _)) → IsKnownOp id → IsKnown node → IsAgain id (Update node fields)
update_again id node fields s n = rw (n, s, fields_list-fields_of fields) refl

pub delete_again : (id : OpId) (node : NodeId) → IsKnownOp id → IsKnown node → IsAgain id (Delete node)
delete_again id node s n = rw (n, s) refl

pub delete_key_again : (id : OpId) (node : NodeId) (key : List ℕ) → IsKnownOp id → IsKnown node → IsAgain id (DeleteKey node key)
delete_key_again id node key s n = rw (n, s) refl

pub create_again : (id : OpId) (node parent : NodeId) (key : List ℕ) (replaces : Option NodeId) (kind : NodeKind) → IsKnownOp id → IsKnown node → IsKnown parent → IsKnownMaybe replaces
    → IsAgain id (Create node parent key replaces kind)
create_again id node parent key None Listing s n p r = rw (n, s, p) refl
create_again id node parent key None Map s n p r = rw (n, s, p) refl
create_again id node parent key None (Object fields) s n p r = rw (n, s, p, fields_list-fields_of fields) refl
create_again id node parent key None (Register v) s n p r = rw (n, s, p, json_again v) refl
create_again id node parent key (Some m) Listing s n p r = rw (n, s, p, r) refl
create_again id node parent key (Some m) Map s n p r = rw (n, s, p, r) refl
create_again id node parent key (Some m) (Object fields) s n p r = rw (n, s, p, fields_list-fields_of fields, r) refl
create_again id node parent key (Some m) (Register v) s n p r = rw (n, s, p, json_again v, r) refl

known : (id : OpId) (b : Body) → IsOpInRange (record { id = id; body = b }) → IsAgain id b
known id (SetKey node key) h = set_key_again id node key (stamp_again id.0 h.0) (node_again node h.1)
known id (Update node fields) h = update_again id node fields (stamp_again id.0 h.0) (node_again node h.1)
known id (Delete node) h = delete_again id node (stamp_again id.0 h.0) (node_again node h.1)
known id (DeleteKey node key) h = delete_key_again id node key (stamp_again id.0 h.0) (node_again node h.1)
known id (Create node parent key None kind) h = create_again id node parent key None kind (stamp_again id.0 h.0) (node_again node h.1.0) (node_again parent h.1.1) tt
known id (Create node parent key (Some r) kind) h = create_again id node parent key (Some r) kind (stamp_again id.0 h.0) (node_again node h.1.0) (node_again parent h.1.1) (node_again r h.1.2)

pub ops_again : OpsReadBack
ops_again o h = known o.id o.body h
