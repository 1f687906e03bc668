-- Operations as JSON: the fields of each, and no others.
use Rattle.std.specs.Prelude.{◌++◌, ℕ, pos, List, [], ◌∷◌, codes, Option, Some, None}
use Rattle.room_json.specs.Value.{Value, whole, text, members, fields_of, object_of}
use Rattle.room_ids.specs.declared.ids.OpId.{OpId}
use Rattle.room_ids.specs.declared.ids.NodeId.{NodeId}
use Rattle.room_nodes.specs.declared.nodes.Op.{Op}
use Rattle.room_nodes.specs.declared.nodes.Kind.{Kind as NodeKind}
use Rattle.room_nodes.specs.declared.nodes.Kind.TheVariants.{Object, List as Listing, Map, Register}
use Rattle.room_nodes.specs.declared.nodes.Body.{Body}
use Rattle.room_nodes.specs.declared.nodes.Body.TheVariants.{SetKey, Create, Update, Delete, DeleteKey}
use Rattle.room_json.specs.View.{json_of}
use Rattle.room_ids.specs.Ids.{node_text, stamp_text}

abbrev pub text_out : List ℕ → List ℕ → List (List ℕ × Value)
text_out name t = (name, text t) ∷ []

abbrev pub id_out : List ℕ → NodeId → List (List ℕ × Value)
id_out name n = text_out name (node_text n)

abbrev pub head_out : ℕ → NodeId → OpId → List (List ℕ × Value)
head_out code node id =
    (codes "type", whole (pos code)) ∷ (codes "id", text (node_text node)) ∷ (codes "opId", text (stamp_text id.0)) ∷ []

abbrev pub replaced_out : Option NodeId → List (List ℕ × Value)
replaced_out None = []
replaced_out (Some n) = (codes "intent", text (codes "set")) ∷ (codes "deletedId", text (node_text n)) ∷ []

abbrev pub kind_code : NodeKind → ℕ
kind_code Listing = 2
kind_code (Object fields) = 4
kind_code Map = 7
kind_code (Register v) = 8

abbrev pub data_out : NodeKind → List (List ℕ × Value)
data_out Listing = []
data_out (Object fields) = (codes "data", members (fields_of fields)) ∷ []
data_out Map = []
data_out (Register v) = (codes "data", json_of v) ∷ []

abbrev pub body_out : OpId → Body → List (List ℕ × Value)
body_out id (SetKey node key) = head_out 1 node id ++ (codes "parentKey", text key) ∷ []
body_out id (Update node fields) = head_out 3 node id ++ (codes "data", members (fields_of fields)) ∷ []
body_out id (Delete node) = head_out 5 node id
body_out id (DeleteKey node key) = head_out 6 node id ++ (codes "key", text key) ∷ []
body_out id (Create node parent key replaces kind) =
    head_out (kind_code kind) node id
    ++ ((codes "parentId", text (node_text parent)) ∷ (codes "parentKey", text key) ∷ [])
    ++ data_out kind ++ replaced_out replaces

abbrev pub op_out : Op → Value
op_out o = object_of (body_out o.id o.body)
