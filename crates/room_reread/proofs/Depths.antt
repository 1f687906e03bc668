-- What clients send is no deeper than a frame of 60 levels holds it.
use Rattle.std.proofs.Common.{◌≡◌, ◌≤◌, ℕ, Bool, true, false, ◌&&◌, List, [], ◌∷◌, ◌++◌, map, Option, Some, None}
use Rattle.std.proofs.Common.{nat_le, refl, arith, codes, ℤ}
use Rattle.std.proofs.lemmas.Bool.Decides.{nat_tests}
use Rattle.room_json.specs.Value.{Value, text, members, values_of, fields_of, depth, values_depth, fields_depth}
use Rattle.room_json.specs.View.{json_of}
use Rattle.room_ids.specs.Ids.{node_text}
use Rattle.room_ids.specs.declared.ids.NodeId.{NodeId}
use Rattle.room_ids.specs.declared.ids.OpId.{OpId}
use Rattle.room_nodes.specs.declared.nodes.Op.{Op}
use Rattle.room_nodes.specs.declared.nodes.Kind.{Kind}
use Rattle.room_nodes.specs.declared.nodes.Kind.TheVariants.{Object, List as Listed, Map, Register}
use Rattle.room_nodes.specs.declared.nodes.Body.{Body}
use Rattle.room_nodes.specs.declared.nodes.Body.TheVariants.{SetKey, Create, Update, Delete, DeleteKey}
use Rattle.room_nodes.specs.Shallow.{are_shallow, is_shallow_kind, is_shallow, AreShallowOps}
use Rattle.room_items.proofs.Members.{object_depth}
use Rattle.room_wire.specs.Written.{op_out, body_out, head_out, kind_code, data_out as kind_out, replaced_out}
use Rattle.room_msg.specs.Keys.{key_text}
use Rattle.room_msg.specs.Written.{client_out, type_out, number_out, target_out, data_out, ops_out, resume_out}
use Rattle.room_msg.specs.Written.{text_out}
use Rattle.room_msg.specs.declared.messages.Resume.{Resume}
use Rattle.room_msg.specs.declared.messages.ClientMsg.{ClientMsg}
use Rattle.room_msg.specs.declared.messages.ClientMsg.TheVariants as client
use Rattle.room_laws.specs.Validity.{IsValidClientMsg}

abbrev Pair : Type 0
Pair = List ℕ × Value

abbrev Within : ℕ → List Pair → Type 0
Within n fs = fields_depth (fields_of fs) ≤ n

within_append : (n : ℕ) (a b : List Pair) → Within n a → Within n b → Within n (a ++ b)
within_append n [] b x y = y
within_append n (f ∷ fs) b x y = omega (arith, x, within_append n fs b (omega (arith, x)) y)

-- operations

left : (a b : Bool) → a && b ≡ true → a ≡ true
left true b h = refl
left false b h = h

right : (a b : Bool) → a && b ≡ true → b ≡ true
right true b h = h
right false b h = cc

at_most : (m n : ℕ) → nat_le m n ≡ true → m ≤ n
at_most m n h = grind (arith, nat_tests)

fields_within : (fs : List Pair) → are_shallow fs ≡ true → Within 55 fs
fields_within [] h = omega arith
fields_within (f ∷ fs) h = omega (arith, at_most (depth f.1) 55 (left _ _ h), fields_within fs (right _ _ h))

kind_within : (k : Kind) → is_shallow_kind k ≡ true → Within 56 (kind_out k)
kind_within (Object fs) h = omega (arith, fields_within fs h)
kind_within Listed h = omega arith
kind_within Map h = omega arith
kind_within (Register v) h = omega (arith, at_most (depth (json_of v)) 56 h)

replaced_within : (r : Option NodeId) → Within 56 (replaced_out r)
replaced_within None = omega arith
replaced_within (Some n) = omega arith

abbrev parent_out : NodeId → List ℕ → List Pair
parent_out p k = (codes "parentId", text (node_text p)) ∷ (codes "parentKey", text k) ∷ []

body_within : (id : OpId) (b : Body) → is_shallow b ≡ true → Within 56 (body_out id b)
body_within id (SetKey x k) h = omega arith
body_within id (Create x p k r kind) h =
    let rest = kind_out kind ++ replaced_out r in
    within_append 56 (head_out (kind_code kind) x id) (parent_out p k ++ rest) (omega arith)
    (within_append 56 (parent_out p k) rest (omega arith)
    (within_append 56 (kind_out kind) (replaced_out r) (kind_within kind h) (replaced_within r)))
body_within id (Update x fs) h =
    within_append 56 (head_out 3 x id) ((codes "data", members (fields_of fs)) ∷ []) (omega arith)
    (omega (arith, fields_within fs h))
body_within id (Delete x) h = omega arith
body_within id (DeleteKey x k) h = omega arith

ops_within : (os : List Op) → AreShallowOps os → values_depth (values_of (map op_out os)) ≤ 57
ops_within [] h = omega arith
ops_within (o ∷ os) h =
    omega (arith, object_depth 56 (body_out o.id o.body) (body_within o.id o.body h.0), ops_within os h.1)

-- messages

resume_within : (o : Option Resume) → Within 58 (resume_out o)
resume_within None = omega arith
resume_within (Some r) =
    let session = number_out (codes "actor") r.actor ++ (codes "key", text (key_text r.key)) ∷ [] in
    omega (arith, object_depth 0 session (omega arith))

text_within : (k : List ℕ) (o : Option (List ℕ)) → Within 58 (text_out k o)
text_within k None = omega arith
text_within k (Some t) = omega arith

target_within : (t : Option ℤ) → Within 58 (target_out t)
target_within None = omega arith
target_within (Some z) = omega arith

abbrev named_out : List ℕ → List Pair
named_out room = (codes "room", text room) ∷ []

pub client_depth : (m : ClientMsg) → IsValidClientMsg m → depth (client_out m) ≤ 59
client_depth (client.Hello h) v =
    let name = text_out (codes "name") h.name in
    let pass = text_out (codes "pass") h.«pass» in
    let rest = (resume_out h.resume ++ name) ++ pass in
    object_depth 58 (type_out 1 ++ (named_out h.room ++ rest))
    (within_append 58 (type_out 1) (named_out h.room ++ rest) (omega arith)
    (within_append 58 (named_out h.room) rest (omega arith)
    (within_append 58 (resume_out h.resume ++ name) pass
    (within_append 58 (resume_out h.resume) name (resume_within h.resume) (text_within (codes "name") h.name))
    (text_within (codes "pass") h.«pass»))))
client_depth (client.Presence target patch) v =
    object_depth 58 (type_out 100 ++ (data_out patch ++ target_out target))
    (within_append 58 (type_out 100) (data_out patch ++ target_out target) (omega arith)
    (within_append 58 (data_out patch) (target_out target) (omega (arith, v.2)) (target_within target)))
client_depth (client.Broadcast event) v =
    object_depth 58 (type_out 103 ++ (codes "event", json_of event) ∷ [])
    (within_append 58 (type_out 103) ((codes "event", json_of event) ∷ []) (omega arith) (omega (arith, v.1)))
client_depth client.Fetch v = object_depth 58 (type_out 200) (omega arith)
client_depth (client.Update ops) v =
    object_depth 58 (type_out 201 ++ ops_out ops)
    (within_append 58 (type_out 201) (ops_out ops) (omega arith) (omega (arith, ops_within ops v.1)))
