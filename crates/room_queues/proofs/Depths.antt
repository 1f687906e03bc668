-- How deep messages are that are written.
use Rattle.std.proofs.Common.{◌≡◌, ◌≤◌, ◌+◌, ℕ, Bool, true, false, ◌&&◌, List, [], ◌∷◌, ◌++◌, map, Option, Some, None}
use Rattle.std.proofs.Common.{Ordering, Less, Equal, Greater, nat_cmp, nat_le, refl, arith, codes, ℤ}
use Rattle.std.proofs.lemmas.Bool.Decides.{nat_tests}
use Rattle.std.specs.BTreeMap.{insert_entry}
use Rattle.std.specs.Cmp.Lexicographic.{slice_cmp}
use Rattle.std.specs.Ordering.{match_ordering}
use Rattle.room_json.specs.Value.{Value, text, list, members, values_of, fields_of, depth, values_depth, fields_depth}
use Rattle.room_json.specs.Value.{merged, object_of}
use Rattle.room_json.specs.View.{json_of}
use Rattle.room_json.specs.declared.tree.Json.{Json}
use Rattle.room_ids.specs.Ids.{node_text}
use Rattle.room_ids.specs.declared.ids.NodeId.{NodeId}
use Rattle.room_ids.specs.declared.ids.OpId.{OpId}
use Rattle.room_nodes.specs.declared.nodes.Op.{Op}
use Rattle.room_nodes.specs.declared.nodes.Kind.{Kind}
use Rattle.room_nodes.specs.declared.nodes.Kind.TheVariants.{Object, List as Listed, Map, Register}
use Rattle.room_nodes.specs.declared.nodes.Body.{Body}
use Rattle.room_nodes.specs.declared.nodes.Body.TheVariants.{SetKey, Create, Update, Delete, DeleteKey}
use Rattle.room_nodes.specs.Shallow.{are_shallow, is_shallow_kind, is_shallow, AreShallowOps}
use Rattle.room_wire.specs.Written.{op_out, body_out, head_out, kind_code, data_out as kind_out, replaced_out}
use Rattle.room_msg.specs.Keys.{key_text}
use Rattle.room_msg.specs.Written.{server_out, type_out, number_out, target_out, data_out, more_out, ops_out}
use Rattle.room_msg.specs.Written.{user_out, user_value}
use Rattle.room_msg.specs.declared.messages.ServerMsg.{ServerMsg}
use Rattle.room_msg.specs.declared.messages.ServerMsg.TheVariants as server
use Rattle.room_queues.specs.Laws.{FitsFrame}

abbrev Pair : Type 0
Pair = List ℕ × Value

-- members that are put in one after another are as deep as the deepest

abbrev Within : ℕ → List Pair → Type 0
Within n fs = fields_depth (fields_of fs) ≤ n

by_order : (n : ℕ) (o : Ordering) (a b c : List Pair) → Within n a → Within n b → Within n c
    → Within n (match_ordering o a b c)
by_order n Less a b c x y z = x
by_order n Equal a b c x y z = y
by_order n Greater a b c x y z = z

insert_within : (n : ℕ) (fs : List Pair) (k : List ℕ) (v : Value) → depth v ≤ n → Within n fs
    → Within n (insert_entry (slice_cmp nat_cmp) fs k v)
insert_within n [] k v new h = omega (arith, new)
insert_within n (f ∷ fs) k v new h =
    by_order n (slice_cmp nat_cmp k f.0) ((k, v) ∷ f ∷ fs) ((f.0, v) ∷ fs) (f ∷ insert_entry (slice_cmp nat_cmp) fs k v)
    (omega (arith, new, h)) (omega (arith, new, h)) (omega (arith, h, insert_within n fs k v new (omega (arith, h))))

merged_within : (n : ℕ) (found ms : List Pair) → Within n found → Within n ms → Within n (merged found ms)
merged_within n found [] h new = h
merged_within n found (m ∷ ms) h new =
    merged_within n (insert_entry (slice_cmp nat_cmp) found m.0 m.1) ms
    (insert_within n found m.0 m.1 (omega (arith, new)) h) (omega (arith, new))

object_depth : (n : ℕ) (ms : List Pair) → Within n ms → depth (object_of ms) ≤ n + 1
object_depth n ms h = omega (arith, merged_within n [] ms (omega arith) h)

within_append : (n : ℕ) (a b : List Pair) → Within n a → Within n b → Within n (a ++ b)
within_append n [] b x y = y
within_append n (f ∷ fs) b x y = omega (arith, x, within_append n fs b (omega (arith, x)) y)

-- operations

left : (a b : Bool) → a && b ≡ true → a ≡ true
left true b h = refl
left false b h = h

right : (a b : Bool) → a && b ≡ true → b ≡ true
right true b h = h
right false b h = cc

at_most : (m n : ℕ) → nat_le m n ≡ true → m ≤ n
at_most m n h = grind (arith, nat_tests)

fields_within : (fs : List Pair) → are_shallow fs ≡ true → Within 55 fs
fields_within [] h = omega arith
fields_within (f ∷ fs) h = omega (arith, at_most (depth f.1) 55 (left _ _ h), fields_within fs (right _ _ h))

kind_within : (k : Kind) → is_shallow_kind k ≡ true → Within 56 (kind_out k)
kind_within (Object fs) h = omega (arith, fields_within fs h)
kind_within Listed h = omega arith
kind_within Map h = omega arith
kind_within (Register v) h = omega (arith, at_most (depth (json_of v)) 56 h)

replaced_within : (r : Option NodeId) → Within 56 (replaced_out r)
replaced_within None = omega arith
replaced_within (Some n) = omega arith

abbrev parent_out : NodeId → List ℕ → List Pair
parent_out p k = (codes "parentId", text (node_text p)) ∷ (codes "parentKey", text k) ∷ []

body_within : (id : OpId) (b : Body) → is_shallow b ≡ true → Within 56 (body_out id b)
body_within id (SetKey x k) h = omega arith
body_within id (Create x p k r kind) h =
    let rest = kind_out kind ++ replaced_out r in
    within_append 56 (head_out (kind_code kind) x id) (parent_out p k ++ rest) (omega arith)
    (within_append 56 (parent_out p k) rest (omega arith)
    (within_append 56 (kind_out kind) (replaced_out r) (kind_within kind h) (replaced_within r)))
body_within id (Update x fs) h =
    within_append 56 (head_out 3 x id) ((codes "data", members (fields_of fs)) ∷ []) (omega arith)
    (omega (arith, fields_within fs h))
body_within id (Delete x) h = omega arith
body_within id (DeleteKey x k) h = omega arith

ops_within : (os : List Op) → AreShallowOps os → values_depth (values_of (map op_out os)) ≤ 57
ops_within [] h = omega arith
ops_within (o ∷ os) h =
    omega (arith, object_depth 56 (body_out o.id o.body) (body_within o.id o.body h.0), ops_within os h.1)

-- messages

user_depth : (name : List ℕ) → depth (user_value name) ≤ 1
user_depth [] = object_depth 0 [] (omega arith)
user_depth (c ∷ cs) = object_depth 0 ((codes "name", text (c ∷ cs)) ∷ []) (omega arith)

users_within : (us : List (ℕ × List ℕ)) → Within 1 (map user_out us)
users_within [] = omega arith
users_within (u ∷ us) = omega (arith, user_depth u.1, users_within us)

target_within : (t : Option ℤ) → Within 59 (target_out t)
target_within None = omega arith
target_within (Some z) = omega arith

more_within : (b : Bool) → Within 59 (more_out b)
more_within true = omega arith
more_within false = omega arith

abbrev room_out : ℕ → List (ℕ × List ℕ) → List Pair
room_out key users = (codes "key", text (key_text key)) ∷ (codes "users", object_of (map user_out users)) ∷ []

abbrev patch_out : List Pair → Option ℤ → List Pair
patch_out patch target = data_out patch ++ target_out target

abbrev event_out : Json → List Pair
event_out event = (codes "event", json_of event) ∷ []

abbrev items_out : List Value → Bool → List Pair
items_out items more = ((codes "items", list (values_of items)) ∷ []) ++ more_out more

pub fits_depth : (m : ServerMsg) → FitsFrame m → depth (server_out m) ≤ 60
fits_depth (server.Presence a target patch) h =
    let actor = number_out (codes "actor") a in
    object_depth 59 (type_out 100 ++ (actor ++ patch_out patch target))
    (within_append 59 (type_out 100) (actor ++ patch_out patch target) (omega arith)
    (within_append 59 actor (patch_out patch target) (omega arith)
    (within_append 59 (data_out patch) (target_out target) (omega (arith, h)) (target_within target))))
fits_depth (server.Joined a) h = object_depth 59 (type_out 101 ++ number_out (codes "actor") a) (omega arith)
fits_depth (server.Left a) h = object_depth 59 (type_out 102 ++ number_out (codes "actor") a) (omega arith)
fits_depth (server.Broadcast a event) h =
    let actor = number_out (codes "actor") a in
    object_depth 59 (type_out 103 ++ (actor ++ event_out event))
    (within_append 59 (type_out 103) (actor ++ event_out event) (omega arith)
    (within_append 59 actor (event_out event) (omega arith) (omega (arith, h))))
fits_depth (server.RoomState a key users) h =
    let actor = number_out (codes "actor") a in
    object_depth 59 (type_out 104 ++ (actor ++ room_out key users))
    (within_append 59 (type_out 104) (actor ++ room_out key users) (omega arith)
    (within_append 59 actor (room_out key users) (omega arith)
    (omega (arith, object_depth 1 (map user_out users) (users_within users)))))
fits_depth (server.State seq last items more) h =
    let number = number_out (codes "seq") seq in
    let clock = number_out (codes "last") last in
    object_depth 59 (type_out 200 ++ (number ++ (clock ++ items_out items more)))
    (within_append 59 (type_out 200) (number ++ (clock ++ items_out items more)) (omega arith)
    (within_append 59 number (clock ++ items_out items more) (omega arith)
    (within_append 59 clock (items_out items more) (omega arith)
    (within_append 59 ((codes "items", list (values_of items)) ∷ []) (more_out more) (omega (arith, h))
    (more_within more)))))
fits_depth (server.Update seq ops) h =
    let number = number_out (codes "seq") seq in
    object_depth 59 (type_out 201 ++ (number ++ ops_out ops))
    (within_append 59 (type_out 201) (number ++ ops_out ops) (omega arith)
    (within_append 59 number (ops_out ops) (omega arith) (omega (arith, ops_within ops h))))
