-- What is written of a valid message is a value of the profile.
use Rattle.std.proofs.Common.{◌≤◌, ◌<◌, ◌+◌, ◌/◌, ◌%◌, ℕ, zero, suc, ℤ, pos, nat_lt, Bool, true, false, cond}
use Rattle.std.proofs.Common.{List, [], ◌∷◌, ◌++◌, map, codes, Option, Some, None, IsUtf8, refl, sym, subst, arith}
use Rattle.std.specs.Fmt.{decimal}
use Rattle.std.specs.Str.{IsAscii}
use Rattle.std.specs.Cmp.Lexicographic.{slice_cmp}
use Rattle.std.specs.List.Sorted.{IsStrictlySortedBy}
use Rattle.std.specs.Map.{keys_of}
use Rattle.std.specs.Ordering.{nat_cmp}
use Rattle.std.proofs.lemmas.Fmt.{IsAscii-decimal}
use Rattle.std.proofs.lemmas.Str.{IsUtf8-from_ascii, IsUtf8-append}
use Rattle.std.proofs.lemmas.Str.Ascii.{IsAscii-nil}
use Rattle.json.proofs.Printed.Utf8.{IsUtf8-are_ascii}
use Rattle.room_json.specs.Profile.{IsJson, AreJson, AreSoundMembers}
use Rattle.room_json.specs.Value.{Value, whole, text, list, members, object_of, values_of, fields_of}
use Rattle.room_json.specs.View.{json_of}
use Rattle.room_json.proofs.Values.{fields_list-fields_of}
use Rattle.room_ids.specs.Ids.{node_text, stamp_text}
use Rattle.room_ids.specs.Laws.{IsInRange, IsNodeInRange}
use Rattle.room_ids.specs.Stamp.{Stamp}
use Rattle.room_ids.specs.declared.ids.OpId.{OpId}
use Rattle.room_ids.specs.declared.ids.NodeId.{NodeId}
use Rattle.room_ids.specs.declared.ids.NodeId.TheVariants.{Root, Made}
use Rattle.room_nodes.specs.declared.nodes.Op.{Op}
use Rattle.room_nodes.specs.declared.nodes.Kind.{Kind}
use Rattle.room_nodes.specs.declared.nodes.Kind.TheVariants.{Object, List as Listed, Map, Register}
use Rattle.room_nodes.specs.declared.nodes.Body.{Body}
use Rattle.room_nodes.specs.declared.nodes.Body.TheVariants.{SetKey, Create, Update, Delete, DeleteKey}
use Rattle.room_nodes.specs.Sound.{IsSoundKind, IsSoundBody, IsSomeInRange, AreSoundOps}
use Rattle.room_items.proofs.Members.{Pair, EachJson, object_json}
use Rattle.room_wire.specs.Written.{op_out, body_out, head_out, kind_code, data_out as kind_out, replaced_out}
use Rattle.room_msg.specs.Keys.{key_text, hex_digit, hex_digits}
use Rattle.room_msg.specs.Laws.{IsTarget, AreActors, IsResume}
use Rattle.room_msg.specs.Sound.{AreNames, IsTextIfThere}
use Rattle.room_msg.specs.Written.{server_out, type_out, number_out, target_out, data_out, more_out, ops_out, user_out}
use Rattle.room_msg.specs.Written.{user_value, client_out, resume_out, text_out}
use Rattle.room_msg.specs.declared.messages.Resume.{Resume}
use Rattle.room_msg.specs.declared.messages.ClientMsg.{ClientMsg}
use Rattle.room_msg.specs.declared.messages.ClientMsg.TheVariants as client
use Rattle.room_msg.specs.declared.messages.ServerMsg.{ServerMsg}
use Rattle.room_msg.specs.declared.messages.ServerMsg.TheVariants as server
use Rattle.room_laws.specs.Accounts.{IsValidServerMsg}
use Rattle.room_laws.specs.Validity.{IsValidClientMsg}
use Rattle.room_reread.specs.Fits.{IsRanged}

-- texts

decimal_utf8 : (n : ℕ) → n < 18446744073709551616 → IsUtf8 (decimal n)
decimal_utf8 n h = IsUtf8-from_ascii (decimal n) (IsAscii-decimal n h)

stamp_utf8 : (s : Stamp) → IsInRange s → IsUtf8 (stamp_text s)
unfolding stamp_text
stamp_utf8 s h =
    IsUtf8-append (decimal s.actor) (58 ∷ decimal s.clock) (decimal_utf8 s.actor (omega (arith, h.0)))
    (IsUtf8-append (58 ∷ []) (decimal s.clock) (IsUtf8-are_ascii (58 ∷ []) refl)
    (decimal_utf8 s.clock (omega (arith, h.1))))

node_utf8 : (x : NodeId) → IsNodeInRange x → IsUtf8 (node_text x)
unfolding node_text
node_utf8 Root h = IsUtf8-are_ascii (codes "root") refl
node_utf8 (Made s) h = stamp_utf8 s h

one_ascii : (c : ℕ) → c < 128 → IsAscii (c ∷ [])
one_ascii c low zero = low
one_ascii c low (suc i) = IsAscii-nil i

digit_low : (b : Bool) (d : ℕ) → d < 16 → cond b (48 + d) (87 + d) < 128
digit_low true d h = omega (arith, h)
digit_low false d h = omega (arith, h)

hex_utf8 : (n k : ℕ) → IsUtf8 (hex_digits n k)
hex_utf8 zero k = IsUtf8-from_ascii [] IsAscii-nil
hex_utf8 (suc n) k =
    IsUtf8-append (hex_digits n (k / 16)) (hex_digit (k % 16) ∷ []) (hex_utf8 n (k / 16))
    (IsUtf8-from_ascii (hex_digit (k % 16) ∷ [])
    (one_ascii (hex_digit (k % 16)) (digit_low (nat_lt (k % 16) 10) (k % 16) (omega arith))))

key_utf8 : (k : ℕ) → IsUtf8 (key_text k)
unfolding key_text
key_utf8 k = hex_utf8 16 k

-- members

each_append : (xs ys : List Pair) → EachJson xs → EachJson ys → EachJson (xs ++ ys)
each_append [] ys h k = k
each_append (x ∷ xs) ys h k = (h.0, h.1, each_append xs ys h.2 k)

whole_json : (n : ℕ) → n ≤ 9007199254740991 → IsJson (whole (pos n))
whole_json n h = (grind (arith, h), grind (arith, h))

members_json : (fs : List Pair) → AreSoundMembers fs → IsJson (members (fields_of fs))
members_json fs h = (
  subst (λ (gs : List Pair). IsStrictlySortedBy (slice_cmp nat_cmp) (keys_of gs)) (sym (fields_list-fields_of fs))
      h.ordered,
  h.json,
)

-- operations

head_json : (code : ℕ) (x : NodeId) (id : OpId) → code ≤ 8 → IsNodeInRange x → IsInRange id.0
    → EachJson (head_out code x id)
head_json code x id small h r = (
  IsUtf8-are_ascii (codes "type") refl,
  whole_json code (omega (arith, small)),
  (IsUtf8-are_ascii (codes "id") refl, node_utf8 x h, (IsUtf8-are_ascii (codes "opId") refl, stamp_utf8 id.0 r, tt)),
)

kind_json : (k : Kind) → IsSoundKind k → EachJson (kind_out k)
kind_json (Object fs) h = (IsUtf8-are_ascii (codes "data") refl, members_json fs h, tt)
kind_json Listed h = tt
kind_json Map h = tt
kind_json (Register v) h = (IsUtf8-are_ascii (codes "data") refl, h, tt)

replaced_json : (r : Option NodeId) → IsSomeInRange r → EachJson (replaced_out r)
replaced_json None h = tt
replaced_json (Some n) h = (
  IsUtf8-are_ascii (codes "intent") refl,
  IsUtf8-are_ascii (codes "set") refl,
  (IsUtf8-are_ascii (codes "deletedId") refl, node_utf8 n h, tt),
)

kind_small : (k : Kind) → kind_code k ≤ 8
kind_small (Object fs) = omega arith
kind_small Listed = omega arith
kind_small Map = omega arith
kind_small (Register v) = omega arith

abbrev parent_out : NodeId → List ℕ → List Pair
parent_out p k = (codes "parentId", text (node_text p)) ∷ (codes "parentKey", text k) ∷ []

body_json : (id : OpId) (b : Body) → IsInRange id.0 → IsSoundBody b → EachJson (body_out id b)
body_json id (SetKey x k) r h =
    each_append (head_out 1 x id) ((codes "parentKey", text k) ∷ []) (head_json 1 x id (omega arith) h.0 r)
    (IsUtf8-are_ascii (codes "parentKey") refl, h.1, tt)
body_json id (Create x p k o kind) r h =
    let rest = kind_out kind ++ replaced_out o in
    each_append (head_out (kind_code kind) x id) (parent_out p k ++ rest)
    (head_json (kind_code kind) x id (kind_small kind) h.0 r)
    (each_append (parent_out p k) rest
    (IsUtf8-are_ascii (codes "parentId") refl, node_utf8 p h.1, (IsUtf8-are_ascii (codes "parentKey") refl, h.2, tt))
    (each_append (kind_out kind) (replaced_out o) (kind_json kind h.4) (replaced_json o h.3)))
body_json id (Update x fs) r h =
    each_append (head_out 3 x id) ((codes "data", members (fields_of fs)) ∷ []) (head_json 3 x id (omega arith) h.0 r)
    (IsUtf8-are_ascii (codes "data") refl, members_json fs h.1, tt)
body_json id (Delete x) r h = head_json 5 x id (omega arith) h r
body_json id (DeleteKey x k) r h =
    each_append (head_out 6 x id) ((codes "key", text k) ∷ []) (head_json 6 x id (omega arith) h.0 r)
    (IsUtf8-are_ascii (codes "key") refl, h.1, tt)

ops_json : (os : List Op) → AreSoundOps os → AreJson (values_of (map op_out os))
ops_json [] h = tt
ops_json (o ∷ os) h = (object_json (body_out o.id o.body) (body_json o.id o.body h.0.0 h.0.1), ops_json os h.1)

-- messages

type_json : (n : ℕ) → n ≤ 201 → EachJson (type_out n)
type_json n h = (IsUtf8-are_ascii (codes "type") refl, whole_json n (omega (arith, h)), tt)

actor_json : (a : ℕ) → a ≤ 4294967295 → EachJson (number_out (codes "actor") a)
actor_json a h = (IsUtf8-are_ascii (codes "actor") refl, whole_json a (omega (arith, h)), tt)

target_json : (t : Option ℤ) → IsTarget t → EachJson (target_out t)
target_json None h = tt
target_json (Some z) h = (IsUtf8-are_ascii (codes "targetActor") refl, (grind (arith, h.0), grind (arith, h.1)), tt)

name_json : (name : List ℕ) → IsUtf8 name → IsJson (user_value name)
name_json [] h = object_json [] tt
name_json (c ∷ cs) h = object_json ((codes "name", text (c ∷ cs)) ∷ []) (IsUtf8-are_ascii (codes "name") refl, h, tt)

users_json : (us : List (ℕ × List ℕ)) → AreActors us → AreNames us → EachJson (map user_out us)
users_json [] h k = tt
users_json (u ∷ us) h k = (decimal_utf8 u.0 (omega (arith, h.0)), name_json u.1 k.0, users_json us h.1 k.1)

more_json : (b : Bool) → EachJson (more_out b)
more_json true = (IsUtf8-are_ascii (codes "more") refl, tt, tt)
more_json false = tt

abbrev event_out : Value → List Pair
event_out v = (codes "event", v) ∷ []

abbrev room_out : ℕ → Value → List Pair
room_out key users = (codes "key", text (key_text key)) ∷ (codes "users", users) ∷ []

abbrev items_out : List Value → List Pair
items_out items = (codes "items", list (values_of items)) ∷ []

pub server_json : (m : ServerMsg) → IsValidServerMsg m → IsJson (server_out m)
server_json (server.Presence a target patch) h =
    let actor = number_out (codes "actor") a in
    let rest = data_out patch ++ target_out target in
    object_json (type_out 100 ++ (actor ++ rest))
    (each_append (type_out 100) (actor ++ rest) (type_json 100 (omega arith))
    (each_append actor rest (actor_json a h.0)
    (each_append (data_out patch) (target_out target)
    (IsUtf8-are_ascii (codes "data") refl, members_json patch h.1, tt) (target_json target h.2))))
server_json (server.Joined a) h =
    let actor = number_out (codes "actor") a in
    object_json (type_out 101 ++ actor)
    (each_append (type_out 101) actor (type_json 101 (omega arith)) (actor_json a h))
server_json (server.Left a) h =
    let actor = number_out (codes "actor") a in
    object_json (type_out 102 ++ actor)
    (each_append (type_out 102) actor (type_json 102 (omega arith)) (actor_json a h))
server_json (server.Broadcast a event) h =
    let actor = number_out (codes "actor") a in
    let rest = event_out (json_of event) in
    object_json (type_out 103 ++ (actor ++ rest))
    (each_append (type_out 103) (actor ++ rest) (type_json 103 (omega arith))
    (each_append actor rest (actor_json a h.0) (IsUtf8-are_ascii (codes "event") refl, h.1, tt)))
server_json (server.RoomState a key users) h =
    let actor = number_out (codes "actor") a in
    let rest = room_out key (object_of (map user_out users)) in
    object_json (type_out 104 ++ (actor ++ rest))
    (each_append (type_out 104) (actor ++ rest) (type_json 104 (omega arith))
    (each_append actor rest (actor_json a h.1) (
      IsUtf8-are_ascii (codes "key") refl,
      key_utf8 key,
      (IsUtf8-are_ascii (codes "users") refl, object_json (map user_out users) (users_json users h.4 h.5), tt),
    )))
server_json (server.State seq last items more) h =
    let number = number_out (codes "seq") seq in
    let clock = number_out (codes "last") last in
    let rest = items_out items ++ more_out more in
    object_json (type_out 200 ++ (number ++ (clock ++ rest)))
    (each_append (type_out 200) (number ++ (clock ++ rest)) (type_json 200 (omega arith))
    (each_append number (clock ++ rest) (IsUtf8-are_ascii (codes "seq") refl, whole_json seq h.0, tt)
    (each_append clock rest (IsUtf8-are_ascii (codes "last") refl, whole_json last h.1, tt)
    (each_append (items_out items) (more_out more)
    (IsUtf8-are_ascii (codes "items") refl, h.2.json, tt) (more_json more)))))
server_json (server.Update seq ops) h =
    let number = number_out (codes "seq") seq in
    object_json (type_out 201 ++ (number ++ ops_out ops))
    (each_append (type_out 201) (number ++ ops_out ops) (type_json 201 (omega arith))
    (each_append number (ops_out ops) (IsUtf8-are_ascii (codes "seq") refl, whole_json seq h.0, tt)
    (IsUtf8-are_ascii (codes "ops") refl, ops_json ops h.1, tt)))

-- what clients send

abbrev session_out : Resume → List Pair
session_out r = number_out (codes "actor") r.actor ++ (codes "key", text (key_text r.key)) ∷ []

resume_json : (o : Option Resume) → IsResume o → EachJson (resume_out o)
resume_json None h = tt
resume_json (Some r) h = (
  IsUtf8-are_ascii (codes "resume") refl,
  object_json (session_out r)
      (each_append (number_out (codes "actor") r.actor) ((codes "key", text (key_text r.key)) ∷ [])
      (actor_json r.actor h.0)
      (IsUtf8-are_ascii (codes "key") refl, key_utf8 r.key, tt)),
  tt,
)

text_json : (k : List ℕ) (o : Option (List ℕ)) → IsUtf8 k → IsTextIfThere o → EachJson (text_out k o)
text_json k None u h = tt
text_json k (Some t) u h = (u, h, tt)

abbrev named_out : List ℕ → List Pair
named_out room = (codes "room", text room) ∷ []

pub client_json : (m : ClientMsg) → IsValidClientMsg m → IsRanged m → IsJson (client_out m)
client_json (client.Hello h) v r =
    let name = text_out (codes "name") h.name in
    let pass = text_out (codes "pass") h.«pass» in
    let rest = (resume_out h.resume ++ name) ++ pass in
    object_json (type_out 1 ++ (named_out h.room ++ rest))
    (each_append (type_out 1) (named_out h.room ++ rest) (type_json 1 (omega arith))
    (each_append (named_out h.room) rest (IsUtf8-are_ascii (codes "room") refl, v.0, tt)
    (each_append (resume_out h.resume ++ name) pass
    (each_append (resume_out h.resume) name (resume_json h.resume r.2)
    (text_json (codes "name") h.name (IsUtf8-are_ascii (codes "name") refl) v.1))
    (text_json (codes "pass") h.«pass» (IsUtf8-are_ascii (codes "pass") refl) v.2))))
client_json (client.Presence target patch) v r =
    let rest = data_out patch ++ target_out target in
    object_json (type_out 100 ++ rest)
    (each_append (type_out 100) rest (type_json 100 (omega arith))
    (each_append (data_out patch) (target_out target)
    (IsUtf8-are_ascii (codes "data") refl, members_json patch v.0, tt) (target_json target v.1)))
client_json (client.Broadcast event) v r =
    object_json (type_out 103 ++ event_out (json_of event))
    (each_append (type_out 103) (event_out (json_of event)) (type_json 103 (omega arith))
    (IsUtf8-are_ascii (codes "event") refl, v.0, tt))
client_json client.Fetch v r = object_json (type_out 200) (type_json 200 (omega arith))
client_json (client.Update ops) v r =
    object_json (type_out 201 ++ ops_out ops)
    (each_append (type_out 201) (ops_out ops) (type_json 201 (omega arith))
    (IsUtf8-are_ascii (codes "ops") refl, ops_json ops v.0, tt))
