-- Messages as JSON, and the texts of frames.
use Rattle.std.specs.Prelude.{ℕ, ℤ, pos, Bool, true, false}
use Rattle.std.specs.Prelude.{◌++◌, List, [], ◌∷◌, map, codes, decimal, Option, Some, None}
use Rattle.room_json.specs.Value.{Value, flag, whole, text, list, members, values_of, fields_of, object_of, text_of}
use Rattle.room_json.specs.View.{json_of}
use Rattle.room_nodes.specs.declared.nodes.Op.{Op}
use Rattle.room_wire.specs.Written.{op_out}
use Rattle.room_msg.specs.Keys.{key_text}
use Rattle.room_msg.specs.declared.messages.Hello.{Hello}
use Rattle.room_msg.specs.declared.messages.Resume.{Resume}
use Rattle.room_msg.specs.declared.messages.ClientMsg.{ClientMsg}
use Rattle.room_msg.specs.declared.messages.ClientMsg.TheVariants as client
use Rattle.room_msg.specs.declared.messages.ServerMsg.{ServerMsg}
use Rattle.room_msg.specs.declared.messages.ServerMsg.TheVariants as server

abbrev pub type_out : ℕ → List (List ℕ × Value)
type_out n = (codes "type", whole (pos n)) ∷ []

abbrev pub number_out : List ℕ → ℕ → List (List ℕ × Value)
number_out name n = (name, whole (pos n)) ∷ []

abbrev pub target_out : Option ℤ → List (List ℕ × Value)
target_out None = []
target_out (Some z) = (codes "targetActor", whole z) ∷ []

abbrev pub data_out : List (List ℕ × Value) → List (List ℕ × Value)
data_out fs = (codes "data", members (fields_of fs)) ∷ []

abbrev pub ops_out : List Op → List (List ℕ × Value)
ops_out os = (codes "ops", list (values_of (map op_out os))) ∷ []

-- what a client sends

abbrev pub resume_value : Resume → Value
resume_value r = object_of (number_out (codes "actor") r.actor ++ (codes "key", text (key_text r.key)) ∷ [])

abbrev pub resume_out : Option Resume → List (List ℕ × Value)
resume_out None = []
resume_out (Some r) = (codes "resume", resume_value r) ∷ []

abbrev pub text_out : List ℕ → Option (List ℕ) → List (List ℕ × Value)
text_out name None = []
text_out name (Some t) = (name, text t) ∷ []

abbrev pub hello_out : Hello → List (List ℕ × Value)
hello_out h =
    type_out 1 ++ ((codes "room", text h.room) ∷ []) ++ resume_out h.resume
    ++ text_out (codes "name") h.name ++ text_out (codes "pass") h.«pass»

abbrev pub client_out : ClientMsg → Value
client_out (client.Hello h) = object_of (hello_out h)
client_out (client.Presence target patch) = object_of (type_out 100 ++ data_out patch ++ target_out target)
client_out (client.Broadcast event) = object_of (type_out 103 ++ (codes "event", json_of event) ∷ [])
client_out client.Fetch = object_of (type_out 200)
client_out (client.Update os) = object_of (type_out 201 ++ ops_out os)

-- a client's frame is the list of its messages
abbrev pub client_text : List ClientMsg → List ℕ
client_text ms = text_of (list (values_of (map client_out ms)))

-- what a server sends

-- a user without a name is an empty object
abbrev pub user_value : List ℕ → Value
user_value [] = object_of []
user_value (c ∷ cs) = object_of ((codes "name", text (c ∷ cs)) ∷ [])

abbrev pub user_out : ℕ × List ℕ → List ℕ × Value
user_out u = (decimal u.0, user_value u.1)

abbrev pub more_out : Bool → List (List ℕ × Value)
more_out true = (codes "more", flag true) ∷ []
more_out false = []

abbrev pub server_out : ServerMsg → Value
server_out (server.Presence actor target patch) =
    object_of (type_out 100 ++ number_out (codes "actor") actor ++ data_out patch ++ target_out target)
server_out (server.Joined actor) = object_of (type_out 101 ++ number_out (codes "actor") actor)
server_out (server.Left actor) = object_of (type_out 102 ++ number_out (codes "actor") actor)
server_out (server.Broadcast actor event) =
    object_of (type_out 103 ++ number_out (codes "actor") actor ++ (codes "event", json_of event) ∷ [])
server_out (server.RoomState actor key users) =
    object_of (
    type_out 104 ++ number_out (codes "actor") actor
    ++ (codes "key", text (key_text key)) ∷ (codes "users", object_of (map user_out users)) ∷ [])
server_out (server.State seq last items more) =
    object_of (
    type_out 200 ++ number_out (codes "seq") seq ++ number_out (codes "last") last
    ++ ((codes "items", list (values_of items)) ∷ []) ++ more_out more)
server_out (server.Update seq os) = object_of (type_out 201 ++ number_out (codes "seq") seq ++ ops_out os)

-- a server's frame is one message
abbrev pub server_text : ServerMsg → List ℕ
server_text m = text_of (server_out m)
