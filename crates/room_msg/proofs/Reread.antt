-- What is read of written messages.
use Rattle.std.proofs.Common.{◌≡◌, ◌≤◌, ◌≤ℤ◌, ℕ, ℤ, pos, negsuc, int_le, nat_le, length, List, ◌∷◌, map, Bool, Option, Some, None, Ok, refl, true, false, rules, arith}
use Rattle.std.proofs.lemmas.Bool.Decides.{nat_tests}
use Rattle.room_json.proofs.Again.{json_again}
use Rattle.room_json.proofs.Values.{values_list-values_of, fields_list-fields_of}
use Rattle.room_json.specs.Fields.{each_in}
use Rattle.room_json.specs.Value.{Value}
use Rattle.room_json.specs.declared.tree.Json.{Json}
use Rattle.room_nodes.specs.declared.nodes.Op.{Op}
use Rattle.room_wire.specs.Wire.{op_in}
use Rattle.room_wire.specs.Written.{op_out}
use Rattle.room_msg.specs.Keys.{key_in, key_text}
use Rattle.room_msg.specs.Laws.{IsSendable, IsServed, IsTarget, IsResumable, IsShort, IsResume, IsActor, IsKey, AreActors, AreOpsKnown, IsClientAgain, IsServerAgain}
use Rattle.room_msg.specs.Msg.{client_in, target_in, as_resume}
use Rattle.room_msg.specs.Written.{client_out, resume_value}
use Rattle.room_msg.specs.declared.messages.Hello.{Hello}
use Rattle.room_msg.specs.declared.messages.Resume.{Resume}
use Rattle.room_msg.specs.declared.messages.ClientMsg.{ClientMsg}
use Rattle.room_msg.specs.declared.messages.ClientMsg.TheVariants as client
use Rattle.room_msg.specs.declared.messages.ServerMsg.TheVariants as server
use Rattle.room_msg.proofs.KeyTexts.{key_again}
use Rattle.room_msg.proofs.Swaps.{users_again}

-- numbers

int_le-true : (x y : ℤ) → x ≤ℤ y → int_le x y ≡ true
int_le-true x y h = search rules

le-true : (x y : ℕ) → x ≤ y → nat_le x y ≡ true
le-true x y h = grind (arith, nat_tests)

target_again : (z : ℤ) → negsuc 0 ≤ℤ z → z ≤ℤ pos 4294967295 → target_in z ≡ Some z
target_again z low high = rw (int_le-true _ _ low, int_le-true _ _ high) refl

key_back : (k : ℕ) → IsKey k → key_in (key_text k) ≡ Some k
key_back k h = key_again k (omega (arith, h))

-- operations

pub known_more : (o : Op) (os : List Op) → op_in (op_out o) ≡ Ok o → AreOpsKnown os → AreOpsKnown (o ∷ os)
known_more o os e k = rw (e, k) refl

-- what a client sends

resume_again : (r : Resume) → 1 ≤ r.actor → IsActor r.actor → IsKey r.key → as_resume (resume_value r) ≡ Some r
resume_again r some actor key = rw (le-true r.actor 4294967295 actor, le-true 1 r.actor some, key_back r.key key) refl

hello_of : (room : List ℕ) (resume : Option Resume) (name word : Option (List ℕ)) → IsResumable resume → IsResume resume → IsShort name
    → IsClientAgain (client.Hello (record { room = room; resume = resume; name = name; «pass» = word }))
hello_of room None None None s r n = refl
hello_of room None None (Some w) s r n = refl
hello_of room None (Some t) None s r n = rw (le-true (length t) 64 n) refl
hello_of room None (Some t) (Some w) s r n = rw (le-true (length t) 64 n) refl
hello_of room (Some x) None None s r n = rw (resume_again x s r.0 r.1) refl
hello_of room (Some x) None (Some w) s r n = rw (resume_again x s r.0 r.1) refl
hello_of room (Some x) (Some t) None s r n = rw (resume_again x s r.0 r.1, le-true (length t) 64 n) refl
hello_of room (Some x) (Some t) (Some w) s r n = rw (resume_again x s r.0 r.1, le-true (length t) 64 n) refl

pub hello_again : (h : Hello) → IsSendable (client.Hello h) → IsResume h.resume → IsClientAgain (client.Hello h)
hello_again h s r = hello_of h.room h.resume h.name h.«pass» s.0 r s.1

pub presence_again : (target : Option ℤ) (patch : List (List ℕ × Value)) → IsTarget target → IsClientAgain (client.Presence target patch)
presence_again None patch s = rw (fields_list-fields_of patch) refl
presence_again (Some z) patch s = rw (fields_list-fields_of patch, target_again z s.0 s.1) refl

pub broadcast_again : (event : Json) → IsClientAgain (client.Broadcast event)
broadcast_again event = rw (json_again event) refl

pub update_again : (ops : List Op) → AreOpsKnown ops → IsClientAgain (client.Update ops)
update_again ops known = rw (values_list-values_of (map op_out ops), known) refl

pub msgs_more : (m : ClientMsg) (ms : List ClientMsg) → IsClientAgain m → each_in client_in (map client_out ms) ≡ Ok ms → each_in client_in (map client_out (m ∷ ms)) ≡ Ok (m ∷ ms)
msgs_more m ms e k = rw (e, k) refl

-- what the server sends

pub seen_again : (actor : ℕ) (target : Option ℤ) (patch : List (List ℕ × Value)) → IsActor actor → IsTarget target → IsServerAgain (server.Presence actor target patch)
seen_again actor None patch a s = rw (le-true actor 4294967295 a, fields_list-fields_of patch) refl
seen_again actor (Some z) patch a s = rw (le-true actor 4294967295 a, fields_list-fields_of patch, target_again z s.0 s.1) refl

pub joined_again : (actor : ℕ) → IsActor actor → IsServerAgain (server.Joined actor)
joined_again actor a = rw (le-true actor 4294967295 a) refl

pub left_again : (actor : ℕ) → IsActor actor → IsServerAgain (server.Left actor)
left_again actor a = rw (le-true actor 4294967295 a) refl

pub heard_again : (actor : ℕ) (event : Json) → IsActor actor → IsServerAgain (server.Broadcast actor event)
heard_again actor event a = rw (le-true actor 4294967295 a, json_again event) refl

pub room_again : (actor key : ℕ) (users : List (ℕ × List ℕ)) → IsServed (server.RoomState actor key users) → IsActor actor → IsKey key → AreActors users → IsServerAgain (server.RoomState actor key users)
room_again actor key users s a k u = rw (le-true actor 4294967295 a, le-true 1 actor s.0, key_back key k, users_again users s.1 u) refl

pub state_again : (seq last : ℕ) (items : List Value) (more : Bool) → IsServed (server.State seq last items more) → IsServerAgain (server.State seq last items more)
state_again seq last items true s = rw (le-true seq 9007199254740991 s.0, le-true last 9007199254740991 s.1, values_list-values_of items) refl
state_again seq last items false s = rw (le-true seq 9007199254740991 s.0, le-true last 9007199254740991 s.1, values_list-values_of items) refl

pub updated_again : (seq : ℕ) (ops : List Op) → IsServed (server.Update seq ops) → AreOpsKnown ops → IsServerAgain (server.Update seq ops)
updated_again seq ops s known = rw (le-true seq 9007199254740991 s, values_list-values_of (map op_out ops), known) refl
