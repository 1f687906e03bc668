-- Messages as they are read: the fields in their order, and the first that is missing or wrong.
-- A client's message is `client_in`, what the server sends at once `server_msgs_in`; `type` comes first.
use Rattle.std.specs.Prelude.{◌≡◌, ⊤, ℕ, ℤ, pos, negsuc, int_le, nat_eq, nat_le, Bool, false, if◌then◌else◌}
use Rattle.std.specs.Prelude.{length, List, [], ◌∷◌, codes}
use Rattle.std.specs.Prelude.{Option, Some, None, option_and_then, option_map, Result, Ok, Err}
use Rattle.room_json.specs.Back.{json_in}
use Rattle.room_json.specs.Fields.{field_of, and_then, needed, allowed, each_in}
use Rattle.room_json.specs.Value.{Value, members, list, values_list, as_members, as_text, as_whole, as_list, as_flag}
use Rattle.room_nodes.specs.declared.nodes.Op.{Op}
use Rattle.room_wire.specs.Wire.{op_in, name_of}
use Rattle.room_wire.specs.declared.fault.Field.{Field as OpField}
use Rattle.room_msg.specs.Keys.{key_in}
use Rattle.room_msg.specs.Users.{as_users}
use Rattle.room_msg.specs.declared.codes.ClientCode.{ClientCode}
use Rattle.room_msg.specs.declared.codes.ClientCode.TheVariants as to_server
use Rattle.room_msg.specs.declared.codes.ServerCode.{ServerCode}
use Rattle.room_msg.specs.declared.codes.ServerCode.TheVariants as to_client
use Rattle.room_msg.specs.declared.messages.Resume.{Resume}
use Rattle.room_msg.specs.declared.messages.ClientMsg.{ClientMsg}
use Rattle.room_msg.specs.declared.messages.ClientMsg.TheVariants as client
use Rattle.room_msg.specs.declared.messages.ServerMsg.{ServerMsg}
use Rattle.room_msg.specs.declared.messages.ServerMsg.TheVariants as server
use Rattle.room_msg.specs.declared.reason.Reason.{Reason}
use Rattle.room_msg.specs.declared.reason.Reason.TheVariants.{Kind, Field, List as NoList}
use Rattle.room_msg.specs.declared.reason.MsgFault.{MsgFault}
use Rattle.room_msg.specs.declared.reason.MsgFault.TheVariants.{Memory, Bad}

-- a field that must be there, and one that may be missing
abbrev pub at : {A : Type 0} → (Value → Option A) → List ℕ → Value → Result A Reason
at read name v = needed read (Field name) (field_of name v)

abbrev pub maybe_at : {A : Type 0} → (Value → Option A) → List ℕ → Value → Result (Option A) Reason
maybe_at read name v = allowed read (Field name) (field_of name v)

-- what a field's value spells

-- a whole number from 0 to a greatest one
abbrev pub count_in : ℕ → ℤ → Option ℕ
count_in most (pos n) = if nat_le n most then Some n else None
count_in most (negsuc n) = None

abbrev pub as_count : Value → Option ℕ
as_count v = option_and_then (count_in 9007199254740991) (as_whole v)

abbrev pub as_actor : Value → Option ℕ
as_actor v = option_and_then (count_in 4294967295) (as_whole v)

-- an actor of a session: from 1 on
abbrev pub as_maker : Value → Option ℕ
as_maker v = option_and_then (λ n. if nat_le 1 n then Some n else None) (as_actor v)

abbrev pub target_in : ℤ → Option ℤ
target_in z = if int_le (negsuc 0) z then (if int_le z (pos 4294967295) then Some z else None) else None

abbrev pub as_target : Value → Option ℤ
as_target v = option_and_then target_in (as_whole v)

abbrev pub as_key : Value → Option ℕ
as_key v = option_and_then key_in (as_text v)

-- a name of at most 64 bytes
abbrev pub as_name : Value → Option (List ℕ)
as_name v = option_and_then (λ t. if nat_le (length t) 64 then Some t else None) (as_text v)

abbrev pub as_resume : Value → Option Resume
as_resume v =
    option_and_then (λ a.
    option_map (λ k. record { actor = a; key = k }) (option_and_then as_key (field_of (codes "key") v)))
    (option_and_then as_maker (field_of (codes "actor") v))

-- operations

abbrev pub reason_of : {A : Type 0} → Result A OpField → Result A Reason
reason_of (Ok x) = Ok x
reason_of (Err f) = Err (Field (name_of f))

-- a fault within an operation names the operation's field
abbrev pub op_at : Value → Result Op Reason
op_at v = reason_of (op_in v)

abbrev pub ops_at : Value → Result (List Op) Reason
ops_at v = and_then (at as_list (codes "ops") v) (each_in op_at)

-- what a client sends

abbrev pub client_code_of : ℕ → Option ClientCode
client_code_of n =
    if nat_eq n 1 then Some to_server.Hello else (
    if nat_eq n 100 then Some to_server.Presence else (
    if nat_eq n 103 then Some to_server.Broadcast else (
    if nat_eq n 200 then Some to_server.Fetch else (
    if nat_eq n 201 then Some to_server.Update else None))))

abbrev pub client_code_in : ℤ → Option ClientCode
client_code_in (pos n) = client_code_of n
client_code_in (negsuc n) = None

abbrev pub as_client_code : Value → Option ClientCode
as_client_code v = option_and_then client_code_in (as_whole v)

abbrev pub hello_in : Value → Result ClientMsg Reason
hello_in v =
    and_then (at as_text (codes "room") v) (λ room.
    and_then (maybe_at as_resume (codes "resume") v) (λ resume.
    and_then (maybe_at as_name (codes "name") v) (λ name.
    and_then (maybe_at as_text (codes "pass") v) (λ word.
    Ok (client.Hello (record { room = room; resume = resume; name = name; «pass» = word }))))))

abbrev pub presence_in : Value → Result ClientMsg Reason
presence_in v =
    and_then (at as_members (codes "data") v) (λ patch.
    and_then (maybe_at as_target (codes "targetActor") v) (λ target.
    Ok (client.Presence target patch)))

abbrev pub broadcast_in : Value → Result ClientMsg Reason
broadcast_in v = and_then (at Some (codes "event") v) (λ event. Ok (client.Broadcast (json_in event)))

abbrev pub update_in : Value → Result ClientMsg Reason
update_in v = and_then (ops_at v) (λ ops. Ok (client.Update ops))

abbrev pub coded_client_in : ClientCode → Value → Result ClientMsg Reason
coded_client_in to_server.Hello v = hello_in v
coded_client_in to_server.Presence v = presence_in v
coded_client_in to_server.Broadcast v = broadcast_in v
coded_client_in to_server.Fetch v = Ok client.Fetch
coded_client_in to_server.Update v = update_in v

abbrev pub client_in : Value → Result ClientMsg Reason
client_in v = and_then (needed as_client_code Kind (field_of (codes "type") v)) (λ code. coded_client_in code v)

-- what a server sends

abbrev pub server_code_of : ℕ → Option ServerCode
server_code_of n =
    if nat_eq n 100 then Some to_client.Presence else (
    if nat_eq n 101 then Some to_client.Joined else (
    if nat_eq n 102 then Some to_client.Left else (
    if nat_eq n 103 then Some to_client.Broadcast else (
    if nat_eq n 104 then Some to_client.RoomState else (
    if nat_eq n 200 then Some to_client.State else (
    if nat_eq n 201 then Some to_client.Update else None))))))

abbrev pub server_code_in : ℤ → Option ServerCode
server_code_in (pos n) = server_code_of n
server_code_in (negsuc n) = None

abbrev pub as_server_code : Value → Option ServerCode
as_server_code v = option_and_then server_code_in (as_whole v)

abbrev pub seen_in : Value → Result ServerMsg Reason
seen_in v =
    and_then (at as_actor (codes "actor") v) (λ actor.
    and_then (at as_members (codes "data") v) (λ patch.
    and_then (maybe_at as_target (codes "targetActor") v) (λ target.
    Ok (server.Presence actor target patch))))

abbrev pub joined_in : Value → Result ServerMsg Reason
joined_in v = and_then (at as_actor (codes "actor") v) (λ actor. Ok (server.Joined actor))

abbrev pub left_in : Value → Result ServerMsg Reason
left_in v = and_then (at as_actor (codes "actor") v) (λ actor. Ok (server.Left actor))

abbrev pub heard_in : Value → Result ServerMsg Reason
heard_in v =
    and_then (at as_actor (codes "actor") v) (λ actor.
    and_then (at Some (codes "event") v) (λ event.
    Ok (server.Broadcast actor (json_in event))))

abbrev pub room_in : Value → Result ServerMsg Reason
room_in v =
    and_then (at as_maker (codes "actor") v) (λ actor.
    and_then (at as_key (codes "key") v) (λ key.
    and_then (at as_users (codes "users") v) (λ users.
    Ok (server.RoomState actor key users))))

-- left out where no part follows
abbrev pub or_false : Option Bool → Bool
or_false None = false
or_false (Some b) = b

abbrev pub state_in : Value → Result ServerMsg Reason
state_in v =
    and_then (at as_count (codes "seq") v) (λ seq.
    and_then (at as_count (codes "last") v) (λ last.
    and_then (at as_list (codes "items") v) (λ items.
    and_then (maybe_at as_flag (codes "more") v) (λ more.
    Ok (server.State seq last items (or_false more))))))

abbrev pub updated_in : Value → Result ServerMsg Reason
updated_in v =
    and_then (at as_count (codes "seq") v) (λ seq.
    and_then (ops_at v) (λ ops.
    Ok (server.Update seq ops)))

abbrev pub coded_server_in : ServerCode → Value → Result ServerMsg Reason
coded_server_in to_client.Presence v = seen_in v
coded_server_in to_client.Joined v = joined_in v
coded_server_in to_client.Left v = left_in v
coded_server_in to_client.Broadcast v = heard_in v
coded_server_in to_client.RoomState v = room_in v
coded_server_in to_client.State v = state_in v
coded_server_in to_client.Update v = updated_in v

abbrev pub server_in : Value → Result ServerMsg Reason
server_in v = and_then (needed as_server_code Kind (field_of (codes "type") v)) (λ code. coded_server_in code v)

-- one message, or a list of them
abbrev pub server_msgs_in : Value → Result (List ServerMsg) Reason
server_msgs_in (members fs) = and_then (server_in (members fs)) (λ m. Ok (m ∷ []))
server_msgs_in (list vs) = each_in server_in (values_list vs)
server_msgs_in _ = Err NoList

-- a fault that a reading gave; memory may run out at any time
abbrev pub IsFaultOf : {A : Type 0} → Result A Reason → MsgFault → Type 0
IsFaultOf r Memory = ⊤
IsFaultOf r (Bad reason) = r ≡ Err reason
