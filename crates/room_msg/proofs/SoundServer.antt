-- What a message of the server that was read is made of.
use Rattle.std.proofs.Common.{◌≡◌, ◌≤◌, List, [], ◌∷◌, codes, Some, Ok, sym, ap, subst, arith}
use Rattle.std.specs.Prelude.{All}
use Rattle.std.proofs.lemmas.List.Elements.{All-cons}
use Rattle.room_json.specs.Back.{json_in}
use Rattle.room_json.specs.Fields.{field_of, needed, each_in}
use Rattle.room_json.specs.Profile.{IsJson, AreJson}
use Rattle.room_json.specs.Value.{Value, nothing, flag, whole, text, list, members, Values, values_of, values_list, fields_of, depth, values_depth, as_list, as_members, as_flag}
use Rattle.room_json.specs.View.{json_of}
use Rattle.room_wire.proofs.Fields.{Has, ok_inj, gone_on, has_members, has_list, has_value, has_json, has_depth, sound_members, values_of-values_list}
use Rattle.room_msg.specs.Laws.{IsTarget, IsServed, IsActor, IsKey}
use Rattle.room_msg.specs.Msg.{at, maybe_at, as_target, as_actor, as_maker, as_key, as_count, as_server_code, ops_at, or_false, seen_in, joined_in, left_in, heard_in, room_in, state_in, updated_in, coded_server_in, server_in}
use Rattle.room_msg.specs.Sound.{IsSoundServerMsg, IsShallowServerMsg, AreSoundServerMsgs, ServerMsgsAreSound, ServerMsgsAreShallow}
use Rattle.room_msg.specs.Users.{as_users}
use Rattle.room_msg.specs.declared.codes.ServerCode.{ServerCode}
use Rattle.room_msg.specs.declared.codes.ServerCode.TheVariants as to_client
use Rattle.room_msg.specs.declared.messages.ServerMsg.{ServerMsg}
use Rattle.room_msg.specs.declared.messages.ServerMsg.TheVariants as server
use Rattle.room_msg.specs.declared.reason.Reason.TheVariants.{Kind, Field}
use Rattle.room_msg.proofs.Bounds.{count_at, actor_at, maker_at, key_at, target_at}
use Rattle.room_msg.proofs.SoundClient.{OpsFrom, ops_from, ops_from_sound, ops_in_range}
use Rattle.room_msg.proofs.SoundUsers.{HasUsers, users_at}

-- messages

-- users are those of the profile where the value is
abbrev MsgFrom : Value → ServerMsg → Type 0
MsgFrom v (server.Presence actor target patch) = IsActor actor × IsTarget target × Has v (members (fields_of patch))
MsgFrom v (server.Joined actor) = IsActor actor
MsgFrom v (server.Left actor) = IsActor actor
MsgFrom v (server.Broadcast actor event) = IsActor actor × Has v (json_of event)
MsgFrom v (server.RoomState actor key users) = ((1 ≤ actor) × IsActor actor) × IsKey key × (IsJson v → HasUsers users)
MsgFrom v (server.State seq last items more) = (seq ≤ 9007199254740991) × (last ≤ 9007199254740991) × Has v (list (values_of items))
MsgFrom v (server.Update seq ops) = (seq ≤ 9007199254740991) × OpsFrom v ops

seen_from : (v : Value) (m : ServerMsg) → seen_in v ≡ Ok m → MsgFrom v m
seen_from v m h =
    gone_on _ (at as_actor (codes "actor") v) _ m h (λ actor a h.
    gone_on _ (at as_members (codes "data") v) _ m h (λ patch p h.
    gone_on _ (maybe_at as_target (codes "targetActor") v) _ m h (λ target t h.
    subst (MsgFrom v) {x = server.Presence actor target patch} (ok_inj h) (
      actor_at v (codes "actor") actor a,
      target_at v (codes "targetActor") target t,
      has_members v (Field (codes "data")) (codes "data") patch p,
    ))))

joined_from : (v : Value) (m : ServerMsg) → joined_in v ≡ Ok m → MsgFrom v m
joined_from v m h = gone_on _ (at as_actor (codes "actor") v) _ m h (λ actor a h. subst (MsgFrom v) {x = server.Joined actor} (ok_inj h) (actor_at v (codes "actor") actor a))

left_from : (v : Value) (m : ServerMsg) → left_in v ≡ Ok m → MsgFrom v m
left_from v m h = gone_on _ (at as_actor (codes "actor") v) _ m h (λ actor a h. subst (MsgFrom v) {x = server.Left actor} (ok_inj h) (actor_at v (codes "actor") actor a))

heard_from : (v : Value) (m : ServerMsg) → heard_in v ≡ Ok m → MsgFrom v m
heard_from v m h =
    gone_on _ (at as_actor (codes "actor") v) _ m h (λ actor a h.
    gone_on _ (at Some (codes "event") v) _ m h (λ event e h.
    subst (MsgFrom v) {x = server.Broadcast actor (json_in event)} (ok_inj h) (actor_at v (codes "actor") actor a, has_value v (Field (codes "event")) (codes "event") event e)))

room_from : (v : Value) (m : ServerMsg) → room_in v ≡ Ok m → MsgFrom v m
room_from v m h =
    gone_on _ (at as_maker (codes "actor") v) _ m h (λ actor a h.
    gone_on _ (at as_key (codes "key") v) _ m h (λ key k h.
    gone_on _ (at as_users (codes "users") v) _ m h (λ users u h.
    subst (MsgFrom v) {x = server.RoomState actor key users} (ok_inj h) (maker_at v (codes "actor") actor a, key_at v (codes "key") key k, users_at v (codes "users") users u))))

state_from : (v : Value) (m : ServerMsg) → state_in v ≡ Ok m → MsgFrom v m
state_from v m h =
    gone_on _ (at as_count (codes "seq") v) _ m h (λ seq s h.
    gone_on _ (at as_count (codes "last") v) _ m h (λ last l h.
    gone_on _ (at as_list (codes "items") v) _ m h (λ items i h.
    gone_on _ (maybe_at as_flag (codes "more") v) _ m h (λ more o h.
    subst (MsgFrom v) {x = server.State seq last items (or_false more)} (ok_inj h) (
      count_at v (codes "seq") seq s,
      count_at v (codes "last") last l,
      has_list v (Field (codes "items")) (codes "items") items i,
    )))))

updated_from : (v : Value) (m : ServerMsg) → updated_in v ≡ Ok m → MsgFrom v m
updated_from v m h =
    gone_on _ (at as_count (codes "seq") v) _ m h (λ seq s h.
    gone_on _ (ops_at v) _ m h (λ ops o h.
    subst (MsgFrom v) {x = server.Update seq ops} (ok_inj h) (count_at v (codes "seq") seq s, ops_from v ops o)))

coded_from : (code : ServerCode) (v : Value) (m : ServerMsg) → coded_server_in code v ≡ Ok m → MsgFrom v m
coded_from to_client.Presence v m h = seen_from v m h
coded_from to_client.Joined v m h = joined_from v m h
coded_from to_client.Left v m h = left_from v m h
coded_from to_client.Broadcast v m h = heard_from v m h
coded_from to_client.RoomState v m h = room_from v m h
coded_from to_client.State v m h = state_from v m h
coded_from to_client.Update v m h = updated_from v m h

msg_from : (v : Value) (m : ServerMsg) → server_in v ≡ Ok m → MsgFrom v m
msg_from v m h = gone_on _ (needed as_server_code Kind (field_of (codes "type") v)) _ m h (λ code c h. coded_from code v m h)

-- what is of the profile

sound_from : (v : Value) (m : ServerMsg) → MsgFrom v m → IsJson v → IsSoundServerMsg m
sound_from v (server.Presence actor target patch) from json = record { served = from.1; in_range = from.0; content = sound_members patch (has_json v (members (fields_of patch)) from.2 json) }
sound_from v (server.Joined actor) from json = record { served = tt; in_range = from; content = tt }
sound_from v (server.Left actor) from json = record { served = tt; in_range = from; content = tt }
sound_from v (server.Broadcast actor event) from json = record { served = tt; in_range = from.0; content = has_json v (json_of event) from.1 json }
sound_from v (server.RoomState actor key users) from json =
    let has = from.2 json in
    record { served = (from.0.0, has.rising); in_range = (from.0.1, from.1, has.actors); content = has.names }
sound_from v (server.State seq last items more) from json = record { served = (from.0, from.1); in_range = tt; content = has_json v (list (values_of items)) from.2 json }
sound_from v (server.Update seq ops) from json =
    let sound = ops_from_sound v ops from.1 json in
    record { served = from.0; in_range = ops_in_range ops sound; content = sound }

shallow_from : (v : Value) (m : ServerMsg) → MsgFrom v m → depth v ≤ 60 → IsShallowServerMsg m
shallow_from v (server.Presence actor target patch) from small = omega (arith, has_depth v (members (fields_of patch)) from.2, small)
shallow_from v (server.Joined actor) from small = tt
shallow_from v (server.Left actor) from small = tt
shallow_from v (server.Broadcast actor event) from small = omega (arith, has_depth v (json_of event) from.1, small)
shallow_from v (server.RoomState actor key users) from small = tt
shallow_from v (server.State seq last items more) from small = omega (arith, has_depth v (list (values_of items)) from.2, small)
shallow_from v (server.Update seq ops) from small = tt

none : (P : ServerMsg → Type 0) → All P []
none P k d below = absurd (omega (arith, below))

each_sound : (vs : List Value) (ms : List ServerMsg) → each_in server_in vs ≡ Ok ms → AreJson (values_of vs) → AreSoundServerMsgs ms
each_sound [] ms h json = subst AreSoundServerMsgs {x = []} (ok_inj h) (none _)
each_sound (v ∷ vs) ms h json =
    gone_on _ (server_in v) _ ms h (λ n is h.
    gone_on _ (each_in server_in vs) _ ms h (λ ns more h.
    subst AreSoundServerMsgs {x = n ∷ ns} (ok_inj h) (All-cons IsSoundServerMsg n ns (sound_from v n (msg_from v n is) json.0) (each_sound vs ns more json.1))))

each_shallow : (vs : List Value) (ms : List ServerMsg) → each_in server_in vs ≡ Ok ms → values_depth (values_of vs) ≤ 59 → All IsShallowServerMsg ms
each_shallow [] ms h small = subst (All IsShallowServerMsg) {x = []} (ok_inj h) (none _)
each_shallow (v ∷ vs) ms h small =
    gone_on _ (server_in v) _ ms h (λ n is h.
    gone_on _ (each_in server_in vs) _ ms h (λ ns more h.
    subst (All IsShallowServerMsg) {x = n ∷ ns} (ok_inj h) (All-cons IsShallowServerMsg n ns (shallow_from v n (msg_from v n is) (omega (arith, small))) (each_shallow vs ns more (omega (arith, small))))))

pub server_sound : ServerMsgsAreSound
server_sound nothing ms h json = cc
server_sound (flag b) ms h json = cc
server_sound (whole z) ms h json = cc
server_sound (text s) ms h json = cc
server_sound (list vs) ms h json = each_sound (values_list vs) ms h (subst AreJson (sym (values_of-values_list vs)) json)
server_sound (members fs) ms h json =
    gone_on _ (server_in (members fs)) _ ms h (λ m is h.
    subst AreSoundServerMsgs {x = m ∷ []} (ok_inj h) (All-cons IsSoundServerMsg m [] (sound_from (members fs) m (msg_from (members fs) m is) json) (none _)))

pub one_served : (m : ServerMsg) → AreSoundServerMsgs (m ∷ []) → IsServed m
one_served m h = (h 0 m (omega arith)).served

list_depth : (vs : Values) → depth (list vs) ≤ 60 → values_depth (values_of (values_list vs)) ≤ 59
list_depth vs small = let e : values_depth (values_of (values_list vs)) ≡ values_depth vs = ap values_depth (values_of-values_list vs) in omega (arith, e, small)

pub server_shallow : ServerMsgsAreShallow
server_shallow nothing ms h small = cc
server_shallow (flag b) ms h small = cc
server_shallow (whole z) ms h small = cc
server_shallow (text s) ms h small = cc
server_shallow (list vs) ms h small = each_shallow (values_list vs) ms h (list_depth vs small)
server_shallow (members fs) ms h small =
    gone_on _ (server_in (members fs)) _ ms h (λ m is h.
    subst (All IsShallowServerMsg) {x = m ∷ []} (ok_inj h) (All-cons IsShallowServerMsg m [] (shallow_from (members fs) m (msg_from (members fs) m is) small) (none _)))
