-- What a client's message that was read is made of.
use Rattle.std.proofs.Common.{◌≡◌, ◌≤◌, ℕ, List, [], ◌∷◌, codes, Option, Some, None, Result, Ok, Err, ap, subst, arith}
use Rattle.std.specs.Prelude.{All, ok_or, ⊤}
use Rattle.std.proofs.lemmas.List.Elements.{All-cons}
use Rattle.room_json.specs.Back.{json_in}
use Rattle.room_json.specs.Fields.{field_of, needed, each_in}
use Rattle.room_json.specs.Profile.{IsJson, AreJson}
use Rattle.room_json.specs.Value.{Value, text, list, members, values_of, fields_of, depth, values_depth, as_list, as_members, as_text}
use Rattle.room_json.specs.View.{json_of}
use Rattle.room_nodes.specs.Shallow.{AreShallowOps}
use Rattle.room_nodes.specs.Sound.{AreSoundOps, IsSoundBody}
use Rattle.room_nodes.specs.declared.nodes.Op.{Op}
use Rattle.room_nodes.specs.declared.nodes.Body.{Body}
use Rattle.room_nodes.specs.declared.nodes.Body.TheVariants.{SetKey, Create, Update, Delete, DeleteKey}
use Rattle.room_wire.proofs.Fields.{Has, ok_inj, gone_on, was_there, has_text, has_members, has_list, has_value, has_json, has_depth, list_is, sound_members}
use Rattle.room_wire.proofs.Sound.{ops_sound, ops_shallow}
use Rattle.room_wire.specs.Laws.{IsBodyInRange, IsOpInRange}
use Rattle.room_wire.specs.Wire.{op_in}
use Rattle.room_wire.specs.declared.fault.Field.{Field as OpField}
use Rattle.room_msg.specs.Laws.{IsTarget, IsSendable}
use Rattle.room_msg.specs.Msg.{at, maybe_at, as_target, as_resume, as_name, as_client_code, op_at, ops_at, reason_of, hello_in, presence_in, broadcast_in, update_in, coded_client_in, client_in}
use Rattle.room_msg.specs.Sound.{IsTextIfThere, IsSoundClientMsg, IsShallowClientMsg, IsSoundClientFrame, IsShallowClientFrame, AreSoundClientMsgs, ClientMsgsAreSound, ClientMsgsAreShallow}
use Rattle.room_msg.specs.declared.codes.ClientCode.{ClientCode}
use Rattle.room_msg.specs.declared.codes.ClientCode.TheVariants as to_server
use Rattle.room_msg.specs.declared.messages.Hello.{Hello}
use Rattle.room_msg.specs.declared.messages.ClientMsg.{ClientMsg}
use Rattle.room_msg.specs.declared.messages.ClientMsg.TheVariants as client
use Rattle.room_msg.specs.declared.messages.ClientFrame.TheVariants as frame
use Rattle.room_msg.specs.declared.reason.Reason.TheVariants.{Kind, Field, List as NoList}
use Rattle.room_msg.proofs.Bounds.{IsResumed, HasIfThere, IsNameOf, resume_at, target_at, name_at, text_if_there}

-- operations

op_of : (v : Value) (o : Op) → op_at v ≡ Ok o → op_in v ≡ Ok o
op_of v o h = reason_was (op_in v) h
  where
    reason_was : (r : Result Op OpField) → reason_of r ≡ Ok o → r ≡ Ok o
    reason_was (Ok x) h = ap Ok (ok_inj h)
    reason_was (Err e) h = cc

pub read_ops_sound : (vs : List Value) (os : List Op) → each_in op_at vs ≡ Ok os → AreJson (values_of vs) → AreSoundOps os
read_ops_sound [] os h json = subst AreSoundOps (ok_inj h) tt
read_ops_sound (v ∷ vs) os h json =
    gone_on _ (op_at v) _ os h (λ p is h.
    gone_on _ (each_in op_at vs) _ os h (λ ps more h.
    subst AreSoundOps {x = p ∷ ps} (ok_inj h) (ops_sound v p (op_of v p is) json.0, read_ops_sound vs ps more json.1)))

read_ops_shallow : (vs : List Value) (os : List Op) → each_in op_at vs ≡ Ok os → values_depth (values_of vs) ≤ 57 → AreShallowOps os
read_ops_shallow [] os h small = subst AreShallowOps (ok_inj h) tt
read_ops_shallow (v ∷ vs) os h small =
    gone_on _ (op_at v) _ os h (λ p is h.
    gone_on _ (each_in op_at vs) _ os h (λ ps more h.
    subst AreShallowOps {x = p ∷ ps} (ok_inj h) (ops_shallow v p (op_of v p is) (omega (arith, small)), read_ops_shallow vs ps more (omega (arith, small)))))

body_in_range : (b : Body) → IsSoundBody b → IsBodyInRange b
body_in_range (SetKey x k) h = h.0
body_in_range (Create x p k r kind) h = (h.0, h.1, h.3)
body_in_range (Update x fs) h = h.0
body_in_range (Delete x) h = h
body_in_range (DeleteKey x k) h = h.0

pub ops_in_range : (os : List Op) → AreSoundOps os → All IsOpInRange os
ops_in_range [] h = λ k d below. absurd (omega (arith, below))
ops_in_range (o ∷ os) h = All-cons IsOpInRange o os (h.0.0, body_in_range o.body h.0.1) (ops_in_range os h.1)

-- the values of a list that stands in a field of v
pub record OpsFrom (v : Value) (os : List Op) : Type 0 where
  pub values : List Value
  pub there : Has v (list (values_of values))
  pub read : each_in op_at values ≡ Ok os

pub ops_from : (v : Value) (os : List Op) → ops_at v ≡ Ok os → OpsFrom v os
ops_from v os h = gone_on _ (at as_list (codes "ops") v) _ os h (λ vs is h. record { values = vs; there = has_list v (Field (codes "ops")) (codes "ops") vs is; read = h })

-- messages

abbrev HelloFrom : Value → Hello → Type 0
HelloFrom v h = Has v (text h.room) × IsResumed h.resume × IsNameOf v h.name × HasIfThere v h.«pass»

abbrev MsgFrom : Value → ClientMsg → Type 0
MsgFrom v (client.Hello h) = HelloFrom v h
MsgFrom v (client.Presence target patch) = IsTarget target × Has v (members (fields_of patch))
MsgFrom v (client.Broadcast event) = Has v (json_of event)
MsgFrom v client.Fetch = ⊤
MsgFrom v (client.Update ops) = OpsFrom v ops

hello_from : (v : Value) (m : ClientMsg) → hello_in v ≡ Ok m → MsgFrom v m
hello_from v m h =
    gone_on _ (at as_text (codes "room") v) _ m h (λ room r h.
    gone_on _ (maybe_at as_resume (codes "resume") v) _ m h (λ resume s h.
    gone_on _ (maybe_at as_name (codes "name") v) _ m h (λ name n h.
    gone_on _ (maybe_at as_text (codes "pass") v) _ m h (λ word p h.
    subst (MsgFrom v) {x = client.Hello (record { room = room; resume = resume; name = name; «pass» = word })} (ok_inj h) (
      has_text v (Field (codes "room")) (codes "room") room r,
      resume_at v (codes "resume") resume s,
      name_at v (codes "name") name n,
      text_if_there v (codes "pass") word p,
    )))))

presence_from : (v : Value) (m : ClientMsg) → presence_in v ≡ Ok m → MsgFrom v m
presence_from v m h =
    gone_on _ (at as_members (codes "data") v) _ m h (λ patch p h.
    gone_on _ (maybe_at as_target (codes "targetActor") v) _ m h (λ target t h.
    subst (MsgFrom v) {x = client.Presence target patch} (ok_inj h) (target_at v (codes "targetActor") target t, has_members v (Field (codes "data")) (codes "data") patch p)))

broadcast_from : (v : Value) (m : ClientMsg) → broadcast_in v ≡ Ok m → MsgFrom v m
broadcast_from v m h =
    gone_on _ (at Some (codes "event") v) _ m h (λ event e h.
    subst (MsgFrom v) {x = client.Broadcast (json_in event)} (ok_inj h) (has_value v (Field (codes "event")) (codes "event") event e))

update_from : (v : Value) (m : ClientMsg) → update_in v ≡ Ok m → MsgFrom v m
update_from v m h = gone_on _ (ops_at v) _ m h (λ ops o h. subst (MsgFrom v) {x = client.Update ops} (ok_inj h) (ops_from v ops o))

coded_from : (code : ClientCode) (v : Value) (m : ClientMsg) → coded_client_in code v ≡ Ok m → MsgFrom v m
coded_from to_server.Hello v m h = hello_from v m h
coded_from to_server.Presence v m h = presence_from v m h
coded_from to_server.Broadcast v m h = broadcast_from v m h
coded_from to_server.Fetch v m h = subst (MsgFrom v) {x = client.Fetch} (ok_inj h) tt
coded_from to_server.Update v m h = update_from v m h

msg_from : (v : Value) (m : ClientMsg) → client_in v ≡ Ok m → MsgFrom v m
msg_from v m h = gone_on _ (needed as_client_code Kind (field_of (codes "type") v)) _ m h (λ code c h. coded_from code v m h)

-- what is of the profile

text_sound : (v : Value) (t : Option (List ℕ)) → HasIfThere v t → IsJson v → IsTextIfThere t
text_sound v None h json = tt
text_sound v (Some t) h json = has_json v (text t) h json

pub ops_from_sound : (v : Value) (os : List Op) → OpsFrom v os → IsJson v → AreSoundOps os
ops_from_sound v os h json = read_ops_sound h.values os h.read (has_json v (list (values_of h.values)) h.there json)

sound_from : (v : Value) (m : ClientMsg) → MsgFrom v m → IsJson v → IsSoundClientMsg m
sound_from v (client.Hello h) from json = record {
  sendable = (from.1.0, from.2.0);
  in_range = from.1.1;
  content = (has_json v (text h.room) from.0 json, text_sound v h.name from.2.1 json, text_sound v h.«pass» from.3 json);
}
sound_from v (client.Presence target patch) from json = record { sendable = from.0; in_range = tt; content = sound_members patch (has_json v (members (fields_of patch)) from.1 json) }
sound_from v (client.Broadcast event) from json = record { sendable = tt; in_range = tt; content = has_json v (json_of event) from json }
sound_from v client.Fetch from json = record { sendable = tt; in_range = tt; content = tt }
sound_from v (client.Update ops) from json = let sound = ops_from_sound v ops from json in record { sendable = tt; in_range = ops_in_range ops sound; content = sound }

each_sound : (vs : List Value) (ms : List ClientMsg) → each_in client_in vs ≡ Ok ms → AreJson (values_of vs) → AreSoundClientMsgs ms
each_sound [] ms h json = subst AreSoundClientMsgs {x = []} (ok_inj h) (λ k d below. absurd (omega (arith, below)))
each_sound (v ∷ vs) ms h json =
    gone_on _ (client_in v) _ ms h (λ n is h.
    gone_on _ (each_in client_in vs) _ ms h (λ ns more h.
    subst AreSoundClientMsgs {x = n ∷ ns} (ok_inj h) (All-cons IsSoundClientMsg n ns (sound_from v n (msg_from v n is) json.0) (each_sound vs ns more json.1))))

pub client_sound : ClientMsgsAreSound
client_sound v f h json =
    gone_on _ (ok_or (as_list v) NoList) _ f h (λ vs is h.
    gone_on _ (each_in client_in vs) _ f h (λ ms read h.
    subst IsSoundClientFrame {x = frame.Msgs ms} (ok_inj h) (each_sound vs ms read (subst IsJson (list_is v vs (was_there (as_list v) NoList vs is)) json))))

pub all_sendable : (ms : List ClientMsg) → AreSoundClientMsgs ms → All IsSendable ms
all_sendable ms h = λ k d below. (h k d below).sendable

-- and how deep

shallow_from : (v : Value) (m : ClientMsg) → MsgFrom v m → depth v ≤ 59 → IsShallowClientMsg m
shallow_from v (client.Hello h) from small = tt
shallow_from v (client.Presence target patch) from small = omega (arith, has_depth v (members (fields_of patch)) from.1, small)
shallow_from v (client.Broadcast event) from small = omega (arith, has_depth v (json_of event) from, small)
shallow_from v client.Fetch from small = tt
shallow_from v (client.Update ops) from small = read_ops_shallow from.values ops from.read (omega (arith, has_depth v (list (values_of from.values)) from.there, small))

each_shallow : (vs : List Value) (ms : List ClientMsg) → each_in client_in vs ≡ Ok ms → values_depth (values_of vs) ≤ 59 → All IsShallowClientMsg ms
each_shallow [] ms h small = subst (All IsShallowClientMsg) {x = []} (ok_inj h) (λ k d below. absurd (omega (arith, below)))
each_shallow (v ∷ vs) ms h small =
    gone_on _ (client_in v) _ ms h (λ n is h.
    gone_on _ (each_in client_in vs) _ ms h (λ ns more h.
    subst (All IsShallowClientMsg) {x = n ∷ ns} (ok_inj h) (All-cons IsShallowClientMsg n ns (shallow_from v n (msg_from v n is) (omega (arith, small))) (each_shallow vs ns more (omega (arith, small))))))

list_depth : (v : Value) (vs : List Value) → v ≡ list (values_of vs) → depth v ≤ 60 → values_depth (values_of vs) ≤ 59
list_depth v vs is small = let e : depth v ≡ depth (list (values_of vs)) = ap depth is in omega (arith, e, small)

pub client_shallow : ClientMsgsAreShallow
client_shallow v f h small =
    gone_on _ (ok_or (as_list v) NoList) _ f h (λ vs is h.
    gone_on _ (each_in client_in vs) _ f h (λ ms read h.
    subst IsShallowClientFrame {x = frame.Msgs ms} (ok_inj h) (each_shallow vs ms read (list_depth v vs (list_is v vs (was_there (as_list v) NoList vs is)) small))))
