-- Frames of clients that are valid, in range and fit are read as they were sent.
use Rattle.std.proofs.Common.{◌≡◌, ◌≤◌, List, [], ◌∷◌, map, Ok, All, arith}
use Rattle.std.proofs.lemmas.List.Elements.{All-cons, All-nil}
use Rattle.room_json.specs.Profile.{AreJson}
use Rattle.room_json.specs.Value.{values_of, values_depth}
use Rattle.room_nodes.specs.declared.nodes.Op.{Op}
use Rattle.room_nodes.specs.declared.nodes.Body.{Body}
use Rattle.room_nodes.specs.declared.nodes.Body.TheVariants.{SetKey, Create, Update, Delete, DeleteKey}
use Rattle.room_nodes.specs.Sound.{IsSoundBody, AreSoundOps}
use Rattle.room_wire.specs.Laws.{IsBodyInRange, IsOpInRange}
use Rattle.room_msg.specs.Frame.{client_frame_in}
use Rattle.room_msg.specs.Laws.{IsSendable, IsClientInRange}
use Rattle.room_msg.specs.Written.{client_out, client_text}
use Rattle.room_msg.proofs.Framed.{client_frames}
use Rattle.room_msg.specs.declared.messages.ClientMsg.{ClientMsg}
use Rattle.room_msg.specs.declared.messages.ClientMsg.TheVariants as client
use Rattle.room_msg.specs.declared.messages.ClientFrame.TheVariants.{Msgs}
use Rattle.room_model.specs.Account.{size_of, most_bytes}
use Rattle.room_laws.specs.Validity.{IsValidClientMsg, AreValidClientMsgs}
use Rattle.room_reread.specs.Fits.{IsRanged, AreRanged}
use Rattle.room_reread.proofs.Jsons.{client_json}
use Rattle.room_reread.proofs.Depths.{client_depth}

body_range : (b : Body) → IsSoundBody b → IsBodyInRange b
body_range (SetKey x k) h = h.0
body_range (Create x p k o kind) h = (h.0, h.1, h.3)
body_range (Update x fs) h = h.0
body_range (Delete x) h = h
body_range (DeleteKey x k) h = h.0

pub ops_range : (os : List Op) → AreSoundOps os → All IsOpInRange os
ops_range [] h = All-nil IsOpInRange
ops_range (o ∷ os) h = All-cons IsOpInRange o os (h.0.0, body_range o.body h.0.1) (ops_range os h.1)

sendable : (m : ClientMsg) → IsValidClientMsg m → IsRanged m → IsSendable m
sendable (client.Hello h) v r = (r.0, r.1)
sendable (client.Presence target patch) v r = v.1
sendable (client.Broadcast event) v r = tt
sendable client.Fetch v r = tt
sendable (client.Update ops) v r = tt

ranged : (m : ClientMsg) → IsValidClientMsg m → IsRanged m → IsClientInRange m
ranged (client.Hello h) v r = r.2
ranged (client.Presence target patch) v r = tt
ranged (client.Broadcast event) v r = tt
ranged client.Fetch v r = tt
ranged (client.Update ops) v r = ops_range ops v.0

all_sendable : (ms : List ClientMsg) → AreValidClientMsgs ms → AreRanged ms → All IsSendable ms
all_sendable [] v r = All-nil IsSendable
all_sendable (m ∷ ms) v r = All-cons IsSendable m ms (sendable m v.0 r.0) (all_sendable ms v.1 r.1)

all_ranged : (ms : List ClientMsg) → AreValidClientMsgs ms → AreRanged ms → All IsClientInRange ms
all_ranged [] v r = All-nil IsClientInRange
all_ranged (m ∷ ms) v r = All-cons IsClientInRange m ms (ranged m v.0 r.0) (all_ranged ms v.1 r.1)

all_json : (ms : List ClientMsg) → AreValidClientMsgs ms → AreRanged ms → AreJson (values_of (map client_out ms))
all_json [] v r = tt
all_json (m ∷ ms) v r = (client_json m v.0 r.0, all_json ms v.1 r.1)

all_depth : (ms : List ClientMsg) → AreValidClientMsgs ms → values_depth (values_of (map client_out ms)) ≤ 59
all_depth [] v = omega arith
all_depth (m ∷ ms) v = omega (arith, client_depth m v.0, all_depth ms v.1)

pub frame_read : (f : List ClientMsg) → AreValidClientMsgs f → AreRanged f → size_of f ≤ most_bytes
    → client_frame_in (client_text f) ≡ Ok (Msgs f)
frame_read f v r short =
    client_frames f (all_sendable f v r) (all_ranged f v r) (all_json f v r) short (omega (arith, all_depth f v))
