-- What is read of written frames.
use Rattle.std.proofs.Common.{◌≡◌, ◌≤◌, ◌∙◌, sym, subst, ℕ, suc, length, nat_lt, List, [], ◌∷◌, map, codes, Ok, refl, ap, false, rules, arith}
use Rattle.std.specs.Prelude.{All}
use Rattle.std.specs.Str.{bytes_eq}
use Rattle.room_json.proofs.TextsAreUtf8.{text_spells}
use Rattle.room_json.proofs.Values.{values_list-values_of}
use Rattle.room_json.specs.Fields.{and_then, each_in}
use Rattle.room_json.specs.Reading.{value_of_text}
use Rattle.room_json.specs.Value.{Value, depth, list, values_of, text_of}
use Rattle.room_nodes.specs.declared.nodes.Op.{Op}
use Rattle.room_wire.specs.Laws.{IsOpInRange}
use Rattle.room_wire.proofs.Law.{ops_again}
use Rattle.room_msg.specs.Frame.{client_frame_in, server_frame_in}
use Rattle.room_msg.specs.Laws.{IsSendable, IsClientInRange, AreOpsKnown, IsServerAgain, IsClientFrame, IsServerFrame, client_value, ClientMsgsReadBack, ServerMsgsReadBack, ClientFramesReadBack, ServerFramesReadBack}
use Rattle.room_msg.specs.Msg.{client_in, server_in, server_msgs_in}
use Rattle.room_msg.specs.Written.{client_out, client_text, server_out, server_text}
use Rattle.room_msg.specs.declared.messages.ClientMsg.{ClientMsg}
use Rattle.room_msg.specs.declared.messages.ClientMsg.TheVariants as client
use Rattle.room_msg.specs.declared.messages.ServerMsg.{ServerMsg}
use Rattle.room_msg.specs.declared.messages.ServerMsg.TheVariants as server
use Rattle.room_msg.specs.declared.messages.ClientFrame.TheVariants as to_server
use Rattle.room_msg.specs.declared.messages.ServerFrame.TheVariants as to_client
use Rattle.room_msg.proofs.Reread.{hello_again, presence_again, broadcast_again, update_again, msgs_more, known_more, seen_again, joined_again, left_again, heard_again, room_again, state_again, updated_again}

-- frames of clients

not_ping : (ms : List ClientMsg) → bytes_eq (client_text ms) (codes "ping") ≡ false
not_ping ms = refl

lt-false : (x y : ℕ) → y ≤ x → nat_lt x y ≡ false
lt-false x y h = search rules

client_framed : (ms : List ClientMsg) (t : List ℕ) → each_in client_in (map client_out ms) ≡ Ok ms → t ≡ client_text ms → value_of_text t ≡ Ok (client_value ms) → length t ≤ 1048576 → client_frame_in t ≡ Ok (to_server.Msgs ms)
client_framed ms t again is reads short =
    let ping : bytes_eq t (codes "ping") ≡ false = ap (λ b. bytes_eq b (codes "ping")) is ∙ not_ping ms in
    rw (lt-false 1048576 (length t) short, ping, reads, values_list-values_of (map client_out ms), again) refl

-- the same where the values are only equal to those
pub client_frame : (ms : List ClientMsg) (vs : List Value) (t : List ℕ) → vs ≡ map client_out ms → each_in client_in (map client_out ms) ≡ Ok ms → t ≡ text_of (list (values_of vs))
    → (depth (list (values_of vs)) ≤ 60 → value_of_text t ≡ Ok (list (values_of vs))) → IsClientFrame ms t
client_frame ms vs t are again = subst (λ (ws : List Value). t ≡ text_of (list (values_of ws)) → (depth (list (values_of ws)) ≤ 60 → value_of_text t ≡ Ok (list (values_of ws))) → IsClientFrame ms t) (sym are)
    (λ is back short shallow. client_framed ms t again is (back shallow) short)

-- frames of the server

not_pong : (m : ServerMsg) → bytes_eq (server_text m) (codes "pong") ≡ false
not_pong (server.Presence actor target patch) = refl
not_pong (server.Joined actor) = refl
not_pong (server.Left actor) = refl
not_pong (server.Broadcast actor event) = refl
not_pong (server.RoomState actor key users) = refl
not_pong (server.State seq last items more) = refl
not_pong (server.Update seq ops) = refl

-- a message alone is an object
alone : (m : ServerMsg) → server_msgs_in (server_out m) ≡ and_then (server_in (server_out m)) (λ m. Ok (m ∷ []))
alone (server.Presence actor target patch) = refl
alone (server.Joined actor) = refl
alone (server.Left actor) = refl
alone (server.Broadcast actor event) = refl
alone (server.RoomState actor key users) = refl
alone (server.State seq last items more) = refl
alone (server.Update seq ops) = refl

server_framed : (m : ServerMsg) (t : List ℕ) → IsServerAgain m → t ≡ server_text m → value_of_text t ≡ Ok (server_out m) → server_frame_in t ≡ Ok (to_client.Msgs (m ∷ []))
server_framed m t again is reads =
    let pong : bytes_eq t (codes "pong") ≡ false = ap (λ b. bytes_eq b (codes "pong")) is ∙ not_pong m in
    rw (pong, reads, alone m, again) refl

pub server_frame : (m : ServerMsg) (v : Value) (t : List ℕ) → v ≡ server_out m → IsServerAgain m → t ≡ text_of v → (depth v ≤ 60 → value_of_text t ≡ Ok v) → IsServerFrame m t
server_frame m v t is again = subst (λ (w : Value). t ≡ text_of w → (depth w ≤ 60 → value_of_text t ≡ Ok w) → IsServerFrame m t) (sym is) (λ written back shallow. server_framed m t again written (back shallow))

-- the laws

all_head : {A : Type 0} (P : A → Type 0) (x : A) (xs : List A) → All P (x ∷ xs) → P x
all_head P x xs h = h 0 x (omega arith)

all_tail : {A : Type 0} (P : A → Type 0) (x : A) (xs : List A) → All P (x ∷ xs) → All P xs
all_tail P x xs h = λ k d below. h (suc k) d (omega (arith, below))

ops_known : (os : List Op) → All IsOpInRange os → AreOpsKnown os
ops_known [] h = refl
ops_known (o ∷ os) h = known_more o os (ops_again o (all_head IsOpInRange o os h)) (ops_known os (all_tail IsOpInRange o os h))

pub client_msgs : ClientMsgsReadBack
client_msgs (client.Hello h) s r = hello_again h s r
client_msgs (client.Presence target patch) s r = presence_again target patch s
client_msgs (client.Broadcast event) s r = broadcast_again event
client_msgs client.Fetch s r = refl
client_msgs (client.Update ops) s r = update_again ops (ops_known ops r)

pub server_msgs : ServerMsgsReadBack
server_msgs (server.Presence actor target patch) s r = seen_again actor target patch r s
server_msgs (server.Joined actor) s r = joined_again actor r
server_msgs (server.Left actor) s r = left_again actor r
server_msgs (server.Broadcast actor event) s r = heard_again actor event r
server_msgs (server.RoomState actor key users) s r = room_again actor key users s r.0 r.1 r.2
server_msgs (server.State seq last items more) s r = state_again seq last items more s
server_msgs (server.Update seq ops) s r = updated_again seq ops s (ops_known ops r)

all_msgs : (ms : List ClientMsg) → All IsSendable ms → All IsClientInRange ms → each_in client_in (map client_out ms) ≡ Ok ms
all_msgs [] s r = refl
all_msgs (m ∷ ms) s r =
    msgs_more m ms (client_msgs m (all_head IsSendable m ms s) (all_head IsClientInRange m ms r)) (all_msgs ms (all_tail IsSendable m ms s) (all_tail IsClientInRange m ms r))

pub client_frames : ClientFramesReadBack
client_frames ms s r json = λ short shallow. client_framed ms (client_text ms) (all_msgs ms s r) refl (text_spells (client_value ms) json shallow) short

pub server_frames : ServerFramesReadBack
server_frames m s r json = λ shallow. server_framed m (server_text m) (server_msgs m s r) refl (text_spells (server_out m) json shallow)
