-- A frame of one message.
use Rattle.std.proofs.Common.{◌≡◌, ℕ, List, [], ◌∷◌, ◌++◌, refl, ap, ◌∙◌, append-nil}
use Rattle.std.specs.Prelude.{Result, Ok, Err}
use Rattle.room_json.specs.Fields.{and_then}
use Rattle.room_json.specs.declared.tree.Json.{Json}
use Rattle.room_msg.specs.declared.messages.ClientMsg.{ClientMsg}
use Rattle.room_msg.specs.declared.messages.ServerMsg.{ServerMsg}
use Rattle.room_msg.specs.declared.messages.ServerFrame.TheVariants.{Msgs}
use Rattle.room_model.specs.Account.{Account}
use Rattle.room_model.specs.Receive
use Rattle.room_model.specs.Receive.{Received, FrameFault, Refusal}
use Rattle.room_model.specs.Notices.{Notice}

nothing_more : (out : Received) → Receive.then_received out (Receive.received out.account) ≡ out
nothing_more out =
    ap (λ (fs : List (List ClientMsg)). record { account = out.account; replies = fs; events = out.events ++ []; notices = out.notices ++ [] }) (append-nil out.replies)
    ∙ ap (λ (es : List (ℕ × Json)). record { account = out.account; replies = out.replies; events = es; notices = out.notices ++ [] }) (append-nil out.events)
    ∙ ap (λ (ns : List Notice). record { account = out.account; replies = out.replies; events = out.events; notices = ns }) (append-nil out.notices)

one_taken : (x : Account) (r : Result Received FrameFault) → and_then (Receive.or_lost x r) (λ (out : Received). Receive.then_more out (Ok (Receive.received out.account))) ≡ Receive.or_lost x r
one_taken x (Err fault) = refl
one_taken x (Ok out) = ap Ok (nothing_more out)

pub receive_one : (x : Account) (m : ServerMsg) → Receive.receive_frame x (Msgs (m ∷ [])) ≡ Receive.or_lost x (Receive.receive x m)
receive_one x m = one_taken x (Receive.receive x m)
