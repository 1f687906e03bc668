-- The clocks of a client's batches.
use Rattle.std.specs.Prelude.{◌≡◌, ℕ, Bool, List, Some, Ok}
use Rattle.room_json.specs.Value.{Value}
use Rattle.room_json.specs.declared.tree.Json.{Json}
use Rattle.room_msg.specs.declared.messages.ServerMsg.{ServerMsg}
use Rattle.room_model.specs.Edits.{Edit}
use Rattle.room_model.specs.Account.{Account, new_account}
use Rattle.room_model.specs.Calls.{Done, Direction, lost, dialled, edit, batch_begin, batch_end, go_back}
use Rattle.room_model.specs.Calls.{pause as pauses, resume as resumes, clear as clears, presence, event, flushed}
use Rattle.room_model.specs.Calls.{resent}
use Rattle.room_model.specs.Receive.{Received, receive}
use Rattle.room_model.specs.Sound.{ClocksRunOn}

-- each call and each message keeps them so
pub record KeepsClocks : Type 0 where
  pub new : (room : List ℕ) → ClocksRunOn (new_account room)
  pub lost : (x : Account) → ClocksRunOn x → ClocksRunOn (lost x)
  pub dialled : (x : Account) → ClocksRunOn x → ClocksRunOn (dialled x)
  pub edit : (x : Account) (e : Edit) (out : Done) → ClocksRunOn x → edit x e ≡ Ok out → ClocksRunOn out.account
  pub batch_begin : (x y : Account) → ClocksRunOn x → batch_begin x ≡ Ok y → ClocksRunOn y
  pub batch_end : (x : Account) (out : Done) → ClocksRunOn x → batch_end x ≡ Ok out → ClocksRunOn out.account
  pub go_back : (way : Direction) (x : Account) (out : Done) → ClocksRunOn x → go_back way x ≡ Ok (Some out)
      → ClocksRunOn out.account
  pub presence : (x y : Account) (patch : List (List ℕ × Value)) (in_history : Bool) → ClocksRunOn x
      → presence x patch in_history ≡ Ok y → ClocksRunOn y
  pub event : (x y : Account) (e : Json) → ClocksRunOn x → event x e ≡ Ok y → ClocksRunOn y
  pub pauses : (x : Account) → ClocksRunOn x → ClocksRunOn (pauses x)
  pub resumes : (x : Account) → ClocksRunOn x → ClocksRunOn (resumes x)
  pub clears : (x : Account) → ClocksRunOn x → ClocksRunOn (clears x)
  pub flushed : (x : Account) → ClocksRunOn x → ClocksRunOn (flushed x)
  pub resent : (x : Account) → ClocksRunOn x → ClocksRunOn (resent x)
  pub receive : (x : Account) (m : ServerMsg) (out : Received) → ClocksRunOn x → receive x m ≡ Ok out
      → ClocksRunOn out.account
