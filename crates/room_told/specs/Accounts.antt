-- What a client is told: a screen that follows its notices shows what it shows.
use Rattle.std.specs.Prelude.{◌≡◌, ℕ, Bool, List, [], ◌∷◌, true, Some, Ok, ⊤}
use Rattle.room_json.specs.Value.{Value}
use Rattle.room_json.specs.declared.tree.Json.{Json}
use Rattle.room_items.specs.View.{view}
use Rattle.room_msg.specs.declared.messages.ServerMsg.{ServerMsg}
use Rattle.room_msg.specs.declared.messages.ServerFrame.{ServerFrame}
use Rattle.room_msg.specs.declared.messages.ServerFrame.TheVariants.{Pong, Msgs}
use Rattle.room_model.specs.Account.{Account, shown}
use Rattle.room_model.specs.Calls.{Done, Direction, tree_or_bare, lost, dialled, edit, batch_begin, batch_end, go_back}
use Rattle.room_model.specs.Calls.{pause, resume, clear, presence, event, flushed, resent}
use Rattle.room_model.specs.Edits.{Edit}
use Rattle.room_model.specs.Notices.{Notice, apply_all}
use Rattle.room_model.specs.Receive.{Received, receive, receive_frame}
use Rattle.room_model.specs.Sound.{IsSound, IsSoundEdit}
use Rattle.room_laws.specs.Accounts.{IsValidServerMsg}

-- what the client shows; the view of the bare tree until it has one
abbrev pub screen : Account → Value
screen x = view (tree_or_bare (shown x))

-- applied to the old screen, the notices answer true and give the new one
abbrev pub Follows : Account → List Notice → Account → Type 0
Follows x ns y = apply_all ns (screen x) ≡ (screen y, true)

abbrev pub AreValidServerMsgs : List ServerMsg → Type 0
AreValidServerMsgs [] = ⊤
AreValidServerMsgs (m ∷ ms) = IsValidServerMsg m × AreValidServerMsgs ms

abbrev pub IsValidServerFrame : ServerFrame → Type 0
IsValidServerFrame Pong = ⊤
IsValidServerFrame (Msgs ms) = AreValidServerMsgs ms

-- every call and every message of a sound account that is Ok, and a whole frame
pub record ScreensFollow : Type 0 where
  pub edit : (x : Account) (e : Edit) (out : Done) → IsSound x → IsSoundEdit e → edit x e ≡ Ok out
      → Follows x out.notices out.account
  pub batch_end : (x : Account) (out : Done) → IsSound x → batch_end x ≡ Ok out → Follows x out.notices out.account
  pub go_back : (way : Direction) (x : Account) (out : Done) → IsSound x → go_back way x ≡ Ok (Some out)
      → Follows x out.notices out.account
  pub receive : (x : Account) (m : ServerMsg) (out : Received) → IsSound x → IsValidServerMsg m → receive x m ≡ Ok out
      → Follows x out.notices out.account
  pub frame : (x : Account) (f : ServerFrame) (out : Received) → IsSound x → IsValidServerFrame f
      → receive_frame x f ≡ Ok out → Follows x out.notices out.account

-- the calls that give no notices leave what is shown
pub record ScreensStay : Type 0 where
  pub lost : (x : Account) → screen (lost x) ≡ screen x
  pub dialled : (x : Account) → screen (dialled x) ≡ screen x
  pub batch_begin : (x y : Account) → batch_begin x ≡ Ok y → screen y ≡ screen x
  pub presence : (x y : Account) (patch : List (List ℕ × Value)) (in_history : Bool)
      → presence x patch in_history ≡ Ok y → screen y ≡ screen x
  pub event : (x y : Account) (e : Json) → event x e ≡ Ok y → screen y ≡ screen x
  pub pause : (x : Account) → screen (pause x) ≡ screen x
  pub resume : (x : Account) → screen (resume x) ≡ screen x
  pub clear : (x : Account) → screen (clear x) ≡ screen x
  pub flushed : (x : Account) → screen (flushed x) ≡ screen x
  pub resent : (x : Account) → screen (resent x) ≡ screen x
