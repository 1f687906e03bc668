-- Every account is sound, whatever is done with it.
use Rattle.std.specs.Prelude.{◌≡◌, ◌≤◌, ℕ, Bool, List, [], Some, Ok, IsUtf8}
use Rattle.room_json.specs.Value.{Value, depth, fields_of, members}
use Rattle.room_json.specs.View.{json_of}
use Rattle.room_json.specs.Profile.{IsJson, AreSoundMembers}
use Rattle.room_json.specs.declared.tree.Json.{Json}
use Rattle.room_nodes.specs.Shallow.{AreShallowOps}
use Rattle.room_nodes.specs.Shape.{Nodes}
use Rattle.room_nodes.specs.Sound.{AreSoundOps}
use Rattle.room_items.specs.Items.{tree_in}
use Rattle.room_msg.specs.Laws.{IsTarget, AreActors}
use Rattle.room_msg.specs.Sound.{AreNames}
use Rattle.room_msg.specs.Users.{IsRising}
use Rattle.room_msg.specs.declared.messages.ServerMsg.{ServerMsg}
use Rattle.room_msg.specs.declared.messages.ServerMsg.TheVariants as server
use Rattle.room_log.specs.Follows.{IsKey, most, most_actor}
use Rattle.room_model.specs.Edits.{Edit}
use Rattle.room_model.specs.Account.{Account, new_account, most_bytes}
use Rattle.room_model.specs.Calls.{Done, Direction, lost, dialled, edit, batch_begin, batch_end, go_back}
use Rattle.room_model.specs.Calls.{pause as pauses, resume as resumes, clear as clears, presence, event, flushed}
use Rattle.room_model.specs.Calls.{resent, presence_size}
use Rattle.room_model.specs.Receive.{Received, receive}
use Rattle.room_model.specs.Sound.{IsSound, IsSoundEdit, AreItems, IsValidTree}

-- a message of a server: its numbers are in range, its users rise, and its values are as deep as a text can have them
abbrev pub IsValidServerMsg : ServerMsg → Type 0
IsValidServerMsg (server.Presence a target patch) =
    (a ≤ most_actor) × AreSoundMembers patch × IsTarget target × (depth (members (fields_of patch)) ≤ 59)
IsValidServerMsg (server.Joined a) = a ≤ most_actor
IsValidServerMsg (server.Left a) = a ≤ most_actor
IsValidServerMsg (server.Broadcast a e) = (a ≤ most_actor) × IsJson (json_of e) × (depth (json_of e) ≤ 59)
IsValidServerMsg (server.RoomState a key users) =
    (1 ≤ a) × (a ≤ most_actor) × IsKey key × IsRising users × AreActors users × AreNames users
IsValidServerMsg (server.State seq last items more) = (seq ≤ most) × (last ≤ most) × AreItems items
IsValidServerMsg (server.Update seq os) = (seq ≤ most) × AreSoundOps os × AreShallowOps os

-- what items spell is valid
abbrev pub TreesAreValid : Type 0
TreesAreValid = (vs : List Value) (t : Nodes) → AreItems vs → tree_in vs ≡ Some t → IsValidTree t

-- a presence without members fits into a frame
abbrev pub EmptyFits : Type 0
EmptyFits = presence_size [] ≤ most_bytes

-- each call and each message keeps an account sound
pub record KeepsSound : Type 0 where
  pub new : (room : List ℕ) → IsUtf8 room → IsSound (new_account room)
  pub lost : (x : Account) → IsSound x → IsSound (lost x)
  pub dialled : (x : Account) → IsSound x → IsSound (dialled x)
  pub edit : (x : Account) (e : Edit) (out : Done) → IsSound x → IsSoundEdit e → edit x e ≡ Ok out → IsSound out.account
  pub batch_begin : (x y : Account) → IsSound x → batch_begin x ≡ Ok y → IsSound y
  pub batch_end : (x : Account) (out : Done) → IsSound x → batch_end x ≡ Ok out → IsSound out.account
  pub go_back : (way : Direction) (x : Account) (out : Done) → IsSound x → go_back way x ≡ Ok (Some out)
      → IsSound out.account
  pub presence : (x y : Account) (patch : List (List ℕ × Value)) (in_history : Bool) → IsSound x → AreSoundMembers patch
      → presence x patch in_history ≡ Ok y → IsSound y
  pub event : (x y : Account) (e : Json) → IsSound x → IsJson (json_of e) → event x e ≡ Ok y → IsSound y
  pub pauses : (x : Account) → IsSound x → IsSound (pauses x)
  pub resumes : (x : Account) → IsSound x → IsSound (resumes x)
  pub clears : (x : Account) → IsSound x → IsSound (clears x)
  pub flushed : (x : Account) → IsSound x → IsSound (flushed x)
  pub resent : (x : Account) → IsSound x → IsSound (resent x)
  pub receive : (x : Account) (m : ServerMsg) (out : Received) → IsSound x → IsValidServerMsg m → receive x m ≡ Ok out
      → IsSound out.account
