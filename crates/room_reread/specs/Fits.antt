-- What a client sends fits into a frame: what is true of every account for it, whatever was done with it.
use Rattle.std.specs.Prelude.{◌≡◌, ◌≤◌, ℕ, Bool, false, List, [], ◌∷◌, Option, Some, None, Ok, ⊤}
use Rattle.room_json.specs.Value.{Value}
use Rattle.room_json.specs.declared.tree.Json.{Json}
use Rattle.room_nodes.specs.Shape.{Nodes}
use Rattle.room_msg.specs.Laws.{IsResumable, IsShort, IsResume}
use Rattle.room_msg.specs.declared.messages.Resume.{Resume}
use Rattle.room_msg.specs.declared.messages.ClientMsg.{ClientMsg}
use Rattle.room_msg.specs.declared.messages.ClientMsg.TheVariants as client
use Rattle.room_msg.specs.declared.messages.ServerMsg.{ServerMsg}
use Rattle.room_model.specs.Edits.{Edit}
use Rattle.room_model.specs.Account.{Account, Batch, Stage, new_account, actor, issued, open_ops, is_on, frame_of}
use Rattle.room_model.specs.Account.{frame_of_ops, size_of, most_bytes}
use Rattle.room_model.specs.Calls.{Done, Direction, lost, dialled, edit, batch_begin, batch_end, go_back, resent}
use Rattle.room_model.specs.Calls.{pause as pauses, resume as resumes, clear as clears, presence, event, flushed}
use Rattle.room_model.specs.Receive.{Received, receive}
use Rattle.room_model.specs.Sound.{IsSound}
use Rattle.room_model.specs.World.{room_name}

-- frames: at most 1,048,576 bytes, and the session of a hello is in range

abbrev pub IsRanged : ClientMsg → Type 0
IsRanged (client.Hello h) = IsResumable h.resume × IsShort h.name × IsResume h.resume
IsRanged (client.Presence target patch) = ⊤
IsRanged (client.Broadcast event) = ⊤
IsRanged client.Fetch = ⊤
IsRanged (client.Update ops) = ⊤

abbrev pub AreRanged : List ClientMsg → Type 0
AreRanged [] = ⊤
AreRanged (m ∷ ms) = IsRanged m × AreRanged ms

abbrev pub AreFitting : List (List ClientMsg) → Type 0
AreFitting [] = ⊤
AreFitting (f ∷ fs) = (AreRanged f × (size_of f ≤ most_bytes)) × AreFitting fs

-- accounts

-- told its session before it is on, and before it has a tree
abbrev pub KnowsItself : Stage → Option Resume → Option Nodes → Type 0
KnowsItself stage None confirmed = (is_on stage ≡ false) × (confirmed ≡ None)
KnowsItself stage (Some session) confirmed = ⊤

-- batches of an actor, each with a frame that fits
abbrev pub AreSized : ℕ → List Batch → Type 0
AreSized a [] = ⊤
AreSized a (b ∷ bs) = (size_of (frame_of a b) ≤ most_bytes) × AreSized a bs

pub record FitsFrames (x : Account) : Type 0 where
  pub room : x.room ≡ room_name
  pub knows : KnowsItself x.stage x.session x.confirmed
  pub closed : AreSized (actor x) (issued x)
  pub begun : size_of (frame_of_ops (open_ops x)) ≤ most_bytes

-- each call and each message keeps an account so; a session that comes finds nothing made, as a sound account says
pub record KeepsFitting : Type 0 where
  pub new : FitsFrames (new_account room_name)
  pub lost : (x : Account) → FitsFrames x → FitsFrames (lost x)
  pub dialled : (x : Account) → FitsFrames x → FitsFrames (dialled x)
  pub edit : (x : Account) (e : Edit) (out : Done) → FitsFrames x → edit x e ≡ Ok out → FitsFrames out.account
  pub batch_begin : (x y : Account) → FitsFrames x → batch_begin x ≡ Ok y → FitsFrames y
  pub batch_end : (x : Account) (out : Done) → FitsFrames x → batch_end x ≡ Ok out → FitsFrames out.account
  pub go_back : (way : Direction) (x : Account) (out : Done) → FitsFrames x → go_back way x ≡ Ok (Some out)
      → FitsFrames out.account
  pub presence : (x y : Account) (patch : List (List ℕ × Value)) (in_history : Bool) → FitsFrames x
      → presence x patch in_history ≡ Ok y → FitsFrames y
  pub event : (x y : Account) (e : Json) → FitsFrames x → event x e ≡ Ok y → FitsFrames y
  pub pauses : (x : Account) → FitsFrames x → FitsFrames (pauses x)
  pub resumes : (x : Account) → FitsFrames x → FitsFrames (resumes x)
  pub clears : (x : Account) → FitsFrames x → FitsFrames (clears x)
  pub flushed : (x : Account) → FitsFrames x → FitsFrames (flushed x)
  pub resent : (x : Account) → FitsFrames x → FitsFrames (resent x)
  pub receive : (x : Account) (m : ServerMsg) (out : Received) → IsSound x → FitsFrames x → receive x m ≡ Ok out
      → FitsFrames out.account
