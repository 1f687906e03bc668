-- What calls and messages keep of an account, whatever happens keeps.
use Rattle.std.proofs.Common.{◌≡◌, ℕ, Bool, List, refl}
use Rattle.std.specs.Prelude.{Option, Some, None, Result, Ok, Err}
use Rattle.room_json.specs.Value.{Value}
use Rattle.room_json.specs.declared.tree.Json.{Json}
use Rattle.room_msg.specs.declared.messages.ServerMsg.{ServerMsg}
use Rattle.room_model.specs.Account.{Account}
use Rattle.room_model.specs.Edits.{Edit}
use Rattle.room_model.specs.Calls as calls
use Rattle.room_model.specs.Receive.{Received, FrameFault, receive}
use Rattle.room_model.specs.Lines as lines
use Rattle.room_model.specs.Lines.{Call}
use Rattle.room_laws.specs.Events.{Event, Called, Arrived, Ended, happened, done_or, account_or, back_or, received_or}

-- where the calls are as C says and the messages as M says
pub record Keeps (P : Account → Type 0) (C : Call → Type 0) (M : ServerMsg → Type 0) : Type 0 where
  pub edit : (x : Account) (e : Edit) (out : calls.Done) → C (lines.Edits e) → P x → calls.edit x e ≡ Ok out → P out.account
  pub begin : (x y : Account) → C lines.Begin → P x → calls.batch_begin x ≡ Ok y → P y
  pub end : (x : Account) (out : calls.Done) → C lines.End → P x → calls.batch_end x ≡ Ok out → P out.account
  pub undo : (x : Account) (out : calls.Done) → C lines.Undo → P x → calls.go_back calls.Undo x ≡ Ok (Some out) → P out.account
  pub redo : (x : Account) (out : calls.Done) → C lines.Redo → P x → calls.go_back calls.Redo x ≡ Ok (Some out) → P out.account
  pub paused : (x : Account) → P x → P (calls.pause x)
  pub resumed : (x : Account) → P x → P (calls.resume x)
  pub cleared : (x : Account) → C lines.Clear → P x → P (calls.clear x)
  pub presence : (x y : Account) (patch : List (List ℕ × Value)) (in_history : Bool) → C (lines.Presence patch in_history) → P x → calls.presence x patch in_history ≡ Ok y → P y
  pub event : (x y : Account) (e : Json) → C (lines.Event e) → P x → calls.event x e ≡ Ok y → P y
  pub flushed : (x : Account) → P x → P (calls.flushed x)
  pub resent : (x : Account) → P x → P (calls.resent x)
  pub lost : (x : Account) → P x → P (calls.lost x)
  pub dialled : (x : Account) → P x → P (calls.dialled x)
  pub receive : (x : Account) (m : ServerMsg) (out : Received) → M m → P x → receive x m ≡ Ok out → P out.account

abbrev pub Allows : (Call → Type 0) → (ServerMsg → Type 0) → Event → Type 0
Allows C M (Called call) = C call
Allows C M (Arrived m) = M m
Allows C M Ended = Unit {0}

module _ (P : Account → Type 0) (C : Call → Type 0) (M : ServerMsg → Type 0) (keep : Keeps P C M) where
  done : {E : Type 0} (x : Account) (r : Result calls.Done E) → P x → ((out : calls.Done) → r ≡ Ok out → P out.account) → P (done_or x r)
  done x (Err fault) h f = h
  done x (Ok out) h f = f out refl

  given : {E : Type 0} (x : Account) (r : Result Account E) → P x → ((y : Account) → r ≡ Ok y → P y) → P (account_or x r)
  given x (Err fault) h f = h
  given x (Ok y) h f = f y refl

  back : (x : Account) (r : Result (Option calls.Done) calls.UndoFault) → P x → ((out : calls.Done) → r ≡ Ok (Some out) → P out.account) → P (back_or x r)
  back x (Err fault) h f = h
  back x (Ok None) h f = h
  back x (Ok (Some out)) h f = f out refl

  received : (x : Account) (m : ServerMsg) (r : Result Received FrameFault) → M m → P x → receive x m ≡ r → P (received_or x r)
  received x m (Err fault) a h e = keep.lost x h
  received x m (Ok out) a h e = keep.receive x m out a h e

  pub keeps_event : (x : Account) (e : Event) → Allows C M e → P x → P (happened x e)
  keeps_event x (Called lines.Dial) a h = keep.dialled x h
  keeps_event x (Called (lines.Edits e)) a h = done x (calls.edit x e) h (λ out i. keep.edit x e out a h i)
  keeps_event x (Called lines.Begin) a h = given x (calls.batch_begin x) h (λ y i. keep.begin x y a h i)
  keeps_event x (Called lines.End) a h = done x (calls.batch_end x) h (λ out i. keep.end x out a h i)
  keeps_event x (Called lines.Undo) a h = back x (calls.go_back calls.Undo x) h (λ out i. keep.undo x out a h i)
  keeps_event x (Called lines.Redo) a h = back x (calls.go_back calls.Redo x) h (λ out i. keep.redo x out a h i)
  keeps_event x (Called lines.Pause) a h = keep.paused x h
  keeps_event x (Called lines.Resume) a h = keep.resumed x h
  keeps_event x (Called lines.Clear) a h = keep.cleared x a h
  keeps_event x (Called (lines.Presence patch in_history)) a h = given x (calls.presence x patch in_history) h (λ y i. keep.presence x y patch in_history a h i)
  keeps_event x (Called (lines.Event e)) a h = given x (calls.event x e) h (λ y i. keep.event x y e a h i)
  keeps_event x (Called lines.Flush) a h = keep.flushed x h
  keeps_event x (Called lines.Resend) a h = keep.resent x h
  keeps_event x (Called lines.Cut) a h = keep.lost x h
  keeps_event x (Arrived m) a h = received x m (receive x m) a h refl
  keeps_event x Ended a h = keep.lost x h
