-- What is received of a frame, with replies as texts; and what is left of a client after a refusal.
use Rattle.std.specs.Prelude.{◌≡◌, ◌⊎◌, ◌++◌, ℕ, List, [], ◌∷◌, map, Option, Some, None, Result, Ok, Err}
use Rattle.room_json.specs.declared.tree.Json.{Json}
use Rattle.room_msg.specs.Written.{client_text}
use Rattle.room_msg.specs.declared.reason.Reason.{Reason}
use Rattle.room_msg.specs.declared.messages.ServerMsg.{ServerMsg}
use Rattle.room_msg.specs.declared.messages.ServerFrame.{ServerFrame}
use Rattle.room_msg.specs.declared.messages.ServerFrame.TheVariants.{Pong, Msgs}
use Rattle.room_notice.specs.Notices.{notices_in}
use Rattle.room_model.specs.Account.{Account}
use Rattle.room_model.specs.Calls.{lost}
use Rattle.room_model.specs.Notices.{Notice}
use Rattle.room_model.specs.Receive.{Received, Refusal, frame, receive, receive_all}
use Rattle.room_model.specs.Receive as model
use Rattle.room_client.specs.Faults.{fault_of}
use Rattle.room_client.specs.declared.faults.FrameFault.{FrameFault}
use Rattle.room_client.specs.declared.outcome.Outcome.{Outcome}

pub record Given : Type 0 where
  pub account : Account
  pub replies : List (List ℕ)
  pub events : List (ℕ × Json)
  pub notices : List Notice

abbrev pub given : {F : Type 0} → Result Received F → Result Given F
given (Err fault) = Err fault
given (Ok r) =
    Ok (record { account = r.account; replies = map client_text r.replies; events = r.events; notices = r.notices })

-- an outcome, with the account after it
abbrev pub given_of : Account → Outcome → Given
given_of x o = record { account = x; replies = o.replies; events = o.events; notices = notices_in o.notices }

-- what was given so far, and then this
abbrev pub more_given : {F : Type 0} → Outcome → Result Given F → Result Given F
more_given o (Err fault) = Err fault
more_given o (Ok g) = Ok (record {
  account = g.account;
  replies = o.replies ++ g.replies;
  events = o.events ++ g.events;
  notices = notices_in o.notices ++ g.notices;
})

-- y is the account after some first messages, each of which was taken
abbrev pub IsAfterFront : Account → List ServerMsg → Account → Type 0
IsAfterFront x [] y = y ≡ x
IsAfterFront x (m ∷ ms) y = (y ≡ x) ⊎ ((out : Received) × (receive x m ≡ Ok out) × IsAfterFront out.account ms y)

abbrev pub messages_in : Result ServerFrame Reason → List ServerMsg
messages_in (Err reason) = []
messages_in (Ok Pong) = []
messages_in (Ok (Msgs ms)) = ms

-- out of memory some first messages were taken; any other fault is the one of the first message that is refused
abbrev pub StoppedBy : Result Received Refusal → Account → List ServerMsg → Account → Option model.FrameFault → Type 0
StoppedBy r x ms y None = IsAfterFront x ms y
StoppedBy r x ms y (Some fault) = r ≡ Err (record { account = lost y; fault = fault })

-- y is the account after the messages before the refused one
abbrev pub IsStoppedIn : Account → List ServerMsg → FrameFault → Account → Type 0
IsStoppedIn x ms f y = StoppedBy (receive_all x ms) x ms y (fault_of f)

abbrev pub IsStopped : Account → Result ServerFrame Reason → FrameFault → Account → Type 0
IsStopped x read f y = StoppedBy (frame x read) x (messages_in read) y (fault_of f)

-- the account after a frame that was refused: out of memory it is the one after some first messages, lost
abbrev pub RefusedBy : Result Received Refusal → Account → List ServerMsg → Account → Option model.FrameFault → Type 0
RefusedBy r x ms y None = (z : Account) × IsAfterFront x ms z × (y ≡ lost z)
RefusedBy r x ms y (Some fault) = r ≡ Err (record { account = y; fault = fault })

abbrev pub IsRefused : Account → Result ServerFrame Reason → FrameFault → Account → Type 0
IsRefused x read f y = RefusedBy (frame x read) x (messages_in read) y (fault_of f)
