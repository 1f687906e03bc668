-- Undoing alone, over lines: what a client did since some moment, if nothing came but what it sent itself.
use Rattle.std.specs.Prelude.{◌≡◌, ◌≤◌, ◌<◌, ◌-◌, ℕ, suc, true, List, [], ◌∷◌, ◌++◌, Option, Some, None, Result, Ok}
use Rattle.std.specs.Prelude.{Err}
use Rattle.room_nodes.specs.Equal.{are_first}
use Rattle.room_nodes.specs.Shape.{Nodes}
use Rattle.room_msg.specs.declared.messages.ServerMsg.{ServerMsg}
use Rattle.room_msg.specs.declared.messages.ServerMsg.TheVariants as server
use Rattle.room_log.specs.Log.{State}
use Rattle.room_log.specs.Follows.{IsValidState}
use Rattle.room_model.specs.Account.{Account, bodies_in, pending, shown}
use Rattle.room_model.specs.Calls.{Done, Undo, Redo, UndoFault, batch_end, edit, entry_bodies, go_back, presence}
use Rattle.room_model.specs.Lines as lines
use Rattle.room_model.specs.Lines.{Call, Line}
use Rattle.room_model.specs.Sound.{changes_in}
use Rattle.room_model.specs.World.{account}
use Rattle.room_model.specs.Run.{run, opened}
use Rattle.room_laws.specs.Back.{Undoes, edit_count, end_count, in_bag, presence_count}
use Rattle.room_laws.specs.Events.{Event, Called, Arrived, Ended, events, happened}
use Rattle.room_laws.specs.Validity.{AreLines}

-- The moment: t is shown, no open batch holds anything that goes back, and nothing is gathered in a pause. So what is
-- noted from then on is of entries that were begun since.
pub record BeginsAlone (t : Nodes) (x : Account) : Type 0 where
  pub shows : shown x ≡ Some t
  pub none : bodies_in x.batch ≡ []
  pub back : entry_bodies (changes_in x.batch) ≡ []
  pub bare : in_bag x.history.bag ≡ []

-- how many of the newest entries were begun since, after an event, if k were before; a refused call leaves them

abbrev pub if_done : {E : Type 0} → Result Done E → (Done → ℕ) → ℕ → ℕ
if_done (Err fault) f k = k
if_done (Ok out) f k = f out

abbrev pub if_given : {E : Type 0} → Result Account E → ℕ → ℕ → ℕ
if_given (Err fault) n k = k
if_given (Ok y) n k = n

abbrev pub if_back : Result (Option Done) UndoFault → ℕ → ℕ → ℕ
if_back (Err fault) n k = k
if_back (Ok None) n k = k
if_back (Ok (Some out)) n k = n

abbrev pub call_count : Account → Call → ℕ → ℕ
call_count x lines.Dial k = k
call_count x (lines.Edits e) k = if_done (edit x e) (edit_count x k) k
call_count x lines.Begin k = k
call_count x lines.End k = if_done (batch_end x) (λ out. end_count x k) k
call_count x lines.Undo k = if_back (go_back Undo x) (k - 1) k
call_count x lines.Redo k = if_back (go_back Redo x) (suc k) k
call_count x lines.Pause k = k
call_count x lines.Resume k = k
call_count x lines.Clear k = k
call_count x (lines.Presence patch in_history) k =
    if_given (presence x patch in_history) (presence_count x k patch in_history) k
call_count x (lines.Event e) k = k
call_count x lines.Flush k = k
call_count x lines.Resend k = k
call_count x lines.Cut k = k

abbrev pub event_count : Account → Event → ℕ → ℕ
event_count x (Called call) k = call_count x call k
event_count x (Arrived m) k = k
event_count x Ended k = k

-- undoing takes one of these, and the history isn't cleared

abbrev pub TakesOne : Result (Option Done) UndoFault → ℕ → Type 0
TakesOne (Err fault) k = Unit {0}
TakesOne (Ok None) k = Unit {0}
TakesOne (Ok (Some out)) k = 0 < k

abbrev pub IsCallAlone : Account → ℕ → Call → Type 0
IsCallAlone x k lines.Dial = Unit {0}
IsCallAlone x k (lines.Edits e) = Unit {0}
IsCallAlone x k lines.Begin = Unit {0}
IsCallAlone x k lines.End = Unit {0}
IsCallAlone x k lines.Undo = TakesOne (go_back Undo x) k
IsCallAlone x k lines.Redo = Unit {0}
IsCallAlone x k lines.Pause = Unit {0}
IsCallAlone x k lines.Resume = Unit {0}
IsCallAlone x k lines.Clear = ⊥
IsCallAlone x k (lines.Presence patch in_history) = Unit {0}
IsCallAlone x k (lines.Event e) = Unit {0}
IsCallAlone x k lines.Flush = Unit {0}
IsCallAlone x k lines.Resend = Unit {0}
IsCallAlone x k lines.Cut = Unit {0}

-- no state comes, and each update equals the first pending operations
abbrev pub IsOwnMessage : Account → ServerMsg → Type 0
IsOwnMessage x (server.Presence a target patch) = Unit {0}
IsOwnMessage x (server.Joined a) = Unit {0}
IsOwnMessage x (server.Left a) = Unit {0}
IsOwnMessage x (server.Broadcast a e) = Unit {0}
IsOwnMessage x (server.RoomState a key users) = Unit {0}
IsOwnMessage x (server.State seq last items more) = ⊥
IsOwnMessage x (server.Update seq os) = are_first os (pending x) ≡ true

abbrev pub IsAlone : Account → ℕ → Event → Type 0
IsAlone x k (Called call) = IsCallAlone x k call
IsAlone x k (Arrived m) = IsOwnMessage x m
IsAlone x k Ended = Unit {0}

-- event by event, with the history's 50 entries at most begun since; and how many are there in the end

abbrev pub AreAlone : Account → ℕ → List Event → Type 0
AreAlone x k [] = Unit {0}
AreAlone x k (e ∷ es) = IsAlone x k e × (event_count x e k ≤ 50) × AreAlone (happened x e) (event_count x e k) es

abbrev pub counted : Account → ℕ → List Event → ℕ
counted x k [] = k
counted x k (e ∷ es) = counted (happened x e) (event_count x e k) es

-- The entries that were begun since the moment, undone in a row, restore what was shown then: those of edits, of
-- batches, of pauses and of redos alike.
abbrev pub AlwaysAlone : Type 0
AlwaysAlone = (s : State) (ls ms : List (ℕ × Line)) (c k : ℕ) (t : Nodes) (y : Account) →
    IsValidState s → AreLines (ls ++ ms) → BeginsAlone t (account (run (opened s) ls).world c) →
    AreAlone (account (run (opened s) ls).world c) 0 (events (run (opened s) ls).world c ms) →
    counted (account (run (opened s) ls).world c) 0 (events (run (opened s) ls).world c ms) ≡ suc k →
    Undoes (suc k) (account (run (opened s) (ls ++ ms)).world c) y → shown y ≡ Some t
