-- A script that a client runs over a hub: which call comes next, what comes of each, and what is written.
--
-- The entry is `Plays`: what happens on the hub is what the script asks for, step by step. `begins` runs the lines up
-- to the first that needs the hub; `after` goes on from what happened there.
use Rattle.std.specs.Prelude.{◌≡◌, ⊤, ℕ, ◌+◌, ◌-◌, ◌==◌, Bool, true, false, ◌||◌, if◌then◌else◌, List, [], ◌∷◌, ◌++◌}
use Rattle.std.specs.Prelude.{codes, decimal, Option, Some, None, Result, Ok, Err}
use Rattle.room_hub.specs.declared.hub.Event.{Event}
use Rattle.room_hub.specs.declared.hub.Event.TheVariants.{Opened, Frame, Gone, Quiet, End}
use Rattle.room_hub.specs.declared.hub.Deed.{Deed}
use Rattle.room_hub.specs.declared.hub.Deed.TheVariants.{Sent, Closed, Dialled}
use Rattle.room_hub.specs.declared.hub.Happening.{Happening}
use Rattle.room_hub.specs.declared.hub.Happening.TheVariants.{Gave, Did, Failed}
use Rattle.room_msg.specs.declared.messages.ClientMsg.{ClientMsg}
use Rattle.room_msg.specs.Written.{client_text}
use Rattle.room_msg.specs.Frame.{server_frame_in}
use Rattle.room_model.specs.Edits.{EditFault}
use Rattle.room_model.specs.Notices.{Notice}
use Rattle.room_model.specs.Account.{Account, new_account}
use Rattle.room_model.specs.Calls.{Done, Undo as Back, Redo as Forth, BatchFault, UndoFault, SayFault, lost, dialled}
use Rattle.room_model.specs.Calls.{hello_of, edit, batch_begin, batch_end, go_back, pause, resume, clear, presence}
use Rattle.room_model.specs.Calls.{event, flush_frames, flushed, resend_frames, resent}
use Rattle.room_model.specs.Receive.{Received, Refusal, frame}
use Rattle.room_model.specs.Lines as lines
use Rattle.room_script.specs.Grammar.{ScriptLine, Calls, Asks, Takes}
use Rattle.room_serving.specs.Serving.{was_lost}

-- the client's account, its present connection, the last notices that it was told, and the lines written so far
pub record Client : Type 0 where
  pub account : Account
  pub present : Option ℕ
  pub noticed : List Notice
  pub written : List (List ℕ)

abbrev pub new_client : List ℕ → Client
new_client room = record { account = new_account room; present = None; noticed = []; written = [] }

abbrev pub says : Client → List (List ℕ) → Client
says c ls = record c { written = c.written ++ ls }

abbrev pub with_account : Client → Account → Client
with_account c x = record c { account = x }

-- it is lost without a word
abbrev pub cut : Client → Client
cut c = record c { account = lost c.account; present = None }

-- a loss that it is told
abbrev pub loses : Client → Client
loses c = says (cut c) (codes "lost" ∷ [])

-- a `take` line, by its number: how many frames and how many tries are left, and how many frames were taken
pub record Taking : Type 0 where
  pub line : ℕ
  pub frames : ℕ
  pub tries : ℕ
  pub taken : ℕ

-- what is due: nothing, since every line was run, a call was refused, or the hub failed; a dial; a frame, and those
-- behind it, of a call or of a `take`; an event
pub data Waits : Type 0 where
  Finished : Waits
  Refused : Waits
  Missed : Waits
  Dialling : Waits
  Sending : (frame : List ClientMsg) → (more : List (List ClientMsg)) → (within : Option Taking) → Waits
  Asking : Taking → Waits

-- the client, what is due, and the lines behind the present one
pub record Scripted : Type 0 where
  pub client : Client
  pub waits : Waits
  pub ahead : List (ℕ × ScriptLine)

-- what comes of a line, or of a part of it: it is done; its call is refused; or something is due
pub data Step : Type 0 where
  Over : Client → Step
  Refuses : Client → Step
  Awaits : Client → Waits → Step

abbrev pub refuses : Client → ℕ → List (List ℕ) → Step
refuses c line ws = Refuses (says c (lines.refused_line line ws ∷ []))

-- taking

-- frames are left, and tries, or else the line is done
abbrev pub goes_on : Client → Taking → Step
goes_on c t =
    if t.frames == 0 || t.tries == 0
    then Over (says c (lines.words (codes "took" ∷ decimal t.taken ∷ []) ∷ []))
    else Awaits c (Asking t)

abbrev pub on_with : Client → Option Taking → Step
on_with c None = Over c
on_with c (Some t) = goes_on c t

-- sending, on the present connection; without one nothing is sent

abbrev pub sends : Client → List (List ClientMsg) → Option Taking → Step
sends c [] within = on_with c within
sends c (f ∷ fs) within = Awaits c (Sending f fs within)

abbrev pub speaks_on : Client → List (List ClientMsg) → Option Taking → Option ℕ → Step
speaks_on c fs within None = on_with c within
speaks_on c fs within (Some k) = sends c fs within

abbrev pub speaks : Client → List (List ClientMsg) → Option Taking → Step
speaks c fs within = speaks_on c fs within c.present

-- calls

abbrev pub noticing : Client → Done → Client
noticing c out = record c { account = out.account; noticed = out.notices }

abbrev pub edit_out : Client → ℕ → Result Done EditFault → Step
edit_out c line (Err fault) = refuses c line (lines.edit_fault_words fault)
edit_out c line (Ok out) = Over (noticing c out)

abbrev pub begin_out : Client → ℕ → Result Account BatchFault → Step
begin_out c line (Err fault) = refuses c line (lines.batch_fault_words fault)
begin_out c line (Ok x) = Over (with_account c x)

abbrev pub end_out : Client → ℕ → Result Done BatchFault → Step
end_out c line (Err fault) = refuses c line (lines.batch_fault_words fault)
end_out c line (Ok out) = Over (with_account c out.account)

abbrev pub back_out : Client → ℕ → Result (Option Done) UndoFault → Step
back_out c line (Err fault) = refuses c line (lines.undo_fault_words fault)
back_out c line (Ok None) = Over (says c (lines.nothing_line line ∷ []))
back_out c line (Ok (Some out)) = Over (noticing c out)

abbrev pub say_out : Client → ℕ → Result Account SayFault → Step
say_out c line (Err fault) = refuses c line (lines.say_fault_words fault)
say_out c line (Ok x) = Over (with_account c x)

abbrev pub calls : Client → ℕ → lines.Call → Step
calls c line lines.Dial = Awaits (cut c) Dialling
calls c line (lines.Edits e) = edit_out c line (edit c.account e)
calls c line lines.Begin = begin_out c line (batch_begin c.account)
calls c line lines.End = end_out c line (batch_end c.account)
calls c line lines.Undo = back_out c line (go_back Back c.account)
calls c line lines.Redo = back_out c line (go_back Forth c.account)
calls c line lines.Pause = Over (with_account c (pause c.account))
calls c line lines.Resume = Over (with_account c (resume c.account))
calls c line lines.Clear = Over (with_account c (clear c.account))
calls c line (lines.Presence patch in_history) = say_out c line (presence c.account patch in_history)
calls c line (lines.Event e) = say_out c line (event c.account e)
calls c line lines.Flush = speaks (with_account c (flushed c.account)) (flush_frames c.account) None
calls c line lines.Resend = speaks (with_account c (resent c.account)) (resend_frames c.account) None
calls c line lines.Cut = Over (cut c)

-- a line, with its number
abbrev pub line : Client → ℕ → ScriptLine → Step
line c number (Calls call) = calls c number call
line c number (Asks question) = Over (says c (lines.answer_line None c.account c.noticed question ∷ []))
line c number (Takes n m) = goes_on c (record { line = number; frames = n; tries = m; taken = 0 })

-- lines

abbrev pub onward : Step → (Client → Scripted) → List (ℕ × ScriptLine) → Scripted
onward (Over c) go ls = go c
onward (Refuses c) go ls = record { client = c; waits = Refused; ahead = ls }
onward (Awaits c w) go ls = record { client = c; waits = w; ahead = ls }

-- the lines up to the first that needs the hub
abbrev pub begins : Client → List (ℕ × ScriptLine) → Scripted
begins c [] = record { client = c; waits = Finished; ahead = [] }
begins c (l ∷ ls) = onward (line c l.0 l.1) (λ d. begins d ls) ls

abbrev pub opening : List ℕ → List (ℕ × ScriptLine) → Scripted
opening room ls = begins (new_client room) ls

abbrev pub then_lines : Step → List (ℕ × ScriptLine) → Scripted
then_lines s ls = onward s (λ d. begins d ls) ls

-- what happens

abbrev pub is_present : ℕ → Option ℕ → Bool
is_present k None = false
is_present k (Some j) = k == j

abbrev pub with_frame : Taking → Taking
with_frame t = record t { frames = t.frames - 1; taken = t.taken + 1 }

abbrev pub takes : Client → Received → Client
takes c out =
    says (record c { account = out.account; noticed = out.notices }) (lines.event_lines None out.events)

abbrev pub received_on : Client → Taking → Result Received Refusal → Step
received_on c t (Err out) = refuses (with_account c out.account) t.line (lines.frame_fault_words out.fault)
received_on c t (Ok out) = speaks (takes c out) out.replies (Some (with_frame t))

-- frames and ends of other connections are passed over
abbrev pub given : Client → Taking → Event → Step
given c t (Frame k text) =
    if is_present k c.present then received_on c t (frame c.account (server_frame_in text)) else goes_on c t
given c t (Gone k) = if is_present k c.present then goes_on (loses c) t else goes_on c t
given c t (Opened k key) = goes_on c t
given c t Quiet = goes_on c t
given c t End = goes_on c (record t { tries = 0 })

-- the number of a new connection
abbrev pub connects : Client → Deed → Step
connects c (Dialled k) =
    let x = dialled c.account in
    speaks (record c { account = x; present = Some k }) (hello_of x ∷ []) None
connects c (Sent k text lost) = Over c
connects c (Closed k code text lost) = Over c

-- after a loss the frames behind it aren't tried
abbrev pub tried : Client → List (List ClientMsg) → Option Taking → Bool → Step
tried c fs within true = on_with (loses c) within
tried c fs within false = sends c fs within

abbrev pub missed : Scripted → Scripted
missed p = record p { waits = Missed }

abbrev pub asked : Taking → Taking
asked t = record t { tries = t.tries - 1 }

abbrev pub after_at : Scripted → Waits → Happening → Scripted
after_at p Finished h = p
after_at p Refused h = p
after_at p Missed h = p
after_at p Dialling (Did d) = then_lines (connects p.client d) p.ahead
after_at p Dialling (Gave e) = p
after_at p Dialling Failed = missed p
after_at p (Sending f fs within) (Did d) = then_lines (tried p.client fs within (was_lost d)) p.ahead
after_at p (Sending f fs within) (Gave e) = p
after_at p (Sending f fs within) Failed = p
after_at p (Asking t) (Gave e) = then_lines (given p.client (asked t) e) p.ahead
after_at p (Asking t) (Did d) = p
after_at p (Asking t) Failed = missed p

abbrev pub after : Scripted → Happening → Scripted
after p h = after_at p p.waits h

-- what may happen next

abbrev pub IsDial : Deed → Type 0
IsDial (Dialled k) = ⊤
IsDial (Sent k text lost) = ⊥
IsDial (Closed k code text lost) = ⊥

abbrev pub IsSent : Option ℕ → List ClientMsg → Deed → Type 0
IsSent None f d = ⊥
IsSent (Some k) f d = d ≡ Sent k (client_text f) (was_lost d)

abbrev pub MayHappen : Client → Waits → Happening → Type 0
MayHappen c Finished h = ⊥
MayHappen c Refused h = ⊥
MayHappen c Missed h = ⊥
MayHappen c Dialling (Did d) = IsDial d
MayHappen c Dialling (Gave e) = ⊥
MayHappen c Dialling Failed = ⊤
MayHappen c (Sending f fs within) (Did d) = IsSent c.present f d
MayHappen c (Sending f fs within) (Gave e) = ⊥
MayHappen c (Sending f fs within) Failed = ⊥
MayHappen c (Asking t) (Gave e) = ⊤
MayHappen c (Asking t) (Did d) = ⊥
MayHappen c (Asking t) Failed = ⊤

-- what happens on the hub is what the script asks for; so is each first part of it
abbrev pub Plays : Scripted → List Happening → Type 0
Plays p [] = ⊤
Plays p (h ∷ hs) = MayHappen p.client p.waits h × Plays (after p h) hs

abbrev pub played : Scripted → List Happening → Scripted
played p [] = p
played p (h ∷ hs) = played (after p h) hs

-- what is written in all once nothing is due, and the status

abbrev pub fault_lines : Waits → List (List ℕ)
fault_lines Missed = codes "hub fault" ∷ []
fault_lines Finished = []
fault_lines Refused = []
fault_lines Dialling = []
fault_lines (Sending f fs within) = []
fault_lines (Asking t) = []

abbrev pub report_lines : Scripted → List (List ℕ)
report_lines p = p.client.written ++ fault_lines p.waits

abbrev pub end_status : Waits → Option ℕ
end_status Finished = Some 0
end_status Refused = Some 10
end_status Missed = Some 8
end_status Dialling = None
end_status (Sending f fs within) = None
end_status (Asking t) = None
