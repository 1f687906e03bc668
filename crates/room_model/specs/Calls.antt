-- The calls of a client's user, and what each does to the account.
--
-- Each call is an entry of its own, with its tests in this order:
--   `edit`                      there is a tree; the tests of `make`; the size of the batch's frame
--   `batch_begin`, `batch_end`  whether a batch is open
--   `go_back` (undo, redo)      no batch is open; there is an entry; its clocks are left; the size of the batch's
--   frame,
--                               then that of the presence
--   `presence`                  the depth of its values, then its size
--   `event`                     the connection, the depth, the size
-- `flushed` and `resent` stand with the frames that they send.
use Rattle.std.specs.Prelude.{ℕ, ◌+◌, Bool, true, false, ◌&&◌, not, if◌then◌else◌, nat_lt, List, [], ◌∷◌, ◌++◌, map}
use Rattle.std.specs.Prelude.{length, Option, Some, None, Result, Ok, Err}
use Rattle.room_json.specs.Value.{Value, depth, merged}
use Rattle.room_json.specs.View.{json_of}
use Rattle.room_json.specs.declared.tree.Json.{Json}
use Rattle.room_nodes.specs.declared.nodes.Body.{Body}
use Rattle.room_nodes.specs.declared.nodes.Change.{Change}
use Rattle.room_nodes.specs.declared.nodes.Change.TheVariants.{Op as OpChange, Presence as PresenceChange}
use Rattle.room_nodes.specs.Shape.{Nodes, empty_tree}
use Rattle.room_nodes.specs.Steps.{step}
use Rattle.room_msg.specs.declared.messages.ClientMsg.{ClientMsg}
use Rattle.room_msg.specs.declared.messages.ClientMsg.TheVariants as client
use Rattle.room_log.specs.Log.{ops_from, bodies_of}
use Rattle.room_model.specs.Edits.{Edit, EditFault, NotLoaded, BatchTooLarge, Made, make, spent, fields_most}
use Rattle.room_nodes.specs.Reversal.{reverse, reverse_all}
use Rattle.room_model.specs.History.{History, note, pause as pause_history, resume as resume_history}
use Rattle.room_model.specs.History.{clear as clear_history, undo_entry, redo_entry, undone, redone}
use Rattle.room_model.specs.Presence.{nobody, with_names, kept_names, unsent_members, back_of}
use Rattle.room_model.specs.Notices.{Notice, notices_of_all}
use Rattle.room_model.specs.Account.{Account, Batch, OpenBatch, Idle, Dialled, actor, issued, last_issued, open_ops}
use Rattle.room_model.specs.Account.{shown, clocks, is_on, is_synced, is_some_list, keys_in, frame_of, frame_of_ops}
use Rattle.room_model.specs.Account.{frame_of_patch, frame_of_full_to, frame_of_event, size_of, most_bytes}

-- the connection

-- the connection is lost: queued events, kept parts and what is shown of the others go, all else stays
abbrev pub lost : Account → Account
lost x = record x { stage = Idle; sent = []; fresh = issued x; parts = []; others = nobody; events = [] }

-- a hello, that resumes the session once it is known
abbrev pub hello_of : Account → List ClientMsg
hello_of x = client.Hello (record { room = x.room; resume = x.session; name = None; «pass» = None }) ∷ []

abbrev pub dialled : Account → Account
dialled x = record (lost x) { stage = Dialled }

-- edits

-- the account after a call, the batches that it issued (at most one), and what changed in the view
pub record Done : Type 0 where
  pub account : Account
  pub issues : List Batch
  pub notices : List Notice

abbrev pub op_change : Body → Change
op_change b = OpChange b

abbrev pub changes_back : Nodes → List Body → List Change
changes_back t bs = map op_change (reverse_all t bs)

-- a batch of these bodies is issued
abbrev pub batch_of : Account → List Body → Batch
batch_of x bs = record { first = last_issued x + 1; bodies = bs }

abbrev pub issues_of : Account → List Body → List Batch
issues_of x [] = []
issues_of x (b ∷ bs) = batch_of x (b ∷ bs) ∷ []

-- outside a batch an edit that makes operations is a batch of its own, and an entry of the history; within one its
-- operations and changes go to the open batch
abbrev pub edited_in : Account → Nodes → Made → List Body → Option OpenBatch → Account
edited_in x t m bs (Some o) = record x {
  batch = Some (record { bodies = o.bodies ++ bs; changes = changes_back t bs ++ o.changes; keys = o.keys });
  node = m.next.node;
}
edited_in x t m [] None = x
edited_in x t m (b ∷ bs) None = record x {
  fresh = x.fresh ++ batch_of x (b ∷ bs) ∷ [];
  history = note (changes_back t (b ∷ bs)) x.history;
  node = m.next.node;
}

abbrev pub edit_issues : Account → List Body → Option OpenBatch → List Batch
edit_issues x bs (Some o) = []
edit_issues x bs None = issues_of x bs

abbrev pub edited : Account → Nodes → Made → Done
edited x t m = record {
  account = edited_in x t m (bodies_of m.ops) x.batch;
  issues = edit_issues x (bodies_of m.ops) x.batch;
  notices = notices_of_all t (bodies_of m.ops);
}

-- the frame of the batch with these operations has at most 1,048,576 bytes
abbrev pub edit_sized : Account → Nodes → Made → ℕ → Result Done EditFault
edit_sized x t m size = if nat_lt most_bytes size then Err (BatchTooLarge size) else Ok (edited x t m)

abbrev pub edit_made : Account → Nodes → Result Made EditFault → Result Done EditFault
edit_made x t (Err fault) = Err fault
edit_made x t (Ok m) = edit_sized x t m (size_of (frame_of_ops (open_ops x ++ m.ops)))

abbrev pub edit_on : Account → Edit → Option Nodes → Result Done EditFault
edit_on x e None = Err NotLoaded
edit_on x e (Some t) = edit_made x t (make t (clocks x) e)

abbrev pub edit : Account → Edit → Result Done EditFault
edit x e = edit_on x e (shown x)

-- batches

pub data BatchFault : Type 0 where
  InBatch : BatchFault
  NoBatch : BatchFault

abbrev pub begin_at : Account → Option OpenBatch → Result Account BatchFault
begin_at x (Some o) = Err InBatch
begin_at x None = Ok (record x { batch = Some (record { bodies = []; changes = []; keys = [] }) })

abbrev pub batch_begin : Account → Result Account BatchFault
batch_begin x = begin_at x x.batch

-- a batch that holds no operation isn't issued; what goes back is noted
abbrev pub closed : Account → OpenBatch → Done
closed x o = record {
  account = record x { batch = None; fresh = x.fresh ++ issues_of x o.bodies; history = note o.changes x.history };
  issues = issues_of x o.bodies;
  notices = [];
}

abbrev pub end_at : Account → Option OpenBatch → Result Done BatchFault
end_at x None = Err NoBatch
end_at x (Some o) = Ok (closed x o)

abbrev pub batch_end : Account → Result Done BatchFault
batch_end x = end_at x x.batch

-- history

pub data UndoFault : Type 0 where
  UndoInBatch : UndoFault
  UndoClocksSpent : ℕ → UndoFault
  UndoBatchTooLarge : ℕ → UndoFault
  UndoTooLarge : ℕ → UndoFault

abbrev pub entry_bodies : List Change → List Body
entry_bodies [] = []
entry_bodies (OpChange b ∷ cs) = b ∷ entry_bodies cs
entry_bodies (PresenceChange p ∷ cs) = entry_bodies cs

-- the presence after its patches, in order
abbrev pub entry_presence : List (List ℕ × Value) → List Change → List (List ℕ × Value)
entry_presence me [] = me
entry_presence me (OpChange b ∷ cs) = entry_presence me cs
entry_presence me (PresenceChange p ∷ cs) = entry_presence (merged me p) cs

abbrev pub entry_names : List (List ℕ) → List Change → List (List ℕ)
entry_names ns [] = ns
entry_names ns (OpChange b ∷ cs) = entry_names ns cs
entry_names ns (PresenceChange p ∷ cs) = entry_names (with_names ns p) cs

-- the reversal of each change, on the tree and the presence before it, in front of those before it
abbrev pub entry_reversal : Nodes → List (List ℕ × Value) → List Change → List Change
entry_reversal t me [] = []
entry_reversal t me (OpChange b ∷ cs) = entry_reversal (step t b) me cs ++ map op_change (reverse t b)
entry_reversal t me (PresenceChange p ∷ cs) = entry_reversal t (merged me p) cs ++ PresenceChange (back_of me p) ∷ []

-- an entry that holds operations was made on a tree, so the bare tree stands in where there is none
abbrev pub tree_or_bare : Option Nodes → Nodes
tree_or_bare None = empty_tree
tree_or_bare (Some t) = t

-- which way an entry goes
pub data Direction : Type 0 where
  Undo : Direction
  Redo : Direction

abbrev pub entry_of : Direction → History → Option (List Change)
entry_of Undo h = undo_entry h
entry_of Redo h = redo_entry h

abbrev pub gone : Direction → List Change → History → History
gone Undo reversal h = undone reversal h
gone Redo reversal h = redone reversal h

-- its operations as one batch with new clocks, and its patches; the reversal goes on the other list
abbrev pub went_back : Direction → Account → List Change → Done
went_back way x entry =
    let t = tree_or_bare (shown x) in
    let bs = entry_bodies entry in
    record {
      account = record x {
        fresh = x.fresh ++ issues_of x bs;
        me = entry_presence x.me entry;
        unsent = entry_names x.unsent entry;
        history = gone way (entry_reversal t x.me entry) x.history;
      };
      issues = issues_of x bs;
      notices = notices_of_all t bs;
    }

-- the whole presence, as it is sent to one other
abbrev pub presence_size : List (List ℕ × Value) → ℕ
presence_size me = size_of (frame_of_full_to 4294967295 me)

abbrev pub back_presence : Direction → Account → List Change → ℕ → Result (Option Done) UndoFault
back_presence way x entry size =
    if nat_lt most_bytes size then Err (UndoTooLarge size) else Ok (Some (went_back way x entry))

abbrev pub back_sized : Direction → Account → List Change → List Body → ℕ → Result (Option Done) UndoFault
back_sized way x entry bs size =
    if is_some_list bs && nat_lt most_bytes size then Err (UndoBatchTooLarge size)
    else back_presence way x entry (presence_size (entry_presence x.me entry))

abbrev pub back_clocked : Direction → Account → List Change → List Body → Option ℕ → Result (Option Done) UndoFault
back_clocked way x entry bs (Some last) = Err (UndoClocksSpent last)
back_clocked way x entry bs None =
    back_sized way x entry bs (size_of (frame_of_ops (ops_from (actor x) (last_issued x + 1) bs)))

abbrev pub back_entry : Direction → Account → Option (List Change) → Result (Option Done) UndoFault
back_entry way x None = Ok None
back_entry way x (Some entry) =
    back_clocked way x entry (entry_bodies entry) (spent (last_issued x + 1) (length (entry_bodies entry)))

abbrev pub back_at : Direction → Account → Option OpenBatch → Result (Option Done) UndoFault
back_at way x (Some o) = Err UndoInBatch
back_at way x None = back_entry way x (entry_of way x.history)

-- None where there is no entry: nothing changes
abbrev pub go_back : Direction → Account → Result (Option Done) UndoFault
go_back way x = back_at way x x.batch

abbrev pub pause : Account → Account
pause x = record x { history = pause_history x.history }

abbrev pub resume : Account → Account
resume x = record x { history = resume_history x.history }

abbrev pub clear : Account → Account
clear x = record x { history = clear_history x.history }

-- presence and events

pub data SayFault : Type 0 where
  NotConnected : SayFault
  ValueTooDeep : ℕ → SayFault
  TooLarge : ℕ → SayFault

-- a patch of an open batch is held back until its end; what goes back has the old values, null for what wasn't there

abbrev pub open_patched : List Change → List (List ℕ × Value) → Option OpenBatch → Option OpenBatch
open_patched back patch None = None
open_patched back patch (Some o) =
    Some (record { bodies = o.bodies; changes = back ++ o.changes; keys = with_names o.keys patch })

abbrev pub noted_alone : List Change → History → Option OpenBatch → History
noted_alone back h None = note back h
noted_alone back h (Some o) = h

abbrev pub back_noted : Account → List (List ℕ × Value) → Bool → List Change
back_noted x patch true = PresenceChange (back_of x.me patch) ∷ []
back_noted x patch false = []

abbrev pub patched_me : Account → List (List ℕ × Value) → List Change → Account
patched_me x patch back = record x {
  me = merged x.me patch;
  unsent = with_names x.unsent patch;
  batch = open_patched back patch x.batch;
  history = noted_alone back x.history x.batch;
}

abbrev pub presence_sized : Account → List (List ℕ × Value) → Bool → ℕ → Result Account SayFault
presence_sized x patch in_history size =
    if nat_lt most_bytes size then Err (TooLarge size) else Ok (patched_me x patch (back_noted x patch in_history))

abbrev pub presence : Account → List (List ℕ × Value) → Bool → Result Account SayFault
presence x patch in_history =
    if nat_lt 50 (fields_most patch) then Err (ValueTooDeep (fields_most patch))
    else presence_sized x patch in_history (presence_size (merged x.me patch))

abbrev pub event_sized : Account → Json → ℕ → Result Account SayFault
event_sized x e size =
    if nat_lt most_bytes size then Err (TooLarge size) else Ok (record x { events = x.events ++ e ∷ [] })

abbrev pub event : Account → Json → Result Account SayFault
event x e =
    if not (is_on x.stage) then Err NotConnected else (
    if nat_lt 50 (depth (json_of e)) then Err (ValueTooDeep (depth (json_of e)))
    else event_sized x e (size_of (frame_of_event e)))

-- sending

abbrev pub patch_frames : List (List ℕ × Value) → List (List ClientMsg)
patch_frames [] = []
patch_frames (f ∷ fs) = frame_of_patch (f ∷ fs) ∷ []

abbrev pub held : Account → List (List ℕ)
held x = keys_in x.batch

-- once it is told its session: one patch with the unsent keys that no open batch holds back, if there are any, a frame
-- for each queued event, and, when it is synced, one for each closed batch that wasn't sent on this connection
abbrev pub flush_frames : Account → List (List ClientMsg)
flush_frames x =
    if not (is_on x.stage) then [] else
    patch_frames (unsent_members x.unsent (held x) x.me) ++ map frame_of_event x.events
    ++ (if is_synced x.stage then map (frame_of (actor x)) x.fresh else [])

abbrev pub flushed : Account → Account
flushed x =
    if not (is_on x.stage) then x else
    record x {
      unsent = kept_names x.unsent (held x);
      events = [];
      sent = (if is_synced x.stage then issued x else x.sent);
      fresh = (if is_synced x.stage then [] else x.fresh);
    }

-- all closed batches beyond `told`, once more
abbrev pub resend_frames : Account → List (List ClientMsg)
resend_frames x = if is_synced x.stage then map (frame_of (actor x)) (issued x) else []

abbrev pub resent : Account → Account
resent x = if is_synced x.stage then record x { sent = issued x; fresh = [] } else x
