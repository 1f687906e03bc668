-- Lines of a schedule, and the lines of the report.
use Rattle.std.specs.Prelude.{ℕ, Bool, List, [], ◌∷◌, ◌++◌, length, codes, decimal, Option, Some, None}
use Rattle.std.specs.FinMap.{len}
use Rattle.room_json.specs.Value.{Value, members, fields_of, text_of}
use Rattle.room_json.specs.View.{json_of}
use Rattle.room_json.specs.declared.tree.Json.{Json}
use Rattle.room_ids.specs.Ids.{node_text}
use Rattle.room_nodes.specs.Shape.{Nodes}
use Rattle.room_items.specs.View.{view}
use Rattle.room_model.specs.Edits.{Edit, EditFault, NotLoaded, NoNode, WrongKind, BadIndex, ValueTooDeep, NodeTooDeep}
use Rattle.room_model.specs.Edits.{PosTooLong, ClocksSpent, BatchTooLarge}
use Rattle.room_model.specs.History.{undo_count, redo_count}
use Rattle.room_model.specs.Presence.{others_value}
use Rattle.room_model.specs.Notices.{Notice, notices_value}
use Rattle.room_model.specs.Account.{Account, shown, unacknowledged}
use Rattle.room_model.specs.Calls.{BatchFault, InBatch, NoBatch, UndoFault, UndoInBatch, UndoClocksSpent}
use Rattle.room_model.specs.Calls.{UndoBatchTooLarge, UndoTooLarge, SayFault, NotConnected, ValueTooDeep as SayTooDeep}
use Rattle.room_model.specs.Calls.{TooLarge}
use Rattle.room_model.specs.Receive.{FrameFault, BadServerFrame, Unexpected, NotATree, Gap, AccountFault, Parts}
use Rattle.room_model.specs.Server.{reason_text}
use Rattle.room_log.specs.Log.{State}

-- what a stop within a disk write leaves of what was not synced: nothing, all, or all with other bytes
pub data How : Type 0 where
  Old : How
  New : How
  Torn : How

-- what the user of a client calls
pub data Call : Type 0 where
  Dial : Call
  Edits : Edit → Call
  Begin : Call
  End : Call
  Undo : Call
  Redo : Call
  Pause : Call
  Resume : Call
  Clear : Call
  Presence : (patch : List (List ℕ × Value)) → (in_history : Bool) → Call
  Event : Json → Call
  Flush : Call
  Resend : Call
  Cut : Call

-- what is asked of a client, which changes nothing
pub data Question : Type 0 where
  Show : Question
  Brief : Question
  ShowOthers : Question
  ShowHistory : Question
  ShowNotices : Question

-- what happens on a connection: the server receives the next frame (up), the client or the link receives the next one
-- (down), the server notices that the connection is gone, and a text is sent on a link
pub data Traffic : Type 0 where
  Up : Traffic
  Down : Traffic
  Gone : Traffic
  Raw : (text : List ℕ) → Traffic

-- what happens to the server, and what is asked of it
pub data Service : Type 0 where
  Stop : Service
  Start : Service
  Fuse : (calls : ℕ) → How → Service
  Compact : Service
  Limit : (updates : ℕ) → (sessions : ℕ) → Service
  ShowServer : Service
  BriefServer : Service

-- a line of a schedule; `Link` opens a connection without a client
pub data Line : Type 0 where
  OfClient : (client : ℕ) → Call → Line
  AsksClient : (client : ℕ) → Question → Line
  OfConnection : (conn : ℕ) → Traffic → Line
  OfServer : Service → Line
  Drain : ℕ → Line
  Link : Line

-- words, with one space between them
abbrev pub words : List (List ℕ) → List ℕ
words [] = []
words (w ∷ []) = w
words (w ∷ v ∷ ws) = w ++ 32 ∷ words (v ∷ ws)

-- refused calls: a name and its values

abbrev pub edit_fault_words : EditFault → List (List ℕ)
edit_fault_words NotLoaded = codes "NotLoaded" ∷ []
edit_fault_words (NoNode x) = codes "NoNode" ∷ node_text x ∷ []
edit_fault_words (WrongKind x) = codes "WrongKind" ∷ node_text x ∷ []
edit_fault_words (BadIndex i n) = codes "BadIndex" ∷ decimal i ∷ decimal n ∷ []
edit_fault_words (ValueTooDeep d) = codes "ValueTooDeep" ∷ decimal d ∷ []
edit_fault_words (NodeTooDeep d) = codes "NodeTooDeep" ∷ decimal d ∷ []
edit_fault_words (PosTooLong n) = codes "PosTooLong" ∷ decimal n ∷ []
edit_fault_words (ClocksSpent c) = codes "ClocksSpent" ∷ decimal c ∷ []
edit_fault_words (BatchTooLarge b) = codes "BatchTooLarge" ∷ decimal b ∷ []

abbrev pub batch_fault_words : BatchFault → List (List ℕ)
batch_fault_words InBatch = codes "InBatch" ∷ []
batch_fault_words NoBatch = codes "NoBatch" ∷ []

abbrev pub undo_fault_words : UndoFault → List (List ℕ)
undo_fault_words UndoInBatch = codes "InBatch" ∷ []
undo_fault_words (UndoClocksSpent c) = codes "ClocksSpent" ∷ decimal c ∷ []
undo_fault_words (UndoBatchTooLarge b) = codes "BatchTooLarge" ∷ decimal b ∷ []
undo_fault_words (UndoTooLarge b) = codes "TooLarge" ∷ decimal b ∷ []

abbrev pub say_fault_words : SayFault → List (List ℕ)
say_fault_words NotConnected = codes "NotConnected" ∷ []
say_fault_words (SayTooDeep d) = codes "ValueTooDeep" ∷ decimal d ∷ []
say_fault_words (TooLarge b) = codes "TooLarge" ∷ decimal b ∷ []

abbrev pub frame_fault_words : FrameFault → List (List ℕ)
frame_fault_words (BadServerFrame r) = codes "BadServerFrame" ∷ reason_text r ∷ []
frame_fault_words (Unexpected k) = codes "Unexpected" ∷ decimal k ∷ []
frame_fault_words NotATree = codes "NotATree" ∷ []
frame_fault_words (Gap expected got) = codes "Gap" ∷ decimal expected ∷ decimal got ∷ []
frame_fault_words (AccountFault kept got) = codes "Account" ∷ decimal kept ∷ decimal got ∷ []
frame_fault_words (Parts kept got) = codes "Parts" ∷ decimal kept ∷ decimal got ∷ []

-- of the call in that line of the schedule
abbrev pub refused_line : ℕ → List (List ℕ) → List ℕ
refused_line line ws = words (codes "refused" ∷ decimal line ∷ ws)

-- an undo or a redo without an entry
abbrev pub nothing_line : ℕ → List ℕ
nothing_line line = words (codes "nothing" ∷ decimal line ∷ [])

-- Of a client: its mark, the updates that it took, its batches that aren't acknowledged, and the tree that it shows.
-- The mark of a client is its number in a schedule; a script has one client, whose lines have no mark.

abbrev pub mark_words : Option ℕ → List (List ℕ)
mark_words None = []
mark_words (Some c) = decimal c ∷ []

abbrev pub marked : List ℕ → Option ℕ → List (List ℕ) → List ℕ
marked name mark ws = words (name ∷ (mark_words mark ++ ws))

abbrev pub object_text : List (List ℕ × Value) → List ℕ
object_text fs = text_of (members (fields_of fs))

abbrev pub tree_text : Nodes → List ℕ
tree_text t = text_of (view t)

abbrev pub loaded_line : Option ℕ → Account → List (List ℕ) → List ℕ
loaded_line mark x ws =
    marked (codes "client") mark
    (codes "n" ∷ decimal x.n ∷ codes "pending" ∷ decimal (unacknowledged x) ∷ ws)

abbrev pub not_loaded_line : Option ℕ → List ℕ
not_loaded_line mark = marked (codes "client") mark (codes "not" ∷ codes "loaded" ∷ [])

abbrev pub show_at : Option ℕ → Account → Option Nodes → List ℕ
show_at mark x None = not_loaded_line mark
show_at mark x (Some t) = loaded_line mark x (tree_text t ∷ [])

abbrev pub show_line : Option ℕ → Account → List ℕ
show_line mark x = show_at mark x (shown x)

abbrev pub brief_at : Option ℕ → Account → Option Nodes → List ℕ
brief_at mark x None = not_loaded_line mark
brief_at mark x (Some t) = loaded_line mark x (codes "nodes" ∷ decimal (len t) ∷ [])

abbrev pub brief_line : Option ℕ → Account → List ℕ
brief_line mark x = brief_at mark x (shown x)

abbrev pub others_line : Option ℕ → Account → List ℕ
others_line mark x = marked (codes "others") mark (object_text x.me ∷ text_of (others_value x.others) ∷ [])

abbrev pub history_line : Option ℕ → Account → List ℕ
history_line mark x =
    marked (codes "history") mark
    (codes "undo" ∷ decimal (undo_count x.history) ∷ codes "redo" ∷ decimal (redo_count x.history) ∷ [])

abbrev pub notices_line : Option ℕ → List Notice → List ℕ
notices_line mark ns = marked (codes "notices") mark (text_of (notices_value ns) ∷ [])

abbrev pub event_line : Option ℕ → ℕ × Json → List ℕ
event_line mark e = marked (codes "event") mark (decimal e.0 ∷ text_of (json_of e.1) ∷ [])

abbrev pub event_lines : Option ℕ → List (ℕ × Json) → List (List ℕ)
event_lines mark [] = []
event_lines mark (e ∷ es) = event_line mark e ∷ event_lines mark es

-- what a client answers to a question, with the last notices that it was told
abbrev pub answer_line : Option ℕ → Account → List Notice → Question → List ℕ
answer_line mark x ns Show = show_line mark x
answer_line mark x ns Brief = brief_line mark x
answer_line mark x ns ShowOthers = others_line mark x
answer_line mark x ns ShowHistory = history_line mark x
answer_line mark x ns ShowNotices = notices_line mark ns

-- of a connection

abbrev pub got_line : ℕ → List ℕ → List ℕ
got_line k text = words (codes "got" ∷ decimal k ∷ text ∷ [])

abbrev pub closed_line : ℕ → ℕ → List ℕ → List ℕ
closed_line k code text = words (codes "closed" ∷ decimal k ∷ decimal code ∷ text ∷ [])

-- of the server

abbrev pub server_line : State → List ℕ
server_line s = words (codes "server" ∷ codes "n" ∷ decimal s.count ∷ tree_text s.tree ∷ [])

abbrev pub server_brief_line : State → List ℕ
server_brief_line s =
    words (codes "server" ∷ codes "n" ∷ decimal s.count ∷ codes "nodes" ∷ decimal (len s.tree)
    ∷ codes "sessions" ∷ decimal (length s.sessions) ∷ [])

abbrev pub server_stopped_line : List ℕ
server_stopped_line = words (codes "server" ∷ codes "stopped" ∷ [])

abbrev pub start_line : State → List ℕ
start_line s = words (codes "start" ∷ codes "n" ∷ decimal s.count ∷ codes "sessions" ∷ decimal (length s.sessions) ∷ [])

abbrev pub start_failed_line : List ℕ
start_failed_line = words (codes "start" ∷ codes "failed" ∷ [])
