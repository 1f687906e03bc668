-- Samples: what the definitions say of cases that a reader can follow.
use Rattle.std.specs.Prelude.{◌≡◌, ◌++◌, ◌+◌, ℕ, pos, true, false, List, [], ◌∷◌, map, length, take as front, codes}
use Rattle.std.specs.Prelude.{Option, Some, None, Ok, Err}
use Rattle.std.specs.FinMap.{entries, insert, remove}
use Rattle.room_json.specs.Value.{Value, whole, list, members, no_values, value, no_fields, field}
use Rattle.room_json.specs.declared.tree.Json.{Json}
use Rattle.room_json.specs.declared.tree.Json.TheVariants.{Int}
use Rattle.room_ids.specs.declared.ids.NodeId.{NodeId}
use Rattle.room_ids.specs.declared.ids.NodeId.TheVariants.{Root}
use Rattle.room_nodes.specs.declared.nodes.Kind.TheVariants.{Object, List as Listed, Map, Register}
use Rattle.room_nodes.specs.declared.nodes.Op.{Op}
use Rattle.room_nodes.specs.declared.nodes.Body.{Body}
use Rattle.room_nodes.specs.declared.nodes.Body.TheVariants.{SetKey, Create, Update, Delete, DeleteKey}
use Rattle.room_nodes.specs.declared.nodes.Node.{Node}
use Rattle.room_nodes.specs.declared.nodes.Change.{Change}
use Rattle.room_nodes.specs.Shape.{Nodes, empty_tree, next_of}
use Rattle.room_nodes.specs.Steps.{is_other, settle_all}
use Rattle.room_ids.specs.Position.{between}
use Rattle.room_msg.specs.declared.messages.ClientMsg.{ClientMsg}
use Rattle.room_msg.specs.declared.messages.Hello.{Hello}
use Rattle.room_msg.specs.declared.messages.ClientMsg.TheVariants as client
use Rattle.room_msg.specs.declared.messages.ClientFrame.TheVariants.{Ping}
use Rattle.room_msg.specs.declared.messages.ServerMsg.TheVariants as server
use Rattle.room_msg.specs.declared.reason.Reason.TheVariants as reason
use Rattle.room_log.specs.Log.{State, Entry, Updated, Update as TakenUpdate, op_of, ops_of, updated}
use Rattle.room_log.specs.Taking.{Nothing, Gap, Takes, take}
use Rattle.room_model.specs.Init.{Init, Plain, AnObject, AMap, AList, no_parts, part, no_inits, init, creates, made_id}
use Rattle.room_model.specs.Edits.{Clocks, Edit, NoNode, WrongKind, Push, target, make_at, make_of, inserted_key}
use Rattle.room_model.specs.Edits.{moved_key}
use Rattle.room_nodes.specs.Reversal.{creation, key_restored, old_fields, old_update, gone_or}
use Rattle.room_model.specs.History.{empty_history, note, pause, resume, undone, undo_count, redo_count, undo_entry}
use Rattle.room_model.specs.Notices.{Fields as FieldsOf, Take as TakeOf, Move, Key, apply_all}
use Rattle.room_model.specs.Receive.{told_by, other_parts}
use Rattle.room_model.specs.Access.{Read}
use Rattle.room_model.specs.Server.{Server, Link, Outbound, Closed, Pong, Message, left_to, shut, frame_at, messages}
use Rattle.room_model.specs.Server.{greet, session_frame, owned, permitted, taken, act_all, commit, parts_of, resumed}
use Rattle.room_model.specs.Server.{without_actor, with_session}
use Rattle.room_model.specs.World.{World, Host, Running, Stopped, Fuse, answer, compact, start}
use Rattle.room_model.specs.Lines.{How, Old, New, Torn}

abbrev pub number : ℕ → Value
number n = whole (pos n)

abbrev pub one : Value
one = number 1

abbrev pub two : Value
two = number 2

-- a state whose only session has the last clock 1
abbrev pub told_one : Nodes → State
told_one t = record { count = 1; sessions = record { key = 1; last = 1; name = [] } ∷ []; tree = t }

abbrev pub deletes : ℕ → Op
deletes c = op_of 1 c (Delete Root)

abbrev pub three_children : List (List ℕ × NodeId)
three_children = (codes "!", made_id 1 2) ∷ (codes "#", made_id 1 3) ∷ (codes "%", made_id 1 4) ∷ []

abbrev pub no_key_told : State
no_key_told = record { count = 0; sessions = record { key = 0; last = 0; name = [] } ∷ []; tree = empty_tree }

-- a server whose limits are met by one session and one update
abbrev pub full_sessions : Server → Server
full_sessions v = record v { state = told_one empty_tree; limits = record { updates = 9; sessions = 1 } }

abbrev pub full_room : Server → Server
full_room v = record v { state = told_one empty_tree; limits = record { updates = 1; sessions = 9 } }

abbrev pub reads_only : Link → Link
reads_only l = record l { decision = Some (record { level = Read; row = Some 1 }) }

abbrev pub titled : Node → Node
titled n = record n { kind = Object ((codes "title", one) ∷ []) }

-- a connection of a session that has fetched, and one without a session
abbrev pub of_session : ℕ → Link
of_session a = record { key = a; actor = Some a; fetched = true; decision = None }

abbrev pub bare_link : Link
bare_link = record { key = 5; actor = None; fetched = false; decision = None }

-- each send by its number: that of the message, or the code of the close
abbrev pub number_of : Outbound → ℕ
number_of Pong = 0
number_of (Closed code text) = code
number_of (Message (server.Presence a target patch)) = 100
number_of (Message (server.Joined a)) = 101
number_of (Message (server.Left a)) = 102
number_of (Message (server.Broadcast a e)) = 103
number_of (Message (server.RoomState a key users)) = 104
number_of (Message (server.State seq last items more)) = 200
number_of (Message (server.Update seq os)) = 201

abbrev pub numbered : ℕ × Outbound → ℕ × ℕ
numbered o = (o.0, number_of o.1)

-- a world whose server stops at its call of the disk of that number
abbrev pub armed : World → How → ℕ → World
armed w how n = record w { fuse = Some (record { left = n; how = how }) }

-- what a commit of the update u leaves, and what it puts into the log
abbrev pub left_by_commit : World → Server → ℕ → TakenUpdate → How → ℕ → Host × List Entry
left_by_commit w v k u how n =
    let out = answer (armed w how n) v k (commit v u) in
    (out.world.host, out.entries)

abbrev pub left_by_compaction : World → Server → How → ℕ → Host × Option Fuse
left_by_compaction w v how n =
    let out = compact (armed w how n) (Running v) in
    (out.host, out.fuse)

-- what a start leaves and reports, of a state with 9 updates and no session
abbrev pub nine : State
nine = record { count = 9; sessions = []; tree = empty_tree }

abbrev pub reported_by_start : World → How → ℕ → List (List ℕ)
reported_by_start w how n = (start (armed w how n) (Stopped nine)).lines

pub record Samples : Type 0 where
  -- a position is taken where another child has it; the next child's position, and the one between
  pub free_place : is_other (made_id 2 1) None ≡ false
  pub own_place : is_other (made_id 1 2) (Some (made_id 1 2)) ≡ false
  pub taken_place : is_other (made_id 2 1) (Some (made_id 1 2)) ≡ true
  pub next_place : next_of (Some (codes "!")) three_children ≡ Some (codes "#", made_id 1 3)
  pub no_next_place : next_of (Some (codes "%")) three_children ≡ None
  pub settled_between : between (codes "!") (Some (codes "#")) ≡ codes "\""
  -- what takes an operation back: an old position, the fields that were there, the removal of a new key, a node with
  -- its old id
  pub back_move : (n : Node) → key_restored (made_id 1 2) (Some (record n { key = codes "!" }))
      ≡ SetKey (made_id 1 2) (codes "!") ∷ []
  pub back_fields : (n : Node) → old_update Root
      (old_fields (Some (titled n)) ((codes "other", two) ∷ (codes "title", two) ∷ []))
      ≡ Update Root ((codes "title", one) ∷ []) ∷ []
  pub back_new_key : gone_or Root (codes "other") None [] ≡ DeleteKey Root (codes "other") ∷ []
  pub back_node : creation (made_id 1 2) (Some
      (record { parent = made_id 1 1; key = codes "!"; depth = 2; kind = Register (Int (pos 1)) }))
      ≡ Create (made_id 1 2) (made_id 1 1) (codes "!") None (Register (Int (pos 1))) ∷ []
  -- a live list of two numbers is three creates, its items at the first position and the one after it
  pub list_made : creates 1 1 Root (codes "l") None (AList (init (Plain one) (init (Plain two) no_inits)))
      ≡ Create (made_id 1 1) Root (codes "l") None Listed
      ∷ Create (made_id 1 2) (made_id 1 1) (codes "!") None (Register (Int (pos 1)))
      ∷ Create (made_id 1 3) (made_id 1 1) (codes "\"") None (Register (Int (pos 2))) ∷ []
  -- an object keeps its plain members as fields; a map's plain member is a register
  pub object_made : creates 1 4 Root (codes "o") None
      (AnObject (part (codes "a") (Plain one) (part (codes "m")
      (AMap (part (codes "k") (Plain two) no_parts)) no_parts)))
      ≡ Create (made_id 1 4) Root (codes "o") None (Object ((codes "a", one) ∷ []))
      ∷ Create (made_id 1 5) (made_id 1 4) (codes "m") None Map
      ∷ Create (made_id 1 6) (made_id 1 5) (codes "k") None (Register (Int (pos 2))) ∷ []
  -- where an item is inserted in an empty list, first, in the middle and last; where it moves to
  pub insert_empty : inserted_key [] 0 ≡ codes "!"
  pub insert_first : inserted_key three_children 0 ≡ codes " ~"
  pub insert_second : inserted_key three_children 1 ≡ codes "\""
  pub insert_last : inserted_key three_children 3 ≡ codes "&"
  pub move_last : moved_key three_children 0 2 ≡ codes "&"
  pub move_first : moved_key three_children 2 0 ≡ codes " ~"
  -- an edit of no node, and one of a node of another kind
  pub no_node : (t : Nodes) (c : Clocks) (e : Edit) → make_at t c e None ≡ Err (NoNode (target e))
  pub wrong_kind : (t : Nodes) (c : Clocks) (x : NodeId) (i : Init) (n : Node)
      → make_of t c (Push x i) (record n { kind = Map }) ≡ Err (WrongKind x)
  -- after the clock 1: a gap, what is old, and old operations between new ones
  pub gap : (t : Nodes) → take (told_one t) 1 (deletes 3 ∷ []) ≡ Gap 2 3
  pub old : (t : Nodes) → take (told_one t) 1 (deletes 1 ∷ []) ≡ Nothing
  pub old_between : (t : Nodes) → take (told_one t) 1 (deletes 2 ∷ deletes 1 ∷ deletes 3 ∷ [])
      ≡ Takes (record { actor = 1; first = 2; bodies = settle_all t (Delete Root ∷ Delete Root ∷ []) })
  pub twice : (t : Nodes) → take (told_one t) 1 (deletes 2 ∷ deletes 2 ∷ []) ≡ Gap 3 2
  -- three entries of a pause go back as one
  pub paused : (a b : Change) → undo_entry (resume (note (b ∷ []) (note (a ∷ []) (pause empty_history))))
      ≡ Some (b ∷ a ∷ [])
  pub counts : (a b : Change) → undo_count (undone (b ∷ []) (note (a ∷ []) empty_history)) ≡ 0
  pub redo_counts : (a b : Change) → redo_count (undone (b ∷ []) (note (a ∷ []) empty_history)) ≡ 1
  pub cleared : (a b c : Change) → redo_count (note (c ∷ []) (undone (b ∷ []) (note (a ∷ []) empty_history))) ≡ 0
  -- notices on a view
  pub sets : apply_all (FieldsOf [] ((codes "title", number 7) ∷ []) [] ∷ []) (members no_fields)
      ≡ (members (field (codes "title") (number 7) no_fields), true)
  pub unsets : apply_all (FieldsOf [] [] (codes "title" ∷ []) ∷ [])
      (members (field (codes "title") (number 7) no_fields)) ≡ (members no_fields, true)
  pub moves : apply_all (Move (Key (codes "l") ∷ []) 1 0 ∷ [])
      (members (field (codes "l") (list (value one (value two no_values))) no_fields))
      ≡ (members (field (codes "l") (list (value two (value one no_values))) no_fields), true)
  pub not_there : apply_all (TakeOf [] 2 ∷ []) (list (value one no_values)) ≡ (list (value one no_values), false)
  -- own clocks that run on, one that doesn't, and one that wasn't issued
  pub told : (b : Body) → told_by 1 2 1 (op_of 2 9 b ∷ op_of 1 2 b ∷ []) ≡ Ok 2
  pub told_gap : (b : Body) → told_by 1 5 1 (op_of 1 3 b ∷ []) ≡ Err (1, 3)
  pub told_early : (b : Body) → told_by 1 1 1 (op_of 1 2 b ∷ []) ≡ Err (1, 2)
  pub other_state : other_parts (record { seq = 4; last = 0; items = [] } ∷ []) 5 0 ≡ Some (4, 5)
  -- the closes of a frame
  pub pings : (v : Server) (k : ℕ) (l : Link) → (frame_at v k l (Ok Ping)).outs ≡ (k, Pong) ∷ []
  pub bad : (v : Server) (k : ℕ) (l : Link) → (frame_at v k l (Err reason.Json)).outs
      ≡ (k, Closed 4400 (codes "bad frame json")) ∷ left_to v.links k l.actor
  pub bad_field : (v : Server) (k : ℕ) (l : Link)
      → (frame_at v k l (Err (reason.Field (codes "ops")))).outs ≡ (k, Closed 4400 (codes "bad frame field ops"))
      ∷ left_to v.links k l.actor
  pub no_hello : (v : Server) (k : ℕ) (l : Link)
      → (messages v k l [] None).outs ≡ (k, Closed 4400 (codes "bad frame hello")) ∷ left_to v.links k l.actor
  pub fetches : (v : Server) (k a : ℕ) (l : Link)
      → session_frame v k l a (client.Fetch ∷ []) ≡ owned v k l a (client.Fetch ∷ []) None
  pub foreign : (v : Server) (k : ℕ) (l : Link) (ms : List ClientMsg)
      → (owned v k l 1 ms (Some 2)).outs ≡ (k, Closed 4404 (codes "foreign actor expected 1 got 2"))
      ∷ left_to v.links k l.actor
  pub gapped : (v : Server) (k : ℕ) (l : Link) (ms : List ClientMsg)
      → (taken v k l 1 ms (Gap 2 3)).outs ≡ (k, Closed 4402 (codes "clock gap expected 2 got 3"))
      ∷ left_to v.links k l.actor
  pub not_its_key : (v : Server) (k : ℕ) (l : Link) (h : Hello)
      → greet (record v { state = told_one empty_tree }) k l h (Some (record { key = 2; actor = 1 }))
      ≡ shut (record v { state = told_one empty_tree }) k l 4401 (codes "bad resume")
  pub no_key : (v : Server) (k : ℕ) (l : Link) (h : Hello)
      → greet (record v { state = no_key_told }) k l h (Some (record { key = 0; actor = 1 }))
      ≡ shut (record v { state = no_key_told }) k l 4401 (codes "bad resume")
  pub sessions_full : (v : Server) (k : ℕ) (l : Link) (h : Hello)
      → greet (full_sessions v) k l h None ≡ shut (full_sessions v) k l 4406 (codes "sessions full 1")
  pub room_full : (v : Server) (k : ℕ) (l : Link) (ms : List ClientMsg) (u : TakenUpdate)
      → taken (full_room v) k l 1 ms (Takes u) ≡ shut (full_room v) k l 4406 (codes "room full 1")
  pub may_not : (v : Server) (k : ℕ) (l : Link) (os : List Op)
      → permitted v k (reads_only l) 1 (client.Update os ∷ [])
      ≡ shut v k (reads_only l) 4403 (codes "may not write row 1")
  -- a session that goes on elsewhere: its old connection is closed, then it is welcomed, then the others are told
  pub goes_on : (v : Server) → entries v.links ≡ (3, of_session 1) ∷ (5, bare_link) ∷ (6, of_session 2) ∷ []
      → entries (remove (insert (without_actor v.links 1) 5 (with_session bare_link 1 None)) 5) ≡ (6, of_session 2) ∷ []
      → map numbered (resumed v 5 bare_link (record { actor = 1; key = 3 }) None).outs ≡ (3, 4408) ∷ (5, 104) ∷ (6, 101)
      ∷ []
  pub elsewhere : (v : Server) → entries v.links ≡ (3, of_session 1) ∷ []
      → front 1 (resumed v 5 bare_link (record { actor = 1; key = 3 }) None).outs
      ≡ (3, Closed 4408 (codes "resumed elsewhere")) ∷ []
  -- the one update of a frame is done at the place of the first list of operations, an empty one too
  pub before_the_event : (v : Server) (u : TakenUpdate) (e : Json) (os : List Op)
      → entries v.links ≡ (1, of_session 1) ∷ (2, of_session 2) ∷ []
      → entries (remove v.links 1) ≡ (2, of_session 2) ∷ []
      → (act_all v 1 1 (Some u) (client.Update [] ∷ client.Broadcast e ∷ client.Update os ∷ [])).outs
      ≡ (1, Message (server.Update (v.state.count + 1) (ops_of u)))
      ∷ (2, Message (server.Update (v.state.count + 1) (ops_of u)))
      ∷ (2, Message (server.Broadcast 1 e)) ∷ []
  -- a state of 1,000 items goes in one part, and one of 1,001 in two
  pub one_part : (vs : List Value) → length vs ≡ 1000 → parts_of vs ≡ (vs, false) ∷ []
  pub two_parts : (vs : List Value) (v : Value) → length vs ≡ 1000
      → parts_of (vs ++ v ∷ []) ≡ (vs, true) ∷ (v ∷ [], false) ∷ []
  -- a fuse fires at each of the four calls of a commit: the entry stays from the third on, where what was written is
  -- left
  pub commit_old : (w : World) (v : Server) (k : ℕ) (u : TakenUpdate)
      → map (left_by_commit w v k u Old) (1 ∷ 2 ∷ 3 ∷ 4 ∷ [])
      ≡ (Stopped v.state, []) ∷ (Stopped v.state, []) ∷ (Stopped v.state, []) ∷ (Stopped v.state, []) ∷ []
  pub commit_new : (w : World) (v : Server) (k : ℕ) (u : TakenUpdate)
      → map (left_by_commit w v k u New) (1 ∷ 2 ∷ 3 ∷ 4 ∷ [])
      ≡ (Stopped v.state, []) ∷ (Stopped v.state, []) ∷ (Stopped (updated v.state u), Updated u ∷ [])
      ∷ (Stopped (updated v.state u), Updated u ∷ []) ∷ []
  pub commit_torn : (w : World) (v : Server) (k : ℕ) (u : TakenUpdate)
      → map (left_by_commit w v k u Torn) (1 ∷ 2 ∷ 3 ∷ 4 ∷ [])
      ≡ (Stopped v.state, []) ∷ (Stopped v.state, []) ∷ (Stopped (updated v.state u), Updated u ∷ [])
      ∷ (Stopped (updated v.state u), Updated u ∷ []) ∷ []
  pub commit_done : (w : World) (v : Server) (k : ℕ) (u : TakenUpdate) (how : How)
      → left_by_commit w v k u how 5 ≡ (Running (record v { state = updated v.state u }), Updated u ∷ [])
  -- at each of the six of a compaction, which leaves the state
  pub compaction : (w : World) (v : Server) (how : How) → map (left_by_compaction w v how) (1 ∷ 2 ∷ 3 ∷ 4 ∷ 5 ∷ 6 ∷ [])
      ≡ (Stopped v.state, None) ∷ (Stopped v.state, None) ∷ (Stopped v.state, None) ∷ (Stopped v.state, None)
      ∷ (Stopped v.state, None) ∷ (Stopped v.state, None) ∷ []
  pub compaction_done : (w : World) (v : Server) (how : How) → w.host ≡ Running v
      → left_by_compaction w v how 7 ≡ (Running v, Some (record { left = 1; how = how }))
  -- at each of the two of a start
  pub starts : (w : World) (how : How) → map (reported_by_start w how) (1 ∷ 2 ∷ 3 ∷ [])
      ≡ (codes "start failed" ∷ []) ∷ (codes "start failed" ∷ []) ∷ (codes "start n 9 sessions 0" ∷ []) ∷ []
