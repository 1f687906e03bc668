-- What a move asks for as a test, over plain values, and what the test says.
use Rattle.std.proofs.Common.{◌≡◌, ◌+◌, ◌-◌, ℕ, Bool, true, false, cond, not, ◌&&◌, List, [], ◌∷◌, ◌++◌, map, length, refl, ap, ◌∙◌}
use Rattle.std.specs.Prelude.{Option, Some, None, Result, Ok, Err, pos, is_some, nat_le, nat_lt}
use Rattle.std.specs.Str.{bytes_eq}
use Rattle.std.specs.FinMap.{get}
use Rattle.room_json.specs.Value.{Value, whole}
use Rattle.room_ids.specs.declared.ids.NodeId.TheVariants.{Root}
use Rattle.room_nodes.specs.Shape.{Nodes}
use Rattle.room_nodes.specs.declared.nodes.Node.{Node}
use Rattle.room_nodes.specs.declared.nodes.Op.{Op}
use Rattle.room_nodes.specs.declared.nodes.Body.{Body}
use Rattle.room_nodes.specs.declared.nodes.Body.TheVariants.{Update as UpdateOf}
use Rattle.room_items.specs.Items.{tree_in}
use Rattle.room_msg.specs.declared.messages.Resume.{Resume}
use Rattle.room_msg.specs.declared.messages.ClientMsg.{ClientMsg}
use Rattle.room_msg.specs.declared.messages.ClientMsg.TheVariants as client
use Rattle.room_msg.specs.declared.messages.ClientFrame.TheVariants.{Msgs, Ping}
use Rattle.room_msg.specs.declared.messages.ServerMsg.{ServerMsg}
use Rattle.room_msg.specs.declared.messages.ServerMsg.TheVariants as server
use Rattle.room_log.specs.Log.{State, session_of}
use Rattle.room_log.specs.Follows.{most}
use Rattle.room_log.specs.Taking.{Taken, Nothing, Gap, Takes, take}
use Rattle.room_model.specs.Account.{Account, OpenBatch, Part, clocks, frame_of_ops, is_on, most_bytes, open_ops, shown, size_of}
use Rattle.room_model.specs.Calls.{Done, UndoFault, batch_of, edit, edit_issues, edit_made, edit_on, edited, edited_in, op_change}
use Rattle.room_model.specs.History.{note}
use Rattle.room_model.specs.Notices.{notices_of_all}
use Rattle.room_nodes.specs.Reversal.{reverse_all}
use Rattle.room_model.specs.Edits as edits
use Rattle.room_model.specs.Edits.{Edit, Made, made}
use Rattle.room_model.specs.Init.{Plain}
use Rattle.room_model.specs.Receive as Receive
use Rattle.room_model.specs.Receive.{Received, FrameFault, receive}
use Rattle.room_model.specs.Server.{Outbound, Pong, Message, Closed, Inbound, Link, foreign_in, has_key}
use Rattle.room_model.specs.World.{Conn, room_name}
use Rattle.room_laws.specs.Invariant.{conn_in}
use Rattle.room_laws.proofs.RootTrees.{root_with}
use Rattle.room_laws.proofs.SceneUps

abbrev pub edit_of : List ℕ → ℕ → Edit
edit_of name n = edits.Set Root name (Plain (whole (pos n)))

-- what is next in a queue, and what is behind it

abbrev pub next_up : List Inbound → ClientMsg
next_up [] = client.Fetch
next_up (Err reason ∷ us) = client.Fetch
next_up (Ok Ping ∷ us) = client.Fetch
next_up (Ok (Msgs []) ∷ us) = client.Fetch
next_up (Ok (Msgs (m ∷ ms)) ∷ us) = m

abbrev pub next_down : List Outbound → ServerMsg
next_down [] = server.Left 0
next_down (Pong ∷ ms) = server.Left 0
next_down (Message m ∷ ms) = m
next_down (Closed code text ∷ ms) = server.Left 0

abbrev pub behind : {X : Type 0} → List X → List X
behind [] = []
behind (x ∷ xs) = xs

abbrev pub link_in : Option Link → Link
link_in None = record { key = 0; actor = None; fetched = false; decision = None }
link_in (Some l) = l

abbrev pub number_in : Option ℕ → ℕ
number_in None = 0
number_in (Some a) = a

abbrev pub got_in : Account → Result Received FrameFault → Received
got_in x (Err fault) = Receive.received x
got_in x (Ok out) = out

-- of a state that comes, with the tree that its items spell
abbrev pub loaded_of : Account → Nodes → ServerMsg → Received
loaded_of x t (server.Presence a target patch) = Receive.received x
loaded_of x t (server.Joined a) = Receive.received x
loaded_of x t (server.Left a) = Receive.received x
loaded_of x t (server.Broadcast a e) = Receive.received x
loaded_of x t (server.RoomState a key users) = Receive.received x
loaded_of x t (server.State seq last items more) = Receive.loaded x seq last t
loaded_of x t (server.Update seq os) = Receive.received x

-- tests, and what they say

abbrev pub is_none : {A : Type 0} → Option A → Bool
is_none o = not (is_some o)

abbrev pub is_empty : {A : Type 0} → List A → Bool
is_empty [] = true
is_empty (x ∷ xs) = false

abbrev pub is_one : List Inbound → Bool
is_one [] = false
is_one (Err reason ∷ us) = false
is_one (Ok Ping ∷ us) = false
is_one (Ok (Msgs []) ∷ us) = false
is_one (Ok (Msgs (m ∷ [])) ∷ us) = true
is_one (Ok (Msgs (m ∷ n ∷ ms)) ∷ us) = false

abbrev pub is_message : List Outbound → Bool
is_message [] = false
is_message (Pong ∷ ms) = false
is_message (Message m ∷ ms) = true
is_message (Closed code text ∷ ms) = false

abbrev pub is_ok : Result Received FrameFault → Bool
is_ok (Err fault) = false
is_ok (Ok out) = true

pub left : (a b : Bool) → (a && b) ≡ true → a ≡ true
left true b h = refl
left false b h = h

pub right : (a b : Bool) → (a && b) ≡ true → b ≡ true
right true b h = h
right false b h = cc

pub no_is : (b : Bool) → not b ≡ true → b ≡ false
no_is true h = cc
no_is false h = refl

pub none_is : {A : Type 0} (o : Option A) → is_none o ≡ true → o ≡ None
none_is None h = refl
none_is (Some x) h = cc

pub empty_is : {A : Type 0} (xs : List A) → is_empty xs ≡ true → xs ≡ []
empty_is [] h = refl
empty_is (x ∷ xs) h = cc

pub some_conn : (o : Option Conn) → is_some o ≡ true → o ≡ Some (conn_in o)
some_conn None h = cc
some_conn (Some q) h = refl

pub some_link : (o : Option Link) → is_some o ≡ true → o ≡ Some (link_in o)
some_link None h = cc
some_link (Some l) h = refl

pub some_number : (o : Option ℕ) → is_some o ≡ true → o ≡ Some (number_in o)
some_number None h = cc
some_number (Some n) h = refl

pub one_is : (us : List Inbound) → is_one us ≡ true → us ≡ Ok (Msgs (next_up us ∷ [])) ∷ behind us
one_is [] h = cc
one_is (Err reason ∷ us) h = cc
one_is (Ok Ping ∷ us) h = cc
one_is (Ok (Msgs []) ∷ us) h = cc
one_is (Ok (Msgs (m ∷ [])) ∷ us) h = refl
one_is (Ok (Msgs (m ∷ n ∷ ms)) ∷ us) h = cc

pub message_is : (ms : List Outbound) → is_message ms ≡ true → ms ≡ Message (next_down ms) ∷ behind ms
message_is [] h = cc
message_is (Pong ∷ ms) h = cc
message_is (Message m ∷ ms) h = refl
message_is (Closed code text ∷ ms) h = cc

pub ok_is : (x : Account) (r : Result Received FrameFault) → is_ok r ≡ true → r ≡ Ok (got_in x r)
ok_is x (Err fault) h = cc
ok_is x (Ok out) h = refl

-- what the server may be sent

abbrev pub enters_test : State → Option Resume → Bool
enters_test s None = not (nat_le 1000000 (length s.sessions))
enters_test s (Some r) = has_key r.key (session_of s.sessions r.actor)

pub enters_is : (s : State) (o : Option Resume) → enters_test s o ≡ true → SceneUps.MayEnter s o
enters_is s None h = no_is (nat_le 1000000 (length s.sessions)) h
enters_is s (Some r) h = h

-- a session's message, from a connection that everything is allowed to
abbrev pub acts_test : Link → Bool
acts_test l = is_some l.actor && is_none l.decision

pub acts_actor : (l : Link) → acts_test l ≡ true → l.actor ≡ Some (number_in l.actor)
acts_actor l h = some_number l.actor (left (is_some l.actor) (is_none l.decision) h)

pub acts_free : (l : Link) → acts_test l ≡ true → l.decision ≡ None
acts_free l h = none_is l.decision (right (is_some l.actor) (is_none l.decision) h)

abbrev pub hello_test : State → Link → List ℕ → Option Resume → Bool
hello_test s l room o = is_none l.actor && (bytes_eq room room_name && enters_test s o)

abbrev pub take_test : State → Taken → Bool
take_test s Nothing = true
take_test s (Gap expected got) = false
take_test s (Takes u) = not (nat_le 1000000000000 s.count)

pub take_is : (s : State) (t : Taken) → take_test s t ≡ true → SceneUps.MayTake s t
take_is s Nothing h = tt
take_is s (Gap expected got) h = cc
take_is s (Takes u) h = no_is (nat_le 1000000000000 s.count) h

abbrev pub ops_test : State → ℕ → List Op → Bool
ops_test s a os = is_none (foreign_in a (os ++ [])) && take_test s (take s a (os ++ []))

abbrev pub msg_test : State → Link → ClientMsg → Bool
msg_test s l (client.Hello h) = hello_test s l h.room h.resume
msg_test s l (client.Presence target patch) = acts_test l
msg_test s l (client.Broadcast e) = false
msg_test s l client.Fetch = false
msg_test s l (client.Update os) = acts_test l && ops_test s (number_in l.actor) os

abbrev pub fetch_test : Link → ClientMsg → Bool
fetch_test l (client.Hello h) = false
fetch_test l (client.Presence target patch) = false
fetch_test l (client.Broadcast e) = false
fetch_test l client.Fetch = acts_test l
fetch_test l (client.Update os) = false

pub msg_is : (s : State) (l : Link) (m : ClientMsg) → msg_test s l m ≡ true → SceneUps.MayAct s l (number_in l.actor) m
msg_is s l (client.Hello h) e =
    let rest = bytes_eq h.room room_name && enters_test s h.resume in
    let more : rest ≡ true = right (is_none l.actor) rest e in (
      none_is l.actor (left (is_none l.actor) rest e),
      left (bytes_eq h.room room_name) (enters_test s h.resume) more,
      enters_is s h.resume (right (bytes_eq h.room room_name) (enters_test s h.resume) more),
    )
msg_is s l (client.Presence target patch) e = (acts_actor l e, acts_free l e)
msg_is s l (client.Broadcast x) e = cc
msg_is s l client.Fetch e = cc
msg_is s l (client.Update os) e =
    let a = number_in l.actor in
    let rest = take_test s (take s a (os ++ [])) in
    let may : acts_test l ≡ true = left (acts_test l) (ops_test s a os) e in
    let more : ops_test s a os ≡ true = right (acts_test l) (ops_test s a os) e in (
      acts_actor l may,
      acts_free l may,
      none_is (foreign_in a (os ++ [])) (left (is_none (foreign_in a (os ++ []))) rest more),
      take_is s (take s a (os ++ [])) (right (is_none (foreign_in a (os ++ []))) rest more),
    )

pub fetch_is : (s : State) (l : Link) (m : ClientMsg) → fetch_test l m ≡ true → SceneUps.OnePart s → SceneUps.MayAct s l (number_in l.actor) m
fetch_is s l (client.Hello h) e o = cc
fetch_is s l (client.Presence target patch) e o = cc
fetch_is s l (client.Broadcast x) e o = cc
fetch_is s l client.Fetch e o = (acts_actor l e, acts_free l e, o)
fetch_is s l (client.Update os) e o = cc

-- a state that comes whole

abbrev pub items_in : ServerMsg → List Value
items_in (server.Presence a target patch) = []
items_in (server.Joined a) = []
items_in (server.Left a) = []
items_in (server.Broadcast a e) = []
items_in (server.RoomState a key users) = []
items_in (server.State seq last items more) = items
items_in (server.Update seq os) = []

abbrev pub load_test : Account → ServerMsg → Bool
load_test x (server.Presence a target patch) = false
load_test x (server.Joined a) = false
load_test x (server.Left a) = false
load_test x (server.Broadcast a e) = false
load_test x (server.RoomState a key users) = false
load_test x (server.State seq last items more) =
    not more && (is_on x.stage && (is_empty x.parts && is_none (Receive.state_fault x seq last)))
load_test x (server.Update seq os) = false

pub state_loads : (x : Account) (seq last : ℕ) (items : List Value) (more : Bool) (t : Nodes)
    → is_on x.stage ≡ true → more ≡ false → x.parts ≡ [] → Receive.state_fault x seq last ≡ None → tree_in items ≡ Some t
    → Receive.receive_state x seq last items more ≡ Ok (Receive.loaded x seq last t)
state_loads x seq last items more t on all none fits spells =
    ap (λ (b : Bool). cond (not b) (Err (Receive.Unexpected 200))
    (Receive.receive_part x seq last items more (Receive.other_parts x.parts seq last))) on
    ∙ ap (λ (b : Bool). Receive.receive_part x seq last items b (Receive.other_parts x.parts seq last)) all
    ∙ ap (λ (ps : List Part). Receive.receive_part x seq last items false (Receive.other_parts ps seq last)) none
    ∙ ap (λ (ps : List Part). Receive.load x seq last (tree_in (Receive.parts_items ps ++ items))) none
    ∙ ap (Receive.load x seq last) spells
    ∙ ap (Receive.load_at x seq last t) fits

pub load_is : (x : Account) (m : ServerMsg) (t : Nodes) → load_test x m ≡ true → tree_in (items_in m) ≡ Some t
    → receive x m ≡ Ok (loaded_of x t m)
load_is x (server.Presence a target patch) t h r = cc
load_is x (server.Joined a) t h r = cc
load_is x (server.Left a) t h r = cc
load_is x (server.Broadcast a e) t h r = cc
load_is x (server.RoomState a key users) t h r = cc
load_is x (server.State seq last items more) t h r =
    let some = is_empty x.parts && is_none (Receive.state_fault x seq last) in
    let rest : (is_on x.stage && some) ≡ true = right (not more) (is_on x.stage && some) h in
    let ends : some ≡ true = right (is_on x.stage) some rest in
    state_loads x seq last items more t
    (left (is_on x.stage) some rest) (no_is more (left (not more) (is_on x.stage && some) h))
    (empty_is x.parts (left (is_empty x.parts) (is_none (Receive.state_fault x seq last)) ends))
    (none_is (Receive.state_fault x seq last) (right (is_empty x.parts) (is_none (Receive.state_fault x seq last)) ends)) r
load_is x (server.Update seq os) t h r = cc

-- an edit of the root

abbrev pub body_of : List ℕ → ℕ → Body
body_of name n = UpdateOf Root ((name, whole (pos n)) ∷ [])

abbrev pub made_of : Account → List ℕ → ℕ → Made
made_of x name n = made (clocks x) 0 (body_of name n ∷ [])

-- on the tree t, outside a batch, where these operations take it back
abbrev pub done_of : Account → List ℕ → ℕ → Nodes → List Body → Done
done_of x name n t back = record {
  account = record x {
    fresh = x.fresh ++ batch_of x (body_of name n ∷ []) ∷ [];
    history = note (map op_change back) x.history;
    node = x.node + 0;
  };
  issues = batch_of x (body_of name n ∷ []) ∷ [];
  notices = notices_of_all t (body_of name n ∷ []);
}

pub edited_is : (x : Account) (name : List ℕ) (n : ℕ) (t : Nodes) (back : List Body) → x.batch ≡ None
    → reverse_all t (body_of name n ∷ []) ≡ back → edited x t (made_of x name n) ≡ done_of x name n t back
edited_is x name n t back alone is =
    ap (λ (o : Option OpenBatch). record {
      account = edited_in x t (made_of x name n) (body_of name n ∷ []) o;
      issues = edit_issues x (body_of name n ∷ []) o;
      notices = notices_of_all t (body_of name n ∷ []);
    }) alone
    ∙ ap (done_of x name n t) is

abbrev pub make_size : Account → List ℕ → ℕ → ℕ
make_size x name n = size_of (frame_of_ops (open_ops x ++ (made_of x name n).ops))

abbrev pub is_within : Account → Bool
is_within x = nat_le ((clocks x).op + 1 - 1) most

abbrev pub fits : Account → List ℕ → ℕ → Bool
fits x name n = not (nat_lt most_bytes (make_size x name n))

abbrev pub make_test : Account → List ℕ → ℕ → Bool
make_test x name n = is_none x.batch && (is_within x && fits x name n)

pub make_is : (x : Account) (name : List ℕ) (n : ℕ) (t : Nodes) (fs : List (List ℕ × Value)) (back : List Body) → make_test x name n ≡ true
    → shown x ≡ Some t → get t Root ≡ Some (root_with fs) → reverse_all t (body_of name n ∷ []) ≡ back
    → edit x (edit_of name n) ≡ Ok (done_of x name n t back)
make_is x name n t fs back h shows there is =
    let rest : (is_within x && fits x name n) ≡ true = right (is_none x.batch) (is_within x && fits x name n) h in
    ap (edit_on x (edit_of name n)) shows
    ∙ ap (λ (o : Option Node). edit_made x t (edits.make_at t (clocks x) (edit_of name n) o)) there
    ∙ ap (λ (b : Bool). edit_made x t (edits.clocked (clocks x) 0 (body_of name n ∷ []) None
    (cond b None (Some ((clocks x).op + 1 - 1))))) (left (is_within x) (fits x name n) rest)
    ∙ ap (λ (b : Bool). cond b (Err (edits.BatchTooLarge (make_size x name n))) (Ok (edited x t (made_of x name n))))
    (no_is (nat_lt most_bytes (make_size x name n)) (right (is_within x) (fits x name n) rest))
    ∙ ap Ok (edited_is x name n t back (none_is x.batch (left (is_none x.batch) (is_within x && fits x name n) h)) is)

-- an undo

abbrev pub is_done : Result (Option Done) UndoFault → Bool
is_done (Err fault) = false
is_done (Ok None) = false
is_done (Ok (Some out)) = true

abbrev pub undone_in : Account → Result (Option Done) UndoFault → Done
undone_in x (Err fault) = record { account = x; issues = []; notices = [] }
undone_in x (Ok None) = record { account = x; issues = []; notices = [] }
undone_in x (Ok (Some out)) = out

pub done_is : (x : Account) (r : Result (Option Done) UndoFault) → is_done r ≡ true → r ≡ Ok (Some (undone_in x r))
done_is x (Err fault) h = cc
done_is x (Ok None) h = cc
done_is x (Ok (Some out)) h = refl
