-- A step of the server: what it answers a frame, and what it takes into the log.
--
-- The entry is `serve`, a frame of a connection. Its tests stand in this order; the first that fails closes:
--   `frame_at`       a ping is answered; the text is a frame
--   `messages`       without a session there is just a hello (`hello`), to this room; then the session that it resumes
--   is
--                    there with that key, or there are fewer sessions than the limit (`greet`); then its level is to
--                    read
--                    (`admit`)
--   `session_frame`  no message is a hello
--   `owned`          no operation is of another actor
--   `permitted`      no message needs a higher level
--   `taken`          the clocks have no gap; then there are fewer updates than the limit
-- What passes acts message by message (`act_all`). A connection is new by `opened`, and ends by `gone`.
use Rattle.std.specs.Prelude.{ℕ, zero, suc, ◌+◌, ◌==◌, ℤ, pos, negsuc, Bool, true, false, ◌&&◌, ◌||◌, not}
use Rattle.std.specs.Prelude.{if◌then◌else◌, nat_le, is_some, List, [], ◌∷◌, ◌++◌, length, take as front, drop, codes}
use Rattle.std.specs.Prelude.{decimal, Option, Some, None, Result, Ok, Err}
use Rattle.std.specs.Ordering.{nat_cmp}
use Rattle.std.specs.Str.{bytes_eq}
use Rattle.std.specs.FinMap.{FinMap, get, insert, remove, retain_keys, entries, from_entries}
use Rattle.room_json.specs.Value.{Value}
use Rattle.room_nodes.specs.declared.nodes.Op.{Op}
use Rattle.room_items.specs.Items.{items_of}
use Rattle.room_msg.specs.declared.messages.Resume.{Resume}
use Rattle.room_msg.specs.declared.messages.Hello.{Hello}
use Rattle.room_msg.specs.declared.messages.ClientMsg.{ClientMsg}
use Rattle.room_msg.specs.declared.messages.ClientMsg.TheVariants as client
use Rattle.room_msg.specs.declared.messages.ClientFrame.{ClientFrame}
use Rattle.room_msg.specs.declared.messages.ClientFrame.TheVariants.{Ping, Msgs}
use Rattle.room_msg.specs.declared.messages.ServerMsg.{ServerMsg}
use Rattle.room_msg.specs.declared.messages.ServerMsg.TheVariants as server
use Rattle.room_msg.specs.declared.reason.Reason.{Reason}
use Rattle.room_msg.specs.declared.reason.Reason.TheVariants as reason
use Rattle.room_log.specs.Log.{Session, State, Update, Entry, Join, Updated, actor_of, ops_of, session_of, last_of}
use Rattle.room_log.specs.Log.{name_in, joined, updated}
use Rattle.room_log.specs.Taking.{Taken, Nothing, Gap, Takes, take}
use Rattle.room_model.specs.Access.{Access, Decision, decide, group_of, barred, refusal_text}

-- what is outbound on a connection: a message, the answer to a ping, or a close with its code and text
pub data Outbound : Type 0 where
  Pong : Outbound
  Message : ServerMsg → Outbound
  Closed : (code : ℕ) → (text : List ℕ) → Outbound

-- what is inbound: what was read of a frame
abbrev pub Inbound : Type 0
Inbound = Result ClientFrame Reason

-- an attached connection; its actor once it has a session, and what was decided at its hello where access was asked for
pub record Link : Type 0 where
  pub key : ℕ
  pub actor : Option ℕ
  pub fetched : Bool
  pub decision : Option Decision

pub record Limits : Type 0 where
  pub updates : ℕ
  pub sessions : ℕ

pub record Server : Type 0 where
  pub state : State
  pub room : List ℕ
  pub limits : Limits
  pub access : Option Access
  pub links : FinMap nat_cmp Link

-- a step's outcome: the server, sends and closes in order, and at most one entry
pub record Served : Type 0 where
  pub server : Server
  pub outs : List (ℕ × Outbound)
  pub entry : Option Entry

abbrev pub served : Server → List (ℕ × Outbound) → Served
served v outs = record { server = v; outs = outs; entry = None }

abbrev pub nothing : Server → Served
nothing v = served v []

abbrev pub with_links : Server → FinMap nat_cmp Link → Server
with_links v ls = record v { links = ls }

-- sends to several connections go in rising order

abbrev pub to_each : (Link → Bool) → Outbound → List (ℕ × Link) → List (ℕ × Outbound)
to_each p m [] = []
to_each p m (e ∷ es) = if p e.1 then (e.0, m) ∷ to_each p m es else to_each p m es

abbrev pub has_session : Link → Bool
has_session l = is_some l.actor

abbrev pub has_fetched : Link → Bool
has_fetched l = l.fetched

abbrev pub is_actor : ℕ → Option ℕ → Bool
is_actor a None = false
is_actor a (Some b) = b == a

abbrev pub holds : ℕ → Link → Bool
holds a l = is_actor a l.actor

-- to the attached connections with a session but this one
abbrev pub to_others : FinMap nat_cmp Link → ℕ → ServerMsg → List (ℕ × Outbound)
to_others ls k m = to_each has_session (Message m) (entries (remove ls k))

-- leaving

abbrev pub left_to : FinMap nat_cmp Link → ℕ → Option ℕ → List (ℕ × Outbound)
left_to ls k None = []
left_to ls k (Some a) = to_others ls k (server.Left a)

-- a close detaches the connection; if it had a session, the others are told after it
abbrev pub shut : Server → ℕ → Link → ℕ → List ℕ → Served
shut v k l code text = served (with_links v (remove v.links k)) ((k, Closed code text) ∷ left_to v.links k l.actor)

abbrev pub gone_at : Server → ℕ → Option Link → Served
gone_at v k None = nothing v
gone_at v k (Some l) = served (with_links v (remove v.links k)) (left_to v.links k l.actor)

-- the connection is gone
abbrev pub gone : Server → ℕ → Served
gone v k = gone_at v k (get v.links k)

-- a new connection, with its key
abbrev pub opened_at : Server → ℕ → ℕ → Option Link → Server
opened_at v k key None =
    with_links v (insert v.links k (record { key = key; actor = None; fetched = false; decision = None }))
opened_at v k key (Some l) = v

abbrev pub opened : Server → ℕ → ℕ → Server
opened v k key = opened_at v k key (get v.links k)

-- the texts of closes

abbrev pub reason_text : Reason → List ℕ
reason_text reason.Size = codes "size"
reason_text reason.Json = codes "json"
reason_text reason.Depth = codes "depth"
reason_text reason.Number = codes "number"
reason_text reason.List = codes "list"
reason_text reason.Kind = codes "type"
reason_text (reason.Field name) = codes "field " ++ name
reason_text reason.Hello = codes "hello"
reason_text reason.Room = codes "room"

abbrev pub bad_frame : Server → ℕ → Link → Reason → Served
bad_frame v k l r = shut v k l 4400 (codes "bad frame " ++ reason_text r)

abbrev pub expected_got : List ℕ → ℕ → ℕ → List ℕ
expected_got what expected got = what ++ codes " expected " ++ decimal expected ++ codes " got " ++ decimal got

-- a hello

abbrev pub user_at : List Session → Option ℕ → List (ℕ × List ℕ)
user_at ss None = []
user_at ss (Some a) = (a, name_in (session_of ss a)) ∷ []

abbrev pub users_among : List Session → List (ℕ × Link) → List (ℕ × List ℕ)
users_among ss [] = []
users_among ss (e ∷ es) = user_at ss (e.1).actor ++ users_among ss es

-- the actors of these connections with their names, in rising order of the actors
abbrev pub users_of : List Session → FinMap nat_cmp Link → List (ℕ × List ℕ)
users_of ss ls = entries (from_entries {R = nat_cmp} (users_among ss (entries ls)))

-- the session a, which the others are told of; `before` goes first
abbrev pub welcome : Server → ℕ → ℕ → ℕ → List (ℕ × Outbound) → Option Entry → Served
welcome v k a key before entry = record {
  server = v;
  outs =
      before ++ (k, Message (server.RoomState a key (users_of v.state.sessions (remove v.links k))))
      ∷ to_others v.links k (server.Joined a);
  entry = entry;
}

abbrev pub name_of : Option (List ℕ) → List ℕ
name_of None = []
name_of (Some name) = name

abbrev pub with_session : Link → ℕ → Option Decision → Link
with_session l a decision = record { key = l.key; actor = Some a; fetched = false; decision = decision }

-- a new session, of the next actor, with the connection's key and the name that it gives
abbrev pub join : Server → ℕ → Link → Hello → Option Decision → Served
join v k l h decision =
    let a = suc (length v.state.sessions) in
    welcome
    (record v { state = joined v.state l.key (name_of h.name); links = insert v.links k (with_session l a decision) })
    k a l.key [] (Some (Join a l.key (name_of h.name)))

abbrev pub elsewhere : Outbound
elsewhere = Closed 4408 (codes "resumed elsewhere")

abbrev pub not_held_by : ℕ → Option Link → Bool
not_held_by a None = true
not_held_by a (Some l) = not (holds a l)

abbrev pub without_actor : FinMap nat_cmp Link → ℕ → FinMap nat_cmp Link
without_actor ls a = retain_keys ls (λ j. not_held_by a (get ls j))

-- a session goes on: another connection that holds it is closed, and the others aren't told that it left
abbrev pub resumed : Server → ℕ → Link → Resume → Option Decision → Served
resumed v k l r decision =
    welcome
    (with_links v (insert (without_actor v.links r.actor) k (with_session l r.actor decision)))
    k r.actor r.key (to_each (holds r.actor) elsewhere (entries v.links)) None

-- what is decided of a hello, where access is asked for
abbrev pub decision_of : Server → Hello → Option Access → Option Decision
decision_of v h None = None
decision_of v h (Some access) = Some (decide access.policy v.room (group_of access h.«pass»))

abbrev pub admitted : Server → ℕ → Link → Hello → Option Resume → Option Decision → Served
admitted v k l h None decision = join v k l h decision
admitted v k l h (Some r) decision = resumed v k l r decision

abbrev pub admit_unless : Server → ℕ → Link → Hello → Option Decision → Option Decision → Served
admit_unless v k l h decision None = admitted v k l h h.resume decision
admit_unless v k l h decision (Some bar) = shut v k l 4403 (refusal_text bar)

-- a hello needs the level to read
abbrev pub admit : Server → ℕ → Link → Hello → Option Decision → Served
admit v k l h decision = admit_unless v k l h decision (barred decision (client.Hello h ∷ []))

-- a session with that actor and key; the key 0 is nobody's to resume

abbrev pub has_key : ℕ → Option Session → Bool
has_key key None = false
has_key key (Some s) = (s.key == key) && not (key == 0)

abbrev pub greet : Server → ℕ → Link → Hello → Option Resume → Served
greet v k l h (Some r) =
    if has_key r.key (session_of v.state.sessions r.actor)
    then admit v k l h (decision_of v h v.access)
    else shut v k l 4401 (codes "bad resume")
greet v k l h None =
    if nat_le v.limits.sessions (length v.state.sessions)
    then shut v k l 4406 (codes "sessions full " ++ decimal (length v.state.sessions))
    else admit v k l h (decision_of v h v.access)

abbrev pub hello : Server → ℕ → Link → Option Hello → Served
hello v k l None = bad_frame v k l reason.Hello
hello v k l (Some h) = if bytes_eq h.room v.room then greet v k l h h.resume else bad_frame v k l reason.Room

-- just one hello, and nothing else
abbrev pub only_hello : List ClientMsg → Option Hello
only_hello (client.Hello h ∷ []) = Some h
only_hello ms = None

-- the messages of a session

abbrev pub is_hello : ClientMsg → Bool
is_hello (client.Hello h) = true
is_hello (client.Presence target patch) = false
is_hello (client.Broadcast e) = false
is_hello client.Fetch = false
is_hello (client.Update os) = false

abbrev pub has_hello : List ClientMsg → Bool
has_hello [] = false
has_hello (m ∷ ms) = is_hello m || has_hello ms

abbrev pub ops_in : ClientMsg → List Op
ops_in (client.Hello h) = []
ops_in (client.Presence target patch) = []
ops_in (client.Broadcast e) = []
ops_in client.Fetch = []
ops_in (client.Update os) = os

-- all operations of a frame, in order
abbrev pub all_ops_in : List ClientMsg → List Op
all_ops_in [] = []
all_ops_in (m ∷ ms) = ops_in m ++ all_ops_in ms

abbrev pub foreign_in : ℕ → List Op → Option ℕ
foreign_in a [] = None
foreign_in a (o ∷ os) = if actor_of o == a then foreign_in a os else Some (actor_of o)

-- an update is committed, and goes to every attached connection that has fetched
abbrev pub commit : Server → Update → Served
commit v u = record {
  server = record v { state = updated v.state u };
  outs = to_each has_fetched (Message (server.Update (v.state.count + 1) (ops_of u))) (entries v.links);
  entry = Some (Updated u);
}

-- a state goes in parts of 1,000 items, the last with the rest

abbrev pub parts_within : ℕ → List Value → List (List Value × Bool)
parts_within zero vs = (vs, false) ∷ []
parts_within (suc n) vs =
    if nat_le (length vs) 1000 then (vs, false) ∷ [] else (front 1000 vs, true) ∷ parts_within n (drop 1000 vs)

abbrev pub parts_of : List Value → List (List Value × Bool)
parts_of vs = parts_within (length vs) vs

abbrev pub part_sends : ℕ → ℕ → ℕ → List (List Value × Bool) → List (ℕ × Outbound)
part_sends k seq last [] = []
part_sends k seq last (p ∷ ps) = (k, Message (server.State seq last p.0 p.1)) ∷ part_sends k seq last ps

abbrev pub fetched_at : Server → ℕ → Option Link → Server
fetched_at v k None = v
fetched_at v k (Some l) = with_links v (insert v.links k (record l { fetched = true }))

abbrev pub fetch : Server → ℕ → ℕ → Served
fetch v k a = served (fetched_at v k (get v.links k))
    (part_sends k v.state.count (last_of v.state.sessions a) (parts_of (items_of v.state.tree)))

-- a presence goes to the others, or, full, to the connection of one actor, if it is attached
abbrev pub presence_sends : Server → ℕ → ℕ → Option ℤ → List (List ℕ × Value) → List (ℕ × Outbound)
presence_sends v k a None patch = to_others v.links k (server.Presence a None patch)
presence_sends v k a (Some (negsuc n)) patch = to_others v.links k (server.Presence a (Some (negsuc n)) patch)
presence_sends v k a (Some (pos b)) patch =
    to_each (holds b) (Message (server.Presence a (Some (pos b)) patch)) (entries v.links)

-- the messages of a frame act in order; all its operations make one update, done at the place of the first that holds
-- operations of any number

abbrev pub or_entry : Option Entry → Option Entry → Option Entry
or_entry None e = e
or_entry (Some d) e = Some d

abbrev pub then_served : Served → Served → Served
then_served before out = record {
  server = out.server;
  outs = before.outs ++ out.outs;
  entry = or_entry before.entry out.entry;
}

abbrev pub update_acts : Server → Option Update → Served
update_acts v None = nothing v
update_acts v (Some u) = commit v u

abbrev pub acts : Server → ℕ → ℕ → Option Update → ClientMsg → Served
acts v k a waits (client.Hello h) = nothing v
acts v k a waits (client.Presence target patch) = served v (presence_sends v k a target patch)
acts v k a waits (client.Broadcast e) = served v (to_others v.links k (server.Broadcast a e))
acts v k a waits client.Fetch = fetch v k a
acts v k a waits (client.Update os) = update_acts v waits

-- the update that still waits after a message
abbrev pub waits_after : Option Update → ClientMsg → Option Update
waits_after waits (client.Hello h) = waits
waits_after waits (client.Presence target patch) = waits
waits_after waits (client.Broadcast e) = waits
waits_after waits client.Fetch = waits
waits_after waits (client.Update os) = None

abbrev pub act_all : Server → ℕ → ℕ → Option Update → List ClientMsg → Served
act_all v k a waits [] = nothing v
act_all v k a waits (m ∷ ms) =
    let out = acts v k a waits m in
    then_served out (act_all out.server k a (waits_after waits m) ms)

-- the tests of a session's frame, after those of its text, in their order

abbrev pub taken : Server → ℕ → Link → ℕ → List ClientMsg → Taken → Served
taken v k l a ms Nothing = act_all v k a None ms
taken v k l a ms (Gap expected got) = shut v k l 4402 (expected_got (codes "clock gap") expected got)
taken v k l a ms (Takes u) =
    if nat_le v.limits.updates v.state.count
    then shut v k l 4406 (codes "room full " ++ decimal v.state.count)
    else act_all v k a (Some u) ms

abbrev pub permitted_unless : Server → ℕ → Link → ℕ → List ClientMsg → Option Decision → Served
permitted_unless v k l a ms None = taken v k l a ms (take v.state a (all_ops_in ms))
permitted_unless v k l a ms (Some bar) = shut v k l 4403 (refusal_text bar)

abbrev pub permitted : Server → ℕ → Link → ℕ → List ClientMsg → Served
permitted v k l a ms = permitted_unless v k l a ms (barred l.decision ms)

abbrev pub owned : Server → ℕ → Link → ℕ → List ClientMsg → Option ℕ → Served
owned v k l a ms (Some got) = shut v k l 4404 (expected_got (codes "foreign actor") a got)
owned v k l a ms None = permitted v k l a ms

abbrev pub session_frame : Server → ℕ → Link → ℕ → List ClientMsg → Served
session_frame v k l a ms =
    if has_hello ms then bad_frame v k l reason.Hello else owned v k l a ms (foreign_in a (all_ops_in ms))

abbrev pub messages : Server → ℕ → Link → List ClientMsg → Option ℕ → Served
messages v k l ms None = hello v k l (only_hello ms)
messages v k l ms (Some a) = session_frame v k l a ms

abbrev pub frame_at : Server → ℕ → Link → Inbound → Served
frame_at v k l (Err r) = bad_frame v k l r
frame_at v k l (Ok Ping) = served v ((k, Pong) ∷ [])
frame_at v k l (Ok (Msgs ms)) = messages v k l ms l.actor

-- a frame of a connection that isn't attached is passed over
abbrev pub serve_from : Server → ℕ → Inbound → Option Link → Served
serve_from v k inbound None = nothing v
serve_from v k inbound (Some l) = frame_at v k l inbound

abbrev pub serve : Server → ℕ → Inbound → Served
serve v k inbound = serve_from v k inbound (get v.links k)
