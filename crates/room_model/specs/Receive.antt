-- What a client does with a message, and with a frame.
--
-- The entry is `frame`, what was read of one: its messages are received one after the other (`receive`), up to the
-- first
-- refusal. The tests of each message in their order: the stage allows it (`Unexpected`); a part of a state belongs to
-- those kept (`Parts`), and with the last one the items are a tree (`NotATree`); an update has the next number (`Gap`);
-- what it says of the account agrees with what is kept (`AccountFault`).
use Rattle.std.specs.Prelude.{ℕ, ◌+◌, ◌==◌, ℤ, Bool, true, false, ◌&&◌, ◌||◌, not, if◌then◌else◌, nat_lt, nat_le, List}
use Rattle.std.specs.Prelude.{[], ◌∷◌, ◌++◌, map, Option, Some, None, Result, Ok, Err}
use Rattle.room_json.specs.Value.{Value}
use Rattle.room_json.specs.Fields.{and_then}
use Rattle.room_json.specs.declared.tree.Json.{Json}
use Rattle.room_nodes.specs.declared.nodes.Op.{Op}
use Rattle.room_nodes.specs.Shape.{Nodes}
use Rattle.room_nodes.specs.Steps.{fold}
use Rattle.room_nodes.specs.Cells.{is_apart}
use Rattle.room_items.specs.Items.{tree_in}
use Rattle.room_items.specs.View.{view}
use Rattle.room_msg.specs.declared.messages.Resume.{Resume}
use Rattle.room_msg.specs.declared.messages.ClientMsg.{ClientMsg}
use Rattle.room_msg.specs.declared.messages.ServerMsg.{ServerMsg}
use Rattle.room_msg.specs.declared.messages.ServerMsg.TheVariants as server
use Rattle.room_msg.specs.declared.messages.ServerFrame.{ServerFrame}
use Rattle.room_msg.specs.declared.messages.ServerFrame.TheVariants.{Pong, Msgs}
use Rattle.room_msg.specs.declared.reason.Reason.{Reason}
use Rattle.room_log.specs.Log.{actor_of, clock_of, bodies_of}
use Rattle.room_nodes.specs.Equal.{are_first}
use Rattle.room_model.specs.Presence.{nobody, other_full, other_patched, forgotten}
use Rattle.room_model.specs.Notices.{Notice, Reset, notices_of_all}
use Rattle.room_model.specs.Account.{Account, Part, Stage, Idle, Dialled, Connected, Synced, actor, issued, last_issued}
use Rattle.room_model.specs.Account.{beyond, pending, shown, is_on, is_some_list, frame_of, frame_of_full}
use Rattle.room_model.specs.Account.{frame_of_full_to, frame_of_fetch}
use Rattle.room_model.specs.Calls.{lost, tree_or_bare}

-- the account after what was taken, with the frames that answer it, the events that are handed out, and what changed
pub record Received : Type 0 where
  pub account : Account
  pub replies : List (List ClientMsg)
  pub events : List (ℕ × Json)
  pub notices : List Notice

pub data FrameFault : Type 0 where
  BadServerFrame : Reason → FrameFault
  Unexpected : ℕ → FrameFault
  NotATree : FrameFault
  Gap : (expected : ℕ) → (got : ℕ) → FrameFault
  AccountFault : (kept : ℕ) → (got : ℕ) → FrameFault
  Parts : (kept : ℕ) → (got : ℕ) → FrameFault

abbrev pub received : Account → Received
received x = record { account = x; replies = []; events = []; notices = [] }

abbrev pub replying : Account → List (List ClientMsg) → Received
replying x frames = record (received x) { replies = frames }

-- a message that is allowed only once the client is told its session
abbrev pub once_on : Account → ℕ → Received → Result Received FrameFault
once_on x kind out = if is_on x.stage then Ok out else Err (Unexpected kind)

-- 104, when dialled: the actor and the key are kept, the others are forgotten, and the replies are a full presence to
-- all and a fetch; then no key is unsent

abbrev pub welcomed : Account → ℕ → ℕ → Received
welcomed x a key = replying
    (record x {
      stage = Connected;
      session = Some (record { actor = a; key = key });
      sent = [];
      fresh = issued x;
      unsent = [];
      others = nobody;
    })
    (frame_of_full x.me ∷ frame_of_fetch ∷ [])

abbrev pub welcomed_as : Account → ℕ → ℕ → Option Resume → Result Received FrameFault
welcomed_as x a key None = Ok (welcomed x a key)
welcomed_as x a key (Some s) = if s.actor == a then Ok (welcomed x a key) else Err (AccountFault s.actor a)

abbrev pub receive_room : Account → ℕ → ℕ → Stage → Result Received FrameFault
receive_room x a key Dialled = welcomed_as x a key x.session
receive_room x a key Idle = Err (Unexpected 104)
receive_room x a key Connected = Err (Unexpected 104)
receive_room x a key Synced = Err (Unexpected 104)

-- 100: with a target a full presence, else a patch

abbrev pub presence_taken : Account → ℕ → Option ℤ → List (List ℕ × Value) → Account
presence_taken x a None patch = record x { others = other_patched x.others a patch }
presence_taken x a (Some target) patch = record x { others = other_full x.others a patch }

-- 101: that actor is forgotten, and gets a full presence; 102: it is forgotten

abbrev pub forgets : Account → ℕ → Account
forgets x a = record x { others = forgotten x.others a }

-- 200: parts with `more` are kept; with the last part the confirmed tree, n and `told` are replaced, and the replies
-- are the frames of all batches beyond `told`

-- where the part belongs to another state than those kept
abbrev pub other_parts : List Part → ℕ → ℕ → Option (ℕ × ℕ)
other_parts [] seq last = None
other_parts (p ∷ ps) seq last =
    if not (p.seq == seq) then Some (p.seq, seq) else (if not (p.last == last) then Some (p.last, last) else None)

abbrev pub parts_items : List Part → List Value
parts_items [] = []
parts_items (p ∷ ps) = p.items ++ parts_items ps

-- what the account kept, and what came instead: in n, in `told`, or beyond the last clock issued
abbrev pub state_fault : Account → ℕ → ℕ → Option (ℕ × ℕ)
state_fault x seq last =
    if nat_lt seq x.n then Some (x.n, seq) else (
    if nat_lt last x.told then Some (x.told, last) else (
    if nat_lt (last_issued x) last then Some (last_issued x, last) else None))

abbrev pub loaded_account : Account → ℕ → ℕ → Nodes → Account
loaded_account x seq last t = record x {
  stage = Synced;
  confirmed = Some t;
  n = seq;
  told = last;
  parts = [];
  sent = beyond last (issued x);
  fresh = [];
}

abbrev pub reset_to : Account → List Notice
reset_to x = Reset (view (tree_or_bare (shown x))) ∷ []

abbrev pub loaded : Account → ℕ → ℕ → Nodes → Received
loaded x seq last t = record {
  account = loaded_account x seq last t;
  replies = map (frame_of (actor x)) (beyond last (issued x));
  events = [];
  notices = reset_to (loaded_account x seq last t);
}

abbrev pub load_at : Account → ℕ → ℕ → Nodes → Option (ℕ × ℕ) → Result Received FrameFault
load_at x seq last t (Some fault) = Err (AccountFault fault.0 fault.1)
load_at x seq last t None = Ok (loaded x seq last t)

abbrev pub load : Account → ℕ → ℕ → Option Nodes → Result Received FrameFault
load x seq last None = Err NotATree
load x seq last (Some t) = load_at x seq last t (state_fault x seq last)

abbrev pub keeps_part : Account → ℕ → ℕ → List Value → Received
keeps_part x seq last items =
    received (record x { parts = x.parts ++ record { seq = seq; last = last; items = items } ∷ [] })

abbrev pub receive_part : Account → ℕ → ℕ → List Value → Bool → Option (ℕ × ℕ) → Result Received FrameFault
receive_part x seq last items more (Some fault) = Err (Parts fault.0 fault.1)
receive_part x seq last items true None = Ok (keeps_part x seq last items)
receive_part x seq last items false None = load x seq last (tree_in (parts_items x.parts ++ items))

abbrev pub receive_state : Account → ℕ → ℕ → List Value → Bool → Result Received FrameFault
receive_state x seq last items more =
    if not (is_on x.stage)
    then Err (Unexpected 200)
    else receive_part x seq last items more (other_parts x.parts seq last)

-- 201, when synced and while no part is kept: its operations go onto the confirmed tree, n rises by one, and `told`
-- becomes the greatest own clock in it

-- the greatest own clock, if the own clocks run on from c and were issued; else the clock kept and the one that came
abbrev pub told_by : ℕ → ℕ → ℕ → List Op → Result ℕ (ℕ × ℕ)
told_by a limit c [] = Ok c
told_by a limit c (o ∷ os) =
    if not (actor_of o == a) then told_by a limit c os else (
    if (clock_of o == c + 1) && nat_le (clock_of o) limit then told_by a limit (c + 1) os else Err (c, clock_of o))

abbrev pub updated_account : Account → List Op → ℕ → Nodes → Account
updated_account x os told t = record x {
  confirmed = Some (fold t (bodies_of os));
  n = x.n + 1;
  told = told;
  sent = beyond told x.sent;
  fresh = beyond told x.fresh;
}

abbrev pub none_own : ℕ → List Op → Bool
none_own a [] = true
none_own a (o ∷ os) = not (actor_of o == a) && none_own a os

-- on the tree that was shown: none where the operations are the first pending ones; each operation's where nothing is
-- pending, or where none is the client's own and they are apart from what is pending; else the new view
abbrev pub update_notices : Account → List Op → ℕ → Nodes → List Notice
update_notices x os told t =
    if are_first os (pending x) then [] else (
    if not (is_some_list (pending x)) || (none_own (actor x) os && is_apart t (bodies_of os) (bodies_of (pending x)))
    then notices_of_all (tree_or_bare (shown x)) (bodies_of os)
    else reset_to (updated_account x os told t))

abbrev pub update_told : Account → List Op → Nodes → Result ℕ (ℕ × ℕ) → Result Received FrameFault
update_told x os t (Err fault) = Err (AccountFault fault.0 fault.1)
update_told x os t (Ok told) =
    Ok (record (received (updated_account x os told t)) { notices = update_notices x os told t })

-- a synced client has a confirmed tree
abbrev pub update_on : Account → List Op → Option Nodes → Result Received FrameFault
update_on x os None = Err (Unexpected 201)
update_on x os (Some t) = update_told x os t (told_by (actor x) (last_issued x) x.told os)

abbrev pub update_numbered : Account → ℕ → List Op → Result Received FrameFault
update_numbered x seq os = if seq == x.n + 1 then update_on x os x.confirmed else Err (Gap (x.n + 1) seq)

abbrev pub update_synced : Account → ℕ → List Op → List Part → Result Received FrameFault
update_synced x seq os [] = update_numbered x seq os
update_synced x seq os (p ∷ ps) = Err (Unexpected 201)

abbrev pub receive_update : Account → ℕ → List Op → Stage → Result Received FrameFault
receive_update x seq os Synced = update_synced x seq os x.parts
receive_update x seq os Idle = Err (Unexpected 201)
receive_update x seq os Dialled = Err (Unexpected 201)
receive_update x seq os Connected = Err (Unexpected 201)

-- a message, by its kind
abbrev pub receive : Account → ServerMsg → Result Received FrameFault
receive x (server.Presence a target patch) = once_on x 100 (received (presence_taken x a target patch))
receive x (server.Joined a) = once_on x 101 (replying (forgets x a) (frame_of_full_to a x.me ∷ []))
receive x (server.Left a) = once_on x 102 (received (forgets x a))
receive x (server.Broadcast a e) = once_on x 103 (record (received x) { events = (a, e) ∷ [] })
receive x (server.RoomState a key users) = receive_room x a key x.stage
receive x (server.State seq last items more) = receive_state x seq last items more
receive x (server.Update seq os) = receive_update x seq os x.stage

-- A frame, message by message. After a refusal the messages before the refused one stay taken, what they would have
-- given is given up, and the client is lost.

pub record Refusal : Type 0 where
  pub account : Account
  pub fault : FrameFault

abbrev pub refused : Account → FrameFault → Result Received Refusal
refused x fault = Err (record { account = lost x; fault = fault })

-- what was taken so far, and then this
abbrev pub then_received : Received → Received → Received
then_received so_far out = record {
  account = out.account;
  replies = so_far.replies ++ out.replies;
  events = so_far.events ++ out.events;
  notices = so_far.notices ++ out.notices;
}

abbrev pub or_lost : Account → Result Received FrameFault → Result Received Refusal
or_lost x (Err fault) = refused x fault
or_lost x (Ok out) = Ok out

abbrev pub then_more : Received → Result Received Refusal → Result Received Refusal
then_more out (Err refusal) = Err refusal
then_more out (Ok more) = Ok (then_received out more)

abbrev pub receive_all : Account → List ServerMsg → Result Received Refusal
receive_all x [] = Ok (received x)
receive_all x (m ∷ ms) =
    and_then (or_lost x (receive x m)) (λ (out : Received). then_more out (receive_all out.account ms))

abbrev pub receive_frame : Account → ServerFrame → Result Received Refusal
receive_frame x Pong = Ok (received x)
receive_frame x (Msgs ms) = receive_all x ms

-- what was read of a frame
abbrev pub frame : Account → Result ServerFrame Reason → Result Received Refusal
frame x (Err reason) = refused x (BadServerFrame reason)
frame x (Ok f) = receive_frame x f
