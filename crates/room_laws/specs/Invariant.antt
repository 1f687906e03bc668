-- What holds between two lines of a schedule.
use Rattle.std.specs.Prelude.{◌≡◌, ℕ, ◌+◌, ◌<◌, ◌≤◌, ◌⊎◌, true, false, List, [], ◌∷◌, ◌++◌, length, Option, Some, None}
use Rattle.std.specs.Prelude.{is_some, Ok}
use Rattle.std.specs.FinMap.{get}
use Rattle.room_nodes.specs.Shape.{Nodes}
use Rattle.room_items.specs.Items.{tree_in, items_of}
use Rattle.room_msg.specs.declared.messages.Resume.{Resume}
use Rattle.room_msg.specs.declared.messages.ClientMsg.TheVariants as client
use Rattle.room_msg.specs.declared.messages.ClientFrame.TheVariants as frame
use Rattle.room_log.specs.Log.{Session, State, Update, tree_after, session_of, last_of, last_after, updates_of}
use Rattle.room_model.specs.Account.{Batch, Stage, Idle, Dialled, Synced, actor_in}
use Rattle.room_model.specs.Server.{Outbound, Inbound, Link}
use Rattle.room_model.specs.World.{World, Host, Running, Stopped, Conn, room_name, state_in, links_of, slot, account}
use Rattle.room_model.specs.Run.{Run, issued_of, all_given, IsUndisturbed}
use Rattle.room_laws.specs.Ledger.{Ledger, Silent, upto}
use Rattle.room_laws.specs.Core.{Core, core, issued, actor}
use Rattle.room_laws.specs.Queues.{Place, IsOn, Waits, InOrder}

-- look-ups

abbrev pub no_conn : Conn
no_conn = record { owner = None; inbound = []; outbound = []; listens = false }

abbrev pub conn_in : Option Conn → Conn
conn_in None = no_conn
conn_in (Some q) = q

abbrev pub conn : World → ℕ → Conn
conn w k = conn_in (get w.conns k)

abbrev pub link : World → ℕ → Option Link
link w k = get (links_of w.host) k

abbrev pub sessions : Run → List Session
sessions r = (state_in r.world.host).sessions

abbrev pub issued_by : Run → ℕ → List Batch
issued_by r c = issued_of c r.issued

abbrev pub core_of : World → ℕ → Core
core_of w c = core (account w c)

-- the world's shape, whoever sends what

pub record ListensFor (q : Conn) (c : ℕ) : Type 0 where
  pub owner : q.owner ≡ Some c
  pub listens : q.listens ≡ true

abbrev pub Hosts : Host → Type 0
Hosts (Running v) = record {
  room : v.room ≡ room_name;
  access : v.access ≡ None;
  free : (k : ℕ) (l : Link) → get v.links k ≡ Some l → (l.decision ≡ None) × (0 < l.key);
}
Hosts (Stopped s) = Unit {0}

pub record Shape (w : World) : Type 0 where
  pub hosts : Hosts w.host
  -- a client's present connection is its own, and the only one of its own that listens
  pub present : (c k : ℕ) → (slot w c).present ≡ Some k → ListensFor (conn w k) c
  pub heard : (c k : ℕ) → ListensFor (conn w k) c → (slot w c).present ≡ Some k
  pub deaf : (k : ℕ) → (conn w k).listens ≡ false → (conn w k).outbound ≡ []
  -- connections that are yet to come
  pub unlinked : (k : ℕ) → w.opened < k → link w k ≡ None
  pub unopened : (k : ℕ) → w.opened < k → conn w k ≡ no_conn
  pub there : (k : ℕ) (l : Link) → link w k ≡ Some l → is_some (get w.conns k) ≡ true

-- the server's state against the log

-- each update is of a session
abbrev pub Within : ℕ → List Update → Type 0
Within n [] = Unit {0}
Within n (u ∷ us) = record { actor : u.actor ≤ n; more : Within n us }

pub record Logged (s : State) (us : List Update) (now : State) : Type 0 where
  pub count : now.count ≡ s.count + length us
  pub tree : now.tree ≡ tree_after s.tree us
  pub more : length s.sessions ≤ length now.sessions
  pub within : Within (length now.sessions) us
  pub lasts : (a : ℕ) → last_of now.sessions a ≡ last_after a (last_of s.sessions a) us
  pub spelled : tree_in (items_of now.tree) ≡ Some now.tree

-- a session stands with its actor and key, and was begun since the opening
pub record Stands (s : State) (ss : List Session) (w : Resume) : Type 0 where
  pub session : Session
  pub is : session_of ss w.actor ≡ Some session
  pub key : session.key ≡ w.key
  pub some : 0 < w.key
  pub since : length s.sessions < w.actor

abbrev pub StandsIn : State → List Session → Option Resume → Type 0
StandsIn s ss None = Unit {0}
StandsIn s ss (Some w) = Stands s ss w

-- a client without its connections

-- what it holds after the updates `done`
abbrev pub Shows : State → List Update → Stage → ℕ → Option Resume → Option Nodes → Type 0
Shows s done stage n session None = record { unsynced : stage ≡ Synced → ⊥; none : done ≡ []; nothing : n ≡ 0 }
Shows s done stage n session (Some t) = record {
  tree : t ≡ tree_after s.tree done;
  number : n ≡ s.count + length done;
  known : is_some session ≡ true;
}

pub record Own (s : State) (us : List Update) (last : ℕ) (x : Core) (all : List Batch)
    (done coming : List Update) : Type 0 where
  pub room : x.room ≡ room_name
  pub whole : us ≡ done ++ coming
  pub shows : Shows s done x.stage x.n x.session x.confirmed
  pub ledger : Ledger s last (actor x) done coming all (issued x) x.told
  pub unsent : (x.stage ≡ Synced) ⊎ (x.sent ≡ [])

-- its present connection

-- a session that it doesn't know yet: nothing of it is in the log
pub record New (s : State) (us : List Update) (ss : List Session) (w : Resume) : Type 0 where
  pub stands : Stands s ss w
  pub unused : last_of ss w.actor ≡ 0
  pub silent : Silent w.actor us

abbrev pub NewIn : State → List Update → List Session → Option Resume → Type 0
NewIn s us ss None = ⊥
NewIn s us ss (Some w) = New s us ss w

-- what the server knows of the connection, against where its queue leads
abbrev pub Linked : Option Resume → Stage → List Outbound → Place → Option Link → Type 0
Linked w now q end None = Unit {0}
Linked w now q end (Some l) =
    record {
      none : l.actor ≡ None;
      unfetched : l.fetched ≡ false;
      empty : q ≡ [];
      dialled : now ≡ Dialled;
      whole : end.parts ≡ [];
    }
    ⊎ record {
      resume : Resume;
      some : w ≡ Some resume;
      actor : l.actor ≡ Some resume.actor;
      on : IsOn end.stage;
      whole : end.parts ≡ [];
      fetched : l.fetched ≡ true → (end.stage ≡ Synced) × (end.coming ≡ []);
    }

abbrev pub place : Core → List Update → List Update → Place
place x done coming = record { stage = x.stage; parts = x.parts; done = done; coming = coming }

-- `given`: the actors that connections were given, each with the client that dialled it
pub record Present (s : State) (us : List Update) (ss : List Session) (given : List (ℕ × Option ℕ)) (c : ℕ)
    (session : Option Resume) (here : Place) (q : List Outbound) (l : Option Link) : Type 0 where
  pub who : Option Resume
  -- the session is the client's, or a new one, unless somebody else took it up
  pub named : (session ≡ who) ⊎ record {
    unknown : session ≡ None;
    new : all_given c (actor_in who) given ≡ true
        → NewIn s us ss who;
  }
  pub known : IsOn here.stage → (session ≡ who) × (is_some who ≡ true)
  -- it was begun since the opening
  pub begun : last_of s.sessions (actor_in who) ≡ 0
  pub end : Place
  pub waits : Waits s who here q end
  pub linked : Linked who here.stage q end l

abbrev pub Standing : State → List Update → List Session → List (ℕ × Option ℕ) → ℕ → Option ℕ → Option Resume → Place
    → List Outbound → Option Link → Type 0
Standing s us ss given c None session here q l = record { idle : here.stage ≡ Idle; bare : here.parts ≡ [] }
Standing s us ss given c (Some k) session here q l = Present s us ss given c session here q l

-- a client with its present connection
pub record Client (s : State) (us : List Update) (ss : List Session) (given : List (ℕ × Option ℕ)) (c : ℕ)
    (present : Option ℕ) (x : Core) (all : List Batch) (q : List Outbound) (l : Option Link) : Type 0 where
  pub done : List Update
  pub coming : List Update
  pub own : Own s us (last_of ss (actor x)) x all done coming
  pub stands : StandsIn s ss x.session
  pub standing : Standing s us ss given c present x.session (place x done coming) q l

-- the inbound queue of a client's connection; `now` says that it is the present one

abbrev pub hello_frame : Option Resume → Inbound
hello_frame resume =
    Ok (frame.Msgs (client.Hello (record { room = room_name; resume = resume; name = None; «pass» = None }) ∷ []))

abbrev pub InboundAt : Type 0 → Option Resume → ℕ → List Batch → ℕ → Option ℕ → List Inbound → Type 0
InboundAt now session tried all last None q = record {
  resume : Option Resume;
  is : q ≡ hello_frame resume ∷ [];
  old : (resume ≡ None) ⊎ (resume ≡ session);
  current : now → resume ≡ session;
}
InboundAt now session tried all last (Some b) q = record {
  some : 0 < b;
  reach : ℕ;
  order : InOrder b (actor_in session) all last q reach;
  sent : now → tried ≤ reach;
}

abbrev pub Inbounds : Type 0 → Option Resume → ℕ → List Batch → ℕ → Option Link → List Inbound → Type 0
Inbounds now session tried all last None q = q ≡ []
Inbounds now session tried all last (Some l) q = InboundAt now session tried all last l.actor q

-- the last clock that was tried to send
abbrev pub tried : Core → ℕ
tried x = upto x.told x.sent

abbrev pub present_outbound : World → Option ℕ → List Outbound
present_outbound w None = []
present_outbound w (Some k) = (conn w k).outbound

abbrev pub present_link : World → Option ℕ → Option Link
present_link w None = None
present_link w (Some k) = link w k

-- A connection that the server gave an actor: if nobody but the client c was ever given that actor, the connection is
-- c's.
abbrev pub IsGiven : List (ℕ × Option ℕ) → Option ℕ → ℕ → Type 0
IsGiven given owner a = (c : ℕ) → all_given c a given ≡ true → owner ≡ Some c

-- The invariant, from the opening state s.
pub record Inv (s : State) (r : Run) : Type 0 where
  pub shape : Shape r.world
  pub logged : Logged s (updates_of r.log) (state_in r.world.host)
  pub given : (k a : ℕ) (l : Link) → link r.world k ≡ Some l → l.actor ≡ Some a
      → IsGiven r.given (conn r.world k).owner a
  pub actors : (k a : ℕ) (l : Link) → link r.world k ≡ Some l → l.actor ≡ Some a → (0 < a) × (a ≤ length (sessions r))
  pub nobody : (c : ℕ) → all_given c 0 r.given ≡ true
  pub client : (c : ℕ) → IsUndisturbed r c
      → Client s (updates_of r.log) (sessions r) r.given c (slot r.world c).present (core_of r.world c) (issued_by r c)
      (present_outbound r.world (slot r.world c).present) (present_link r.world (slot r.world c).present)
  pub inbounds : (c k : ℕ) → (conn r.world k).owner ≡ Some c → IsUndisturbed r c
      → Inbounds ((slot r.world c).present ≡ Some k) (core_of r.world c).session (tried (core_of r.world c))
      (issued_by r c) (last_of (sessions r) (actor (core_of r.world c))) (link r.world k) (conn r.world k).inbound
