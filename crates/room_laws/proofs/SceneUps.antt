-- What the server makes of a frame where its connections are a list, and what such a line leaves.
use Rattle.std.proofs.Common.{◌≡◌, ◌+◌, ℕ, Bool, true, false, cond, List, [], ◌∷◌, ◌++◌, length, refl, ap, ◌∙◌}
use Rattle.std.specs.Prelude.{⊤, ℤ, pos, negsuc, suc, nat_le, Option, Some, None, Ok, codes, decimal}
use Rattle.std.specs.Ordering.{nat_cmp}
use Rattle.std.specs.Str.{bytes_eq}
use Rattle.std.specs.FinMap.{FinMap, insert, remove, retain_keys, entries, find, put}
use Rattle.std.specs.FinMap.Entries.{where_key}
use Rattle.room_json.specs.Value.{Value}
use Rattle.room_items.specs.Items.{items_of}
use Rattle.room_msg.specs.declared.messages.Hello.{Hello}
use Rattle.room_msg.specs.declared.messages.Resume.{Resume}
use Rattle.room_msg.specs.declared.messages.ClientMsg.{ClientMsg}
use Rattle.room_msg.specs.declared.messages.ClientMsg.TheVariants as client
use Rattle.room_msg.specs.declared.messages.ClientFrame.TheVariants.{Msgs}
use Rattle.room_msg.specs.declared.messages.ServerMsg.{ServerMsg}
use Rattle.room_msg.specs.declared.messages.ServerMsg.TheVariants as server
use Rattle.room_msg.specs.declared.reason.Reason.TheVariants as reason
use Rattle.room_nodes.specs.declared.nodes.Op.{Op}
use Rattle.room_log.specs.Log.{State, Entry, Join, Updated, Update, joined, updated, last_of, session_of, ops_of}
use Rattle.room_log.specs.Taking.{Taken, Nothing, Gap, Takes, take}
use Rattle.room_model.specs.Access.{Decision, barred}
use Rattle.room_model.specs.Server as Server
use Rattle.room_model.specs.Server.{Outbound, Message, Inbound, Link, Served, with_session, name_of, to_each, has_session, has_fetched, holds, elsewhere, not_held_by, without_actor, users_of}
use Rattle.room_model.specs.Lines as lines
use Rattle.room_model.specs.World as World
use Rattle.room_model.specs.World.{Conn, Slot, Stepped, room_name, with_outbound, entries_in, newly_given, actor_on, owner_of}
use Rattle.room_laws.proofs.Listed.{M, get_M, insert_M, entries_M, retain_M, remove_M, sorted, without}
use Rattle.room_laws.proofs.Scenes.{V, W, with_conn_is}

-- an outcome of the server, with its connections as a list
pub record Acted : Type 0 where
  pub state : State
  pub links : List (ℕ × Link)
  pub outs : List (ℕ × Outbound)
  pub entry : Option Entry

abbrev pub as_served : Acted → Served
as_served a = record { server = V a.state a.links; outs = a.outs; entry = a.entry }

-- to the other sessions
abbrev pub others_l : List (ℕ × Link) → ℕ → ServerMsg → List (ℕ × Outbound)
others_l ls k m = to_each has_session (Message m) (sorted (without k ls))

pub others_is : (ls : List (ℕ × Link)) (k : ℕ) (m : ServerMsg) → Server.to_others (M ls) k m ≡ others_l ls k m
others_is ls k m =
    ap (λ (x : FinMap nat_cmp Link). to_each has_session (Message m) (entries x)) (remove_M ls k)
    ∙ ap (to_each has_session (Message m)) (entries_M (without k ls))

-- a hello

abbrev pub welcome_l : State → List (ℕ × Link) → ℕ → ℕ → ℕ → List (ℕ × Outbound) → Option Entry → Acted
welcome_l s ls k a key before entry = record {
  state = s;
  links = ls;
  outs = before ++ (k, Message (server.RoomState a key (users_of s.sessions (remove (M ls) k)))) ∷ others_l ls k (server.Joined a);
  entry = entry;
}

welcome_is : (s : State) (ls : List (ℕ × Link)) (k a key : ℕ) (before : List (ℕ × Outbound)) (entry : Option Entry)
    → Server.welcome (V s ls) k a key before entry ≡ as_served (welcome_l s ls k a key before entry)
welcome_is s ls k a key before entry =
    ap (λ (os : List (ℕ × Outbound)). record {
      server = V s ls;
      outs = before ++ (k, Message (server.RoomState a key (users_of s.sessions (remove (M ls) k)))) ∷ os;
      entry = entry;
    }) (others_is ls k (server.Joined a))

abbrev pub join_l : State → List (ℕ × Link) → ℕ → Link → Option (List ℕ) → Acted
join_l s ls k l name =
    let a = suc (length s.sessions) in
    welcome_l (joined s l.key (name_of name)) (put nat_cmp k (with_session l a None) ls) k a l.key []
    (Some (Join a l.key (name_of name)))

join_is : (s : State) (ls : List (ℕ × Link)) (k : ℕ) (l : Link) (h : Hello)
    → Server.join (V s ls) k l h None ≡ as_served (join_l s ls k l h.name)
join_is s ls k l h =
    ap (λ (m : FinMap nat_cmp Link). Server.welcome
    (record (V (joined s l.key (name_of h.name)) ls) { links = m })
    k (suc (length s.sessions)) l.key [] (Some (Join (suc (length s.sessions)) l.key (name_of h.name))))
    (insert_M ls k (with_session l (suc (length s.sessions)) None))
    ∙ welcome_is (joined s l.key (name_of h.name)) (put nat_cmp k (with_session l (suc (length s.sessions)) None) ls) k
    (suc (length s.sessions)) l.key [] (Some (Join (suc (length s.sessions)) l.key (name_of h.name)))

abbrev pub unheld : List (ℕ × Link) → ℕ → List (ℕ × Link)
unheld ls a = where_key nat_cmp (λ j. not_held_by a (find nat_cmp j ls)) ls

unheld_is : (ls : List (ℕ × Link)) (a : ℕ) → without_actor (M ls) a ≡ M (unheld ls a)
unheld_is ls a =
    (λ i. retain_keys (M ls) (λ j. not_held_by a (get_M ls j i)))
    ∙ retain_M ls (λ j. not_held_by a (find nat_cmp j ls))

abbrev pub resume_l : State → List (ℕ × Link) → ℕ → Link → Resume → Acted
resume_l s ls k l r =
    welcome_l s (put nat_cmp k (with_session l r.actor None) (unheld ls r.actor)) k r.actor r.key
    (to_each (holds r.actor) elsewhere (sorted ls)) None

resume_is : (s : State) (ls : List (ℕ × Link)) (k : ℕ) (l : Link) (r : Resume)
    → Server.resumed (V s ls) k l r None ≡ as_served (resume_l s ls k l r)
resume_is s ls k l r =
    ap (λ (m : FinMap nat_cmp Link). Server.welcome
    (record (V s ls) { links = insert m k (with_session l r.actor None) })
    k r.actor r.key (to_each (holds r.actor) elsewhere (entries (M ls))) None) (unheld_is ls r.actor)
    ∙ ap (λ (m : FinMap nat_cmp Link). Server.welcome
    (record (V s ls) { links = m }) k r.actor r.key (to_each (holds r.actor) elsewhere (entries (M ls))) None)
    (insert_M (unheld ls r.actor) k (with_session l r.actor None))
    ∙ ap (λ (es : List (ℕ × Link)). Server.welcome (V s (put nat_cmp k (with_session l r.actor None) (unheld ls r.actor)))
    k r.actor r.key (to_each (holds r.actor) elsewhere es) None) (entries_M ls)
    ∙ welcome_is s (put nat_cmp k (with_session l r.actor None) (unheld ls r.actor)) k r.actor r.key
    (to_each (holds r.actor) elsewhere (sorted ls)) None

abbrev pub hello_l : State → List (ℕ × Link) → ℕ → Link → Option (List ℕ) → Option Resume → Acted
hello_l s ls k l name None = join_l s ls k l name
hello_l s ls k l name (Some r) = resume_l s ls k l r

abbrev pub MayEnter : State → Option Resume → Type 0
MayEnter s None = nat_le 1000000 (length s.sessions) ≡ false
MayEnter s (Some r) = Server.has_key r.key (session_of s.sessions r.actor) ≡ true

greet_is : (s : State) (ls : List (ℕ × Link)) (k : ℕ) (l : Link) (room : List ℕ) (name word : Option (List ℕ)) (o : Option Resume)
    → MayEnter s o
    → Server.greet (V s ls) k l (record { room = room; resume = o; name = name; «pass» = word }) o ≡ as_served (hello_l s ls k l name o)
greet_is s ls k l room name word None h =
    ap (λ (b : Bool). cond b
    (Server.shut (V s ls) k l 4406 (codes "sessions full " ++ decimal (length s.sessions)))
    (Server.join (V s ls) k l (record { room = room; resume = None; name = name; «pass» = word }) None)) h
    ∙ join_is s ls k l (record { room = room; resume = None; name = name; «pass» = word })
greet_is s ls k l room name word (Some r) h =
    ap (λ (b : Bool). cond b
    (Server.resumed (V s ls) k l r None)
    (Server.shut (V s ls) k l 4401 (codes "bad resume"))) h
    ∙ resume_is s ls k l r

-- a frame of one message of a session: a presence, a fetch or an update

abbrev pub presence_l : List (ℕ × Link) → ℕ → ℕ → Option ℤ → List (List ℕ × Value) → List (ℕ × Outbound)
presence_l ls k a None patch = others_l ls k (server.Presence a None patch)
presence_l ls k a (Some (negsuc n)) patch = others_l ls k (server.Presence a (Some (negsuc n)) patch)
presence_l ls k a (Some (pos b)) patch = to_each (holds b) (Message (server.Presence a (Some (pos b)) patch)) (sorted ls)

presence_is : (s : State) (ls : List (ℕ × Link)) (k a : ℕ) (target : Option ℤ) (patch : List (List ℕ × Value))
    → Server.presence_sends (V s ls) k a target patch ≡ presence_l ls k a target patch
presence_is s ls k a None patch = others_is ls k (server.Presence a None patch)
presence_is s ls k a (Some (negsuc n)) patch = others_is ls k (server.Presence a (Some (negsuc n)) patch)
presence_is s ls k a (Some (pos b)) patch = ap (to_each (holds b) (Message (server.Presence a (Some (pos b)) patch))) (entries_M ls)

abbrev pub fetched_l : List (ℕ × Link) → ℕ → Option Link → List (ℕ × Link)
fetched_l ls k None = ls
fetched_l ls k (Some l) = put nat_cmp k (record l { fetched = true }) ls

fetched_is : (s : State) (ls : List (ℕ × Link)) (k : ℕ) (o : Option Link) → Server.fetched_at (V s ls) k o ≡ V s (fetched_l ls k o)
fetched_is s ls k None = refl
fetched_is s ls k (Some l) = ap (Server.with_links (V s ls)) (insert_M ls k (record l { fetched = true }))

abbrev pub OnePart : State → Type 0
OnePart s = Server.parts_of (items_of s.tree) ≡ (items_of s.tree, false) ∷ []

abbrev pub fetch_l : State → List (ℕ × Link) → ℕ → ℕ → Acted
fetch_l s ls k a = record {
  state = s;
  links = fetched_l ls k (find nat_cmp k ls);
  outs = (k, Message (server.State s.count (last_of s.sessions a) (items_of s.tree) false)) ∷ [];
  entry = None;
}

fetch_is : (s : State) (ls : List (ℕ × Link)) (k a : ℕ) → OnePart s → Server.fetch (V s ls) k a ≡ as_served (fetch_l s ls k a)
fetch_is s ls k a h = λ i. record {
  server = (ap (Server.fetched_at (V s ls) k) (get_M ls k) ∙ fetched_is s ls k (find nat_cmp k ls)) i;
  outs = Server.part_sends k s.count (last_of s.sessions a) (h i);
  entry = None;
}

abbrev pub commit_l : State → List (ℕ × Link) → Update → Acted
commit_l s ls u = record {
  state = updated s u;
  links = ls;
  outs = to_each has_fetched (Message (server.Update (s.count + 1) (ops_of u))) (sorted ls) ++ [];
  entry = Some (Updated u);
}

commit_is : (s : State) (ls : List (ℕ × Link)) (u : Update)
    → Server.then_served (Server.commit (V s ls) u) (Server.nothing (V (updated s u) ls)) ≡ as_served (commit_l s ls u)
commit_is s ls u = ap (λ (es : List (ℕ × Link)). record {
  server = V (updated s u) ls;
  outs = to_each has_fetched (Message (server.Update (s.count + 1) (ops_of u))) es ++ [];
  entry = Some (Updated u);
}) (entries_M ls)

-- what was taken before leaves all as it is

abbrev pub taken_l : State → List (ℕ × Link) → Taken → Acted
taken_l s ls Nothing = record { state = s; links = ls; outs = []; entry = None }
taken_l s ls (Gap expected got) = record { state = s; links = ls; outs = []; entry = None }
taken_l s ls (Takes u) = commit_l s ls u

abbrev pub MayTake : State → Taken → Type 0
MayTake s Nothing = ⊤
MayTake s (Gap expected got) = ⊥
MayTake s (Takes u) = nat_le 1000000000000 s.count ≡ false

taken_is : (s : State) (ls : List (ℕ × Link)) (k : ℕ) (l : Link) (a : ℕ) (os : List Op) (t : Taken) → MayTake s t
    → Server.taken (V s ls) k l a (client.Update os ∷ []) t ≡ as_served (taken_l s ls t)
taken_is s ls k l a os Nothing h = refl
taken_is s ls k l a os (Gap expected got) h = absurd h
taken_is s ls k l a os (Takes u) h =
    ap (λ (b : Bool). cond b
    (Server.shut (V s ls) k l 4406 (codes "room full " ++ decimal s.count))
    (Server.act_all (V s ls) k a (Some u) (client.Update os ∷ []))) h
    ∙ commit_is s ls u

-- what is served of a message, by whether the connection has a session
abbrev pub act_l : State → List (ℕ × Link) → ℕ → Link → ℕ → ClientMsg → Acted
act_l s ls k l a (client.Hello h) = hello_l s ls k l h.name h.resume
act_l s ls k l a (client.Presence target patch) =
    record { state = s; links = ls; outs = presence_l ls k a target patch ++ []; entry = None }
act_l s ls k l a (client.Broadcast e) = record { state = s; links = ls; outs = []; entry = None }
act_l s ls k l a client.Fetch = fetch_l s ls k a
act_l s ls k l a (client.Update os) = taken_l s ls (take s a (os ++ []))

-- that it is served so
abbrev pub MayAct : State → Link → ℕ → ClientMsg → Type 0
MayAct s l a (client.Hello h) = (l.actor ≡ None) × (bytes_eq h.room room_name ≡ true) × MayEnter s h.resume
MayAct s l a (client.Presence target patch) = (l.actor ≡ Some a) × (l.decision ≡ None)
MayAct s l a (client.Broadcast e) = ⊥
MayAct s l a client.Fetch = (l.actor ≡ Some a) × (l.decision ≡ None) × OnePart s
MayAct s l a (client.Update os) =
    (l.actor ≡ Some a) × (l.decision ≡ None) × (Server.foreign_in a (os ++ []) ≡ None) × MayTake s (take s a (os ++ []))

hello_is : (s : State) (ls : List (ℕ × Link)) (k : ℕ) (l : Link) (room : List ℕ) (o : Option Resume) (name word : Option (List ℕ))
    → bytes_eq room room_name ≡ true → MayEnter s o
    → Server.hello (V s ls) k l (Some (record { room = room; resume = o; name = name; «pass» = word })) ≡ as_served (hello_l s ls k l name o)
hello_is s ls k l room o name word e h =
    ap (λ (b : Bool). cond b
    (Server.greet (V s ls) k l (record { room = room; resume = o; name = name; «pass» = word }) o)
    (Server.bad_frame (V s ls) k l reason.Room)) e
    ∙ greet_is s ls k l room name word o h

abbrev frame_of_one : State → List (ℕ × Link) → ℕ → Link → ClientMsg → Option ℕ → Served
frame_of_one s ls k l m o = Server.messages (V s ls) k l (m ∷ []) o

-- a session's message without operations
no_ops : (s : State) (ls : List (ℕ × Link)) (k : ℕ) (l : Link) (a : ℕ) (ms : List ClientMsg) (d : Option Decision) → d ≡ None
    → Server.permitted_unless (V s ls) k l a ms (barred d ms) ≡ Server.taken (V s ls) k l a ms (take s a (Server.all_ops_in ms))
no_ops s ls k l a ms d h = ap (λ (o : Option Decision). Server.permitted_unless (V s ls) k l a ms (barred o ms)) h

act_is : (s : State) (ls : List (ℕ × Link)) (k : ℕ) (l : Link) (a : ℕ) (m : ClientMsg) → MayAct s l a m
    → Server.messages (V s ls) k l (m ∷ []) l.actor ≡ as_served (act_l s ls k l a m)
act_is s ls k l a (client.Hello h) e =
    ap (frame_of_one s ls k l (client.Hello h)) e.0 ∙ hello_is s ls k l h.room h.resume h.name h.«pass» e.1 e.2
act_is s ls k l a (client.Presence target patch) e =
    ap (frame_of_one s ls k l (client.Presence target patch)) e.0
    ∙ no_ops s ls k l a (client.Presence target patch ∷ []) l.decision e.1
    ∙ ap (λ (os : List (ℕ × Outbound)). record { server = V s ls; outs = os ++ []; entry = None }) (presence_is s ls k a target patch)
act_is s ls k l a (client.Broadcast e) h = absurd h
act_is s ls k l a client.Fetch e =
    ap (frame_of_one s ls k l client.Fetch) e.0
    ∙ no_ops s ls k l a (client.Fetch ∷ []) l.decision e.1
    ∙ ap (λ (out : Served). Server.then_served out (Server.nothing out.server)) (fetch_is s ls k a e.2)
act_is s ls k l a (client.Update os) e =
    ap (frame_of_one s ls k l (client.Update os)) e.0
    ∙ ap (Server.owned (V s ls) k l a (client.Update os ∷ [])) e.2
    ∙ no_ops s ls k l a (client.Update os ∷ []) l.decision e.1
    ∙ taken_is s ls k l a os (take s a (os ++ [])) e.3

-- what is sent is delivered

abbrev pub give_l : List (ℕ × Conn) → ℕ → Outbound → Option Conn → List (ℕ × Conn)
give_l qs k m None = qs
give_l qs k m (Some q) = put nat_cmp k (with_outbound q m) qs

give_is : (qs : List (ℕ × Conn)) (k : ℕ) (m : Outbound) (o : Option Conn) → World.give (M qs) k m o ≡ M (give_l qs k m o)
give_is qs k m None = refl
give_is qs k m (Some q) = insert_M qs k (with_outbound q m)

abbrev pub deliver_l : List (ℕ × Conn) → List (ℕ × Outbound) → List (ℕ × Conn)
deliver_l qs [] = qs
deliver_l qs (o ∷ os) = deliver_l (give_l qs o.0 o.1 (find nat_cmp o.0 qs)) os

deliver_is : (qs : List (ℕ × Conn)) (os : List (ℕ × Outbound)) → World.deliver (M qs) os ≡ M (deliver_l qs os)
deliver_is qs [] = refl
deliver_is qs (o ∷ os) =
    ap (λ (m : FinMap nat_cmp Conn). World.deliver m os)
    (ap (World.give (M qs) o.0 o.1) (get_M qs o.0) ∙ give_is qs o.0 o.1 (find nat_cmp o.0 qs))
    ∙ deliver_is (give_l qs o.0 o.1 (find nat_cmp o.0 qs)) os

-- the line

abbrev pub given_l : List (ℕ × Link) → List (ℕ × Link) → List (ℕ × Conn) → ℕ → List (ℕ × Option ℕ)
given_l ls ls' qs k = newly_given (actor_on (find nat_cmp k ls)) (actor_on (find nat_cmp k ls')) (owner_of (find nat_cmp k qs))

module _ (s : State) (ls : List (ℕ × Link)) (cs : List (ℕ × Slot)) (qs : List (ℕ × Conn)) (n k : ℕ) where
  abbrev pub answered_l : List (ℕ × Conn) → Acted → Stepped
  answered_l rest a = record {
    world = W a.state a.links cs (deliver_l rest a.outs) n;
    lines = [];
    entries = entries_in a.entry;
    issues = [];
    given = given_l ls a.links rest k;
  }

  answered_is : (rest : List (ℕ × Conn)) (a : Acted)
      → World.answer (W s ls cs rest n) (V s ls) k (as_served a) ≡ answered_l rest a
  answered_is rest a = λ i. record {
    world = record (W a.state a.links cs rest n) { conns = deliver_is rest a.outs i };
    lines = [];
    entries = entries_in a.entry;
    issues = [];
    given = newly_given (actor_on (get_M ls k i)) (actor_on (get_M a.links k i)) (owner_of (get_M rest k i));
  }

  pub up_is : (line : ℕ) (q : Conn) (m : ClientMsg) (us : List Inbound) (l : Link) (a : ℕ)
      → find nat_cmp k qs ≡ Some q → q.inbound ≡ Ok (Msgs (m ∷ [])) ∷ us → find nat_cmp k ls ≡ Some l → MayAct s l a m
      → World.step (W s ls cs qs n) line (lines.OfConnection k lines.Up)
      ≡ answered_l (put nat_cmp k (record q { inbound = us }) qs) (act_l s ls k l a m)
  up_is line q m us l a there first linked may =
      ap (World.inbound_at (W s ls cs qs n) k) (get_M qs k ∙ there)
      ∙ ap (World.inbound_from (W s ls cs qs n) k (World.Running (V s ls)) q) first
      ∙ ap (λ (w : World.World). World.answer w (V s ls) k (Server.serve (V s ls) k (Ok (Msgs (m ∷ []))))) (with_conn_is s ls cs qs n k (record q { inbound = us }))
      ∙ ap (λ (o : Option Link). World.answer (W s ls cs (put nat_cmp k (record q { inbound = us }) qs) n) (V s ls) k
      (Server.serve_from (V s ls) k (Ok (Msgs (m ∷ []))) o)) (get_M ls k ∙ linked)
      ∙ ap (World.answer (W s ls cs (put nat_cmp k (record q { inbound = us }) qs) n) (V s ls) k) (act_is s ls k l a m may)
      ∙ answered_is (put nat_cmp k (record q { inbound = us }) qs) (act_l s ls k l a m)
