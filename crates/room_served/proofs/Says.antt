-- What one step of the server sends: an update only with its entry, and a room state only of a session that is known
-- or joins.
use Rattle.std.proofs.Common.{◌≡◌, ◌+◌, ◌==◌, ◌&&◌, not, nat_le, ℕ, suc, ℤ, pos, negsuc, Bool, true, false, cond, List}
use Rattle.std.proofs.Common.{[], ◌∷◌, ◌++◌, length, refl, sym, ap, ◌∙◌, subst, ◌⊎◌, inl, inr}
use Rattle.std.specs.Prelude.{⊤, Option, Some, None, Ok, Err, codes, decimal}
use Rattle.std.specs.Ordering.{nat_cmp}
use Rattle.std.specs.Str.{bytes_eq}
use Rattle.std.specs.FinMap.{FinMap, get, insert, remove, entries}
use Rattle.std.proofs.lemmas.Bool.{eqb-true}
use Rattle.room_json.specs.Value.{Value}
use Rattle.room_items.specs.Items.{items_of}
use Rattle.room_msg.specs.declared.messages.Resume.{Resume}
use Rattle.room_msg.specs.declared.messages.Hello.{Hello}
use Rattle.room_msg.specs.declared.messages.ClientMsg.{ClientMsg}
use Rattle.room_msg.specs.declared.messages.ClientMsg.TheVariants as client
use Rattle.room_msg.specs.declared.messages.ClientFrame.TheVariants as frame
use Rattle.room_msg.specs.declared.messages.ServerMsg.{ServerMsg}
use Rattle.room_msg.specs.declared.messages.ServerMsg.TheVariants as server
use Rattle.room_msg.specs.declared.reason.Reason.TheVariants as reason
use Rattle.room_log.specs.Log.{Session, State, Update, Entry, Join, Updated, session_of, last_of, ops_of}
use Rattle.room_log.specs.Taking.{Taken, Nothing, Gap, Takes, take}
use Rattle.room_model.specs.Access.{Decision, barred, refusal_text}
use Rattle.room_model.specs.Server
use Rattle.room_model.specs.Server.{Outbound, Pong, Message, Closed, Inbound, Link, Served}
use Rattle.room_laws.proofs.Acting.{act_from, taken_from, taken_is}
use Rattle.room_served.specs.Laws.{IsKnown}

-- what a step says, by its entry

pub record SaysUpdate (s : State) (e : Option Entry) (seq : ℕ) (u : Update) : Type 0 where
  pub entry : e ≡ Some (Updated u)
  pub number : seq ≡ s.count + 1

pub record SaysJoin (e : Option Entry) (a key : ℕ) : Type 0 where
  pub name : List ℕ
  pub entry : e ≡ Some (Join a key name)

abbrev pub SaysMessage : State → Option Entry → ServerMsg → Type 0
SaysMessage s e (server.Presence a target patch) = ⊤
SaysMessage s e (server.Joined a) = ⊤
SaysMessage s e (server.Left a) = ⊤
SaysMessage s e (server.Broadcast a event) = ⊤
SaysMessage s e (server.RoomState a key users) = IsKnown s a key ⊎ SaysJoin e a key
SaysMessage s e (server.State seq last items more) = ⊤
SaysMessage s e (server.Update seq os) = (u : Update) × SaysUpdate s e seq u × (os ≡ ops_of u)

abbrev pub Says : State → Option Entry → Outbound → Type 0
Says s e Pong = ⊤
Says s e (Message m) = SaysMessage s e m
Says s e (Closed code text) = ⊤

abbrev pub AllSay : State → Option Entry → List (ℕ × Outbound) → Type 0
AllSay s e [] = ⊤
AllSay s e (o ∷ os) = Says s e o.1 × AllSay s e os

-- neither an update nor a room state

abbrev IsPlainMessage : ServerMsg → Type 0
IsPlainMessage (server.Presence a target patch) = ⊤
IsPlainMessage (server.Joined a) = ⊤
IsPlainMessage (server.Left a) = ⊤
IsPlainMessage (server.Broadcast a event) = ⊤
IsPlainMessage (server.RoomState a key users) = ⊥
IsPlainMessage (server.State seq last items more) = ⊤
IsPlainMessage (server.Update seq os) = ⊥

abbrev IsPlain : Outbound → Type 0
IsPlain Pong = ⊤
IsPlain (Message m) = IsPlainMessage m
IsPlain (Closed code text) = ⊤

abbrev ArePlain : List (ℕ × Outbound) → Type 0
ArePlain [] = ⊤
ArePlain (o ∷ os) = IsPlain o.1 × ArePlain os

plain_message : (s : State) (e : Option Entry) (m : ServerMsg) → IsPlainMessage m → SaysMessage s e m
plain_message s e (server.Presence a target patch) h = tt
plain_message s e (server.Joined a) h = tt
plain_message s e (server.Left a) h = tt
plain_message s e (server.Broadcast a event) h = tt
plain_message s e (server.RoomState a key users) h = absurd h
plain_message s e (server.State seq last items more) h = tt
plain_message s e (server.Update seq os) h = absurd h

plain_says : (s : State) (e : Option Entry) (o : Outbound) → IsPlain o → Says s e o
plain_says s e Pong h = tt
plain_says s e (Message m) h = plain_message s e m h
plain_says s e (Closed code text) h = tt

plain_all : (s : State) (e : Option Entry) (os : List (ℕ × Outbound)) → ArePlain os → AllSay s e os
plain_all s e [] h = tt
plain_all s e (o ∷ os) h = (plain_says s e o.1 h.0, plain_all s e os h.1)

plain-append : (os ps : List (ℕ × Outbound)) → ArePlain os → ArePlain ps → ArePlain (os ++ ps)
plain-append [] ps h k = k
plain-append (o ∷ os) ps h k = (h.0, plain-append os ps h.1 k)

say-append : (s : State) (e : Option Entry) (os ps : List (ℕ × Outbound)) → AllSay s e os → AllSay s e ps
    → AllSay s e (os ++ ps)
say-append s e [] ps h k = k
say-append s e (o ∷ os) ps h k = (h.0, say-append s e os ps h.1 k)

-- to each, and to the others

each_plain : (p : Link → Bool) (m : Outbound) (es : List (ℕ × Link)) → IsPlain m → ArePlain (Server.to_each p m es)
each_plain p m [] h = tt
each_plain p m (e ∷ es) h = by_test (p e.1) (each_plain p m es h)
  where
    by_test : (b : Bool) → ArePlain (Server.to_each p m es)
        → ArePlain (cond b ((e.0, m) ∷ Server.to_each p m es) (Server.to_each p m es))
    by_test true k = (h, k)
    by_test false k = k

each_says : (s : State) (e : Option Entry) (p : Link → Bool) (m : Outbound) (ls : List (ℕ × Link)) → Says s e m
    → AllSay s e (Server.to_each p m ls)
each_says s e p m [] h = tt
each_says s e p m (l ∷ ls) h = by_test (p l.1) (each_says s e p m ls h)
  where
    by_test : (b : Bool) → AllSay s e (Server.to_each p m ls)
        → AllSay s e (cond b ((l.0, m) ∷ Server.to_each p m ls) (Server.to_each p m ls))
    by_test true k = (h, k)
    by_test false k = k

others_plain : (ls : FinMap nat_cmp Link) (k : ℕ) (m : ServerMsg) → IsPlainMessage m
    → ArePlain (Server.to_others ls k m)
others_plain ls k m h = each_plain Server.has_session (Message m) (entries (remove ls k)) h

left_plain : (ls : FinMap nat_cmp Link) (k : ℕ) (o : Option ℕ) → ArePlain (Server.left_to ls k o)
left_plain ls k None = tt
left_plain ls k (Some a) = others_plain ls k (server.Left a) tt

parts_plain : (k seq last : ℕ) (ps : List (List Value × Bool)) → ArePlain (Server.part_sends k seq last ps)
parts_plain k seq last [] = tt
parts_plain k seq last (p ∷ ps) = (tt, parts_plain k seq last ps)

-- steps without an entry that say nothing of the log

pub record IsQuiet (v : Server.Server) (out : Served) : Type 0 where
  pub plain : ArePlain out.outs
  pub none : out.entry ≡ None
  pub state : out.server.state ≡ v.state

abbrev SaysIn : State → Served → Type 0
SaysIn s out = AllSay s out.entry out.outs

quiet_says : (v : Server.Server) (out : Served) → IsQuiet v out → SaysIn v.state out
quiet_says v out q = plain_all v.state out.entry out.outs q.plain

pub gone_quiet : (v : Server.Server) (k : ℕ) (o : Option Link) → IsQuiet v (Server.gone_at v k o)
gone_quiet v k None = record { plain = tt; none = refl; state = refl }
gone_quiet v k (Some l) = record { plain = left_plain v.links k l.actor; none = refl; state = refl }

-- a step of the server

module _ (v : Server.Server) (k : ℕ) (l : Link) where
  shuts : (code : ℕ) (text : List ℕ) → SaysIn v.state (Server.shut v k l code text)
  shuts code text = (tt, plain_all v.state None _ (left_plain v.links k l.actor))

  by_shut : (b : Bool) (code : ℕ) (text : List ℕ) (out : Served) → SaysIn v.state out
      → SaysIn v.state (cond b (Server.shut v k l code text) out)
  by_shut true code text out h = shuts code text
  by_shut false code text out h = h

  or_shut : (b : Bool) (code : ℕ) (text : List ℕ) (out : Served) → (b ≡ true → SaysIn v.state out)
      → SaysIn v.state (cond b out (Server.shut v k l code text))
  or_shut true code text out f = f refl
  or_shut false code text out f = shuts code text

  joins : (h : Hello) (d : Option Decision) → SaysIn v.state (Server.join v k l h d)
  joins h d =
      let a = suc (length v.state.sessions) in
      let name = Server.name_of h.name in (
        inr (record { name = name; entry = refl }),
        plain_all v.state (Some (Join a l.key name)) _
            (others_plain (insert v.links k (Server.with_session l a d)) k (server.Joined a) tt),
      )

  resumes : (r : Resume) (d : Option Decision) → IsKnown v.state r.actor r.key
      → SaysIn v.state (Server.resumed v k l r d)
  resumes r d known =
      let ls = insert (Server.without_actor v.links r.actor) k (Server.with_session l r.actor d) in
      say-append v.state None (Server.to_each (Server.holds r.actor) Server.elsewhere (entries v.links)) _
      (each_says v.state None (Server.holds r.actor) Server.elsewhere (entries v.links) tt)
      (inl known, plain_all v.state None _ (others_plain ls k (server.Joined r.actor) tt))

  abbrev Greeted : Option Resume → Type 0
  Greeted None = ⊤
  Greeted (Some r) = IsKnown v.state r.actor r.key

  admitted_says : (h : Hello) (o : Option Resume) (d : Option Decision) → Greeted o
      → SaysIn v.state (Server.admitted v k l h o d)
  admitted_says h None d g = joins h d
  admitted_says h (Some r) d g = resumes r d g

  admit_says : (h : Hello) (d : Option Decision) → Greeted h.resume → SaysIn v.state (Server.admit v k l h d)
  admit_says h d g = unless (barred d (client.Hello h ∷ []))
    where
      unless : (bar : Option Decision) → SaysIn v.state (Server.admit_unless v k l h d bar)
      unless None = admitted_says h h.resume d g
      unless (Some bar) = shuts 4403 (refusal_text bar)

  key_is : (key : ℕ) (x : Session) → ((x.key == key) && not (key == 0)) ≡ true → x.key ≡ key
  key_is key x e = eqb-true x.key key (left (x.key == key) (not (key == 0)) e)
    where
      left : (a b : Bool) → (a && b) ≡ true → a ≡ true
      left true b e = refl
      left false b e = e

  key_says : (h : Hello) (r : Resume) (o : Option Session) → h.resume ≡ Some r → session_of v.state.sessions r.actor ≡ o
      → SaysIn v.state (cond (Server.has_key r.key o) (Server.admit v k l h (Server.decision_of v h v.access))
      (Server.shut v k l 4401 (codes "bad resume")))
  key_says h r None e known = shuts 4401 (codes "bad resume")
  key_says h r (Some x) e known =
      or_shut ((x.key == r.key) && not (r.key == 0)) 4401 (codes "bad resume")
      (Server.admit v k l h (Server.decision_of v h v.access))
      (λ same. admit_says h (Server.decision_of v h v.access)
      (subst Greeted (sym e) (record { session = x; known = known; same = key_is r.key x same })))

  greet_says : (h : Hello) (o : Option Resume) → h.resume ≡ o → SaysIn v.state (Server.greet v k l h o)
  greet_says h None e =
      by_shut (nat_le v.limits.sessions (length v.state.sessions)) 4406
      (codes "sessions full " ++ decimal (length v.state.sessions))
      (Server.admit v k l h (Server.decision_of v h v.access))
      (admit_says h (Server.decision_of v h v.access) (subst Greeted (sym e) tt))
  greet_says h (Some r) e = key_says h r (session_of v.state.sessions r.actor) e refl

  hello_says : (o : Option Hello) → SaysIn v.state (Server.hello v k l o)
  hello_says None = shuts 4400 (codes "bad frame " ++ Server.reason_text reason.Hello)
  hello_says (Some h) =
      or_shut (bytes_eq h.room v.room) 4400 (codes "bad frame " ++ Server.reason_text reason.Room)
      (Server.greet v k l h h.resume) (λ e. greet_says h h.resume refl)

-- the messages of a session's frame

module _ (k a : ℕ) where
  presence_plain : (v : Server.Server) (target : Option ℤ) (patch : List (List ℕ × Value))
      → ArePlain (Server.presence_sends v k a target patch)
  presence_plain v None patch = others_plain v.links k (server.Presence a None patch) tt
  presence_plain v (Some (negsuc n)) patch = others_plain v.links k (server.Presence a (Some (negsuc n)) patch) tt
  presence_plain v (Some (pos b)) patch =
      each_plain (Server.holds b) (Message (server.Presence a (Some (pos b)) patch)) (entries v.links) tt

  fetched_state : (v : Server.Server) (o : Option Link) → (Server.fetched_at v k o).state ≡ v.state
  fetched_state v None = refl
  fetched_state v (Some l) = refl

  acts_quiet : (v : Server.Server) (m : ClientMsg) → IsQuiet v (Server.acts v k a None m)
  acts_quiet v (client.Hello h) = record { plain = tt; none = refl; state = refl }
  acts_quiet v (client.Presence target patch) =
      record { plain = presence_plain v target patch; none = refl; state = refl }
  acts_quiet v (client.Broadcast e) =
      record { plain = others_plain v.links k (server.Broadcast a e) tt; none = refl; state = refl }
  acts_quiet v client.Fetch = record {
    plain = parts_plain k v.state.count (last_of v.state.sessions a) (Server.parts_of (items_of v.state.tree));
    none = refl;
    state = fetched_state v (get v.links k);
  }
  acts_quiet v (client.Update os) = record { plain = tt; none = refl; state = refl }

  none_after : (m : ClientMsg) → Server.waits_after None m ≡ None
  none_after (client.Hello h) = refl
  none_after (client.Presence target patch) = refl
  none_after (client.Broadcast e) = refl
  none_after client.Fetch = refl
  none_after (client.Update os) = refl

  or_none : (d e : Option Entry) → e ≡ None → Server.or_entry d e ≡ d
  or_none None e i = i
  or_none (Some d) e i = refl

  then_quiet : (s : State) (v : Server.Server) (x y : Served) → SaysIn s x → IsQuiet v y
      → SaysIn s (Server.then_served x y)
  then_quiet s v x y h q =
      subst (λ e. AllSay s e (x.outs ++ y.outs)) (sym (or_none x.entry y.entry q.none))
      (say-append s x.entry x.outs y.outs h (plain_all s x.entry y.outs q.plain))

  still : (v : Server.Server) (x y : Served) → IsQuiet v x → IsQuiet x.server y → IsQuiet v (Server.then_served x y)
  still v x y c d = record {
    plain = plain-append x.outs y.outs c.plain d.plain;
    none = or_none x.entry y.entry d.none ∙ c.none;
    state = d.state ∙ c.state;
  }

  talks : (s : State) (x : Served) (ms : List ClientMsg) → SaysIn s x → SaysIn s (act_from x k a None ms)
  talks s x [] h = h
  talks s x (m ∷ ms) h =
      let next = Server.then_served x (Server.acts x.server k a None m) in
      subst (λ o. SaysIn s (act_from next k a o ms)) (sym (none_after m))
      (talks s next ms (then_quiet s x.server x (Server.acts x.server k a None m) h (acts_quiet x.server m)))

  commits : (v : Server.Server) (x : Served) (u : Update) → IsQuiet v x
      → SaysIn v.state (Server.then_served x (Server.commit x.server u))
  commits v x u q =
      let sent = Message (server.Update (x.server.state.count + 1) (ops_of u)) in
      let said : Says v.state (Some (Updated u)) sent =
      (u, record { entry = refl; number = ap (λ (s : State). s.count + 1) q.state }, refl) in
      subst (λ e. AllSay v.state e (x.outs ++ Server.to_each Server.has_fetched sent (entries x.server.links)))
      (sym (ap (λ d. Server.or_entry d (Some (Updated u))) q.none))
      (say-append v.state (Some (Updated u)) x.outs _ (plain_all v.state (Some (Updated u)) x.outs q.plain)
      (each_says v.state (Some (Updated u)) Server.has_fetched sent (entries x.server.links) said))

  waits : (v : Server.Server) (u : Update) (x : Served) (ms : List ClientMsg) → IsQuiet v x
      → SaysIn v.state (act_from x k a (Some u) ms)
  waits v u x [] q = quiet_says v x q
  waits v u x (client.Update os ∷ ms) q =
      talks v.state (Server.then_served x (Server.commit x.server u)) ms (commits v x u q)
  waits v u x (client.Hello h ∷ ms) q =
      waits v u (Server.then_served x (Server.acts x.server k a None (client.Hello h))) ms
      (still v x (Server.acts x.server k a None (client.Hello h)) q (acts_quiet x.server (client.Hello h)))
  waits v u x (client.Presence target patch ∷ ms) q =
      waits v u (Server.then_served x (Server.acts x.server k a None (client.Presence target patch))) ms
      (still v x (Server.acts x.server k a None (client.Presence target patch)) q
      (acts_quiet x.server (client.Presence target patch)))
  waits v u x (client.Broadcast e ∷ ms) q =
      waits v u (Server.then_served x (Server.acts x.server k a None (client.Broadcast e))) ms
      (still v x (Server.acts x.server k a None (client.Broadcast e)) q (acts_quiet x.server (client.Broadcast e)))
  waits v u x (client.Fetch ∷ ms) q =
      waits v u (Server.then_served x (Server.acts x.server k a None client.Fetch)) ms
      (still v x (Server.acts x.server k a None client.Fetch) q (acts_quiet x.server client.Fetch))

module _ (v : Server.Server) (k : ℕ) where
  nothing : IsQuiet v (Server.nothing v)
  nothing = record { plain = tt; none = refl; state = refl }

  module _ (l : Link) (a : ℕ) (ms : List ClientMsg) where
    taken_says : (t : Taken) → SaysIn v.state (taken_from v k l a ms t)
    taken_says Nothing = talks k a v.state (Server.nothing v) ms tt
    taken_says (Gap expected got) = shuts v k l 4402 (Server.expected_got (codes "clock gap") expected got)
    taken_says (Takes u) =
        by_shut v k l (nat_le v.limits.updates v.state.count) 4406 (codes "room full " ++ decimal v.state.count)
        (act_from (Server.nothing v) k a (Some u) ms) (waits k a v u (Server.nothing v) ms nothing)

    owned_says : (o : Option ℕ) → SaysIn v.state (Server.owned v k l a ms o)
    owned_says (Some got) = shuts v k l 4404 (Server.expected_got (codes "foreign actor") a got)
    owned_says None = unless (barred l.decision ms)
      where
        unless : (bar : Option Decision) → SaysIn v.state (Server.permitted_unless v k l a ms bar)
        unless None = subst (SaysIn v.state) (sym (taken_is v k l a ms (take v.state a (Server.all_ops_in ms))))
            (taken_says (take v.state a (Server.all_ops_in ms)))
        unless (Some bar) = shuts v k l 4403 (refusal_text bar)

    session_says : SaysIn v.state (Server.session_frame v k l a ms)
    session_says = by_shut v k l (Server.has_hello ms) 4400 (codes "bad frame " ++ Server.reason_text reason.Hello)
        (Server.owned v k l a ms (Server.foreign_in a (Server.all_ops_in ms)))
        (owned_says (Server.foreign_in a (Server.all_ops_in ms)))

  messages_says : (l : Link) (ms : List ClientMsg) (o : Option ℕ) → SaysIn v.state (Server.messages v k l ms o)
  messages_says l ms None = hello_says v k l (Server.only_hello ms)
  messages_says l ms (Some a) = session_says l a ms

  frame_says : (l : Link) (u : Inbound) → SaysIn v.state (Server.frame_at v k l u)
  frame_says l (Err r) = shuts v k l 4400 (codes "bad frame " ++ Server.reason_text r)
  frame_says l (Ok frame.Ping) = (tt, tt)
  frame_says l (Ok (frame.Msgs ms)) = messages_says l ms l.actor

  from_says : (u : Inbound) (o : Option Link) → SaysIn v.state (Server.serve_from v k u o)
  from_says u None = tt
  from_says u (Some l) = frame_says l u

  pub serve_says : (u : Inbound) → AllSay v.state (Server.serve v k u).entry (Server.serve v k u).outs
  serve_says u = from_says u (get v.links k)

  pub gone_says : AllSay v.state (Server.gone v k).entry (Server.gone v k).outs
  gone_says = quiet_says v (Server.gone v k) (gone_quiet v k (get v.links k))
