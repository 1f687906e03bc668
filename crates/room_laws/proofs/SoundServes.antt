-- A step of a sound server on what is sound: its entries follow, and what it sends is sound.
use Rattle.std.proofs.Common.{◌≡◌, ◌≤◌, ◌<◌, ◌+◌, ◌==◌, ◌&&◌, not, nat_le, ℕ, zero, suc, ℤ, pos, negsuc, Bool, true, false, cond, List, [], ◌∷◌, ◌++◌, length, length-append, refl, sym, ap, ◌∙◌, subst, arith, rules, nat_cmp}
use Rattle.std.specs.Prelude.{Option, Some, None, Ok, Err, take as front, drop, codes, decimal, slice_get, IsUtf8, ⊤}
use Rattle.std.specs.Str.{bytes_eq}
use Rattle.std.specs.FinMap.{FinMap, get, insert, remove, entries}
use Rattle.std.proofs.Math.ListN.{length-set}
use Rattle.std.proofs.lemmas.Bool.{eqb-true}
use Rattle.std.proofs.lemmas.Bool.Decides.{Decides-and, Decides-eqb, nat_tests}
use Rattle.std.proofs.lemmas.Option.{slice_get_within}
use Rattle.room_json.specs.Value.{Value, depth}
use Rattle.room_json.specs.Profile.{IsJson, AreSoundMembers}
use Rattle.room_nodes.specs.declared.nodes.Op.{Op}
use Rattle.room_nodes.specs.Shallow.{AreShallowOps}
use Rattle.room_nodes.specs.Sound.{AreSoundOps}
use Rattle.room_items.specs.Items.{items_of}
use Rattle.room_steps.proofs.Settled.{settles_once}
use Rattle.room_steps.proofs.Shallow.{keeps_shallow}
use Rattle.room_steps.proofs.Sound.{keeps_sound}
use Rattle.room_msg.specs.Sound.{IsTextIfThere}
use Rattle.room_msg.specs.declared.messages.Resume.{Resume}
use Rattle.room_msg.specs.declared.messages.Hello.{Hello}
use Rattle.room_msg.specs.declared.messages.ClientMsg.{ClientMsg}
use Rattle.room_msg.specs.declared.messages.ClientMsg.TheVariants as client
use Rattle.room_msg.specs.declared.messages.ClientFrame.TheVariants as frame
use Rattle.room_msg.specs.declared.messages.ServerMsg.{ServerMsg}
use Rattle.room_msg.specs.declared.messages.ServerMsg.TheVariants as server
use Rattle.room_msg.specs.declared.reason.Reason.TheVariants as reason
use Rattle.room_log.specs.Log.{Session, Update, Entry, Join, Updated, after, state_after, session_of, last_in, last_of, last_from, with_last, with_last_at, ops_of}
use Rattle.room_log.specs.Taking.{Taken, Nothing, Gap, Takes, take}
use Rattle.room_log.specs.Follows.{AreValidSessions, IsKey, IsNext, IsNextUpdate, IsValidLog, IsValidSession, most, most_actor}
use Rattle.room_log.specs.Laws.{TakenFollows, ValidAfter}
use Rattle.room_log.proofs.Following.{Decides-le, follows_exactly}
use Rattle.room_log.proofs.NextTaken.{taken_follows}
use Rattle.room_log.proofs.ValidStates.{valid_after}
use Rattle.room_model.specs.Access.{Decision, barred, refusal_text}
use Rattle.room_model.specs.Server
use Rattle.room_model.specs.Server.{Outbound, Pong, Message, Closed, Inbound, Link, Served}
use Rattle.room_model.specs.Sound.{AreItems}
use Rattle.room_model.specs.World.{entries_in}
use Rattle.room_laws.specs.Validity.{AreValidClientMsgs, IsActorOf, IsValidClientMsg, IsSoundOutbound, IsSoundLink, IsSoundServer, IsSoundInbound, ItemsOfValid}
use Rattle.room_laws.proofs.SoundMaps.{Each, each_put, each_out, each_without}
use Rattle.room_laws.proofs.SoundSends.{ops_fit}
use Rattle.room_laws.proofs.SoundUsers.{users_sound}
use Rattle.room_laws.proofs.Acting.{act_from, taken_from, taken_is}

keeps : ValidAfter
keeps = valid_after keeps_sound keeps_shallow

follows_taken : TakenFollows
follows_taken = taken_follows keeps_sound keeps_shallow settles_once

-- sessions

none_some : {A : Type 0} (x : A) → None ≡ Some x → ⊥
none_some x e = cc

some_is : {A : Type 0} (x y : A) → Some x ≡ Some y → x ≡ y
some_is x y e = cc

pub place : (ss : List Session) (a : ℕ) (x : Session) → session_of ss a ≡ Some x → (1 ≤ a) × (a ≤ length ss)
place ss zero x e = absurd (none_some x e)
place ss (suc i) x e = let in_list = slice_get_within ss i x e in (omega arith, omega (arith, in_list))

slice_there : (ss : List Session) (a : ℕ) → 1 ≤ a → a ≤ length ss → (x : Session) × (session_of ss a ≡ Some x)
slice_there ss zero p q = absurd (omega arith)
slice_there [] (suc i) p q = absurd (omega arith)
slice_there (x ∷ ss) (suc zero) p q = (x, refl)
slice_there (x ∷ ss) (suc (suc i)) p q = slice_there ss (suc i) (omega arith) (omega arith)

slice_valid : (ss : List Session) (i : ℕ) (x : Session) → AreValidSessions ss → slice_get ss i ≡ Some x → IsValidSession x
slice_valid [] i x h e = cc
slice_valid (s ∷ ss) zero x h e = subst IsValidSession (some_is s x e) h.0
slice_valid (s ∷ ss) (suc i) x h e = slice_valid ss i x h.1 e

session_valid : (ss : List Session) (a : ℕ) (x : Session) → AreValidSessions ss → session_of ss a ≡ Some x → IsValidSession x
session_valid ss zero x h e = absurd (none_some x e)
session_valid ss (suc i) x h e = slice_valid ss i x h e

last_low : (ss : List Session) (a : ℕ) → AreValidSessions ss → last_of ss a ≤ most
last_low ss a h = at (session_of ss a) refl
  where
    at : (o : Option Session) → session_of ss a ≡ o → last_in o ≤ most
    at None e = omega arith
    at (Some x) e = (session_valid ss a x h e).last

length-at : (ss : List Session) (i c : ℕ) (o : Option Session) → length (with_last_at ss i c o) ≡ length ss
length-at ss i c None = refl
length-at ss i c (Some s) = length-set ss i (record s { last = c })

length-with : (ss : List Session) (a c : ℕ) → length (with_last ss a c) ≡ length ss
length-with ss zero c = refl
length-with ss (suc i) c = length-at ss i c (slice_get ss i)

-- what is sent

abbrev pub AreSoundOuts : List (ℕ × Outbound) → Type 0
AreSoundOuts [] = ⊤
AreSoundOuts (o ∷ os) = IsSoundOutbound o.1 × AreSoundOuts os

outs-append : (os ps : List (ℕ × Outbound)) → AreSoundOuts os → AreSoundOuts ps → AreSoundOuts (os ++ ps)
outs-append [] ps h k = k
outs-append (o ∷ os) ps h k = (h.0, outs-append os ps h.1 k)

to_each_sound : (p : Link → Bool) (m : Outbound) (es : List (ℕ × Link)) → IsSoundOutbound m → AreSoundOuts (Server.to_each p m es)
to_each_sound p m [] h = tt
to_each_sound p m (e ∷ es) h = by_test (p e.1) (to_each_sound p m es h)
  where
    by_test : (b : Bool) → AreSoundOuts (Server.to_each p m es) → AreSoundOuts (cond b ((e.0, m) ∷ Server.to_each p m es) (Server.to_each p m es))
    by_test true k = (h, k)
    by_test false k = k

to_others_sound : (ls : FinMap nat_cmp Link) (k : ℕ) (m : ServerMsg) → IsSoundOutbound (Message m) → AreSoundOuts (Server.to_others ls k m)
to_others_sound ls k m h = to_each_sound Server.has_session (Message m) (entries (remove ls k)) h

left_sound : (ls : FinMap nat_cmp Link) (k n : ℕ) (o : Option ℕ) → n ≤ most_actor → IsActorOf n o → AreSoundOuts (Server.left_to ls k o)
left_sound ls k n None p h = tt
left_sound ls k n (Some a) p h = let low : a ≤ most_actor = omega (arith, p, h.1) in to_others_sound ls k (server.Left a) low

-- items

abbrev EachItem : List Value → Type 0
EachItem [] = ⊤
EachItem (v ∷ vs) = (IsJson v × (depth v ≤ 58)) × EachItem vs

items_each : (vs : List Value) → AreItems vs → EachItem vs
items_each [] h = tt
items_each (v ∷ vs) h = ((h.json.0, omega (arith, h.shallow)), items_each vs (record { json = h.json.1; shallow = omega (arith, h.shallow) }))

each_items : (vs : List Value) → EachItem vs → AreItems vs
each_items [] h = record { json = tt; shallow = omega arith }
each_items (v ∷ vs) h = let more = each_items vs h.1 in record { json = (h.0.0, more.json); shallow = omega (arith, h.0.1, more.shallow) }

each_front : (n : ℕ) (vs : List Value) → EachItem vs → EachItem (front n vs)
each_front zero vs h = tt
each_front (suc n) [] h = tt
each_front (suc n) (v ∷ vs) h = (h.0, each_front n vs h.1)

each_back : (n : ℕ) (vs : List Value) → EachItem vs → EachItem (drop n vs)
each_back zero vs h = h
each_back (suc n) [] h = tt
each_back (suc n) (v ∷ vs) h = each_back n vs h.1

parts_sound : (k seq last n : ℕ) (vs : List Value) → seq ≤ most → last ≤ most → EachItem vs → AreSoundOuts (Server.part_sends k seq last (Server.parts_within n vs))
parts_sound k seq last zero vs p q h = ((p, q, each_items vs h), tt)
parts_sound k seq last (suc n) vs p q h = by_test (nat_le (length vs) 1000) (parts_sound k seq last n (drop 1000 vs) p q (each_back 1000 vs h))
  where
    by_test : (b : Bool) → AreSoundOuts (Server.part_sends k seq last (Server.parts_within n (drop 1000 vs)))
        → AreSoundOuts (Server.part_sends k seq last (cond b ((vs, false) ∷ []) ((front 1000 vs, true) ∷ Server.parts_within n (drop 1000 vs))))
    by_test true more = ((p, q, each_items vs h), tt)
    by_test false more = ((p, q, each_items (front 1000 vs) (each_front 1000 vs h)), more)

-- a step: its entries follow and lead to the state after it

pub record Goes (v : Server.Server) (out : Served) : Type 0 where
  pub server : IsSoundServer out.server
  pub outs : AreSoundOuts out.outs
  pub log : IsValidLog v.state (entries_in out.entry)
  pub state : out.server.state ≡ state_after v.state (entries_in out.entry)

-- and one without an entry
pub record Calm (v : Server.Server) (out : Served) : Type 0 where
  pub server : IsSoundServer out.server
  pub outs : AreSoundOuts out.outs
  pub none : out.entry ≡ None
  pub state : out.server.state ≡ v.state

calm_goes : (v : Server.Server) (out : Served) → Calm v out → Goes v out
calm_goes v out c = record {
  server = c.server;
  outs = c.outs;
  log = subst (λ e. IsValidLog v.state (entries_in e)) (sym c.none) tt;
  state = c.state ∙ ap (λ e. state_after v.state (entries_in e)) (sym c.none);
}

or_none : (d e : Option Entry) → e ≡ None → Server.or_entry d e ≡ d
or_none None e i = i
or_none (Some d) e i = refl

then_calm : (v : Server.Server) (x y : Served) → Goes v x → Calm x.server y → Goes v (Server.then_served x y)
then_calm v x y g c =
    let same : Server.or_entry x.entry y.entry ≡ x.entry = or_none x.entry y.entry c.none in
    record {
      server = c.server;
      outs = outs-append x.outs y.outs g.outs c.outs;
      log = subst (λ e. IsValidLog v.state (entries_in e)) (sym same) g.log;
      state = c.state ∙ g.state ∙ ap (λ e. state_after v.state (entries_in e)) (sym same);
    }

calm_then : (v : Server.Server) (x y : Served) → Calm v x → Goes x.server y → Goes v (Server.then_served x y)
calm_then v x y c g =
    let same : Server.or_entry x.entry y.entry ≡ y.entry = ap (λ d. Server.or_entry d y.entry) c.none in
    record {
      server = g.server;
      outs = outs-append x.outs y.outs c.outs g.outs;
      log = subst (λ e. IsValidLog v.state (entries_in e)) (sym same) (subst (λ s. IsValidLog s (entries_in y.entry)) c.state g.log);
      state = g.state ∙ ap (λ s. state_after s (entries_in y.entry)) c.state ∙ ap (λ e. state_after v.state (entries_in e)) (sym same);
    }

still : (v : Server.Server) (x y : Served) → Calm v x → Calm x.server y → Calm v (Server.then_served x y)
still v x y c d = record {
  server = d.server;
  outs = outs-append x.outs y.outs c.outs d.outs;
  none = or_none x.entry y.entry d.none ∙ c.none;
  state = d.state ∙ c.state;
}

weaker : (n m : ℕ) (l : Link) → n ≤ m → IsSoundLink n l → IsSoundLink m l
weaker n m l p h = record { key = h.key; actor = at l.actor h.actor }
  where
    at : (o : Option ℕ) → IsActorOf n o → IsActorOf m o
    at None i = tt
    at (Some a) i = (i.0, omega (arith, p, i.1))

-- of a sound server

module _ (v : Server.Server) (h : IsSoundServer v) where
  abbrev IsLink : Link → Type 0
  IsLink = IsSoundLink (length v.state.sessions)

  quiet : (outs : List (ℕ × Outbound)) → AreSoundOuts outs → Calm v (Server.served v outs)
  quiet outs i = record { server = h; outs = i; none = refl; state = refl }

  linked : (ls : FinMap nat_cmp Link) → Each IsLink ls → IsSoundServer (Server.with_links v ls)
  linked ls i = record { state = h.state; limits = h.limits; links = i }

  shuts : (k : ℕ) (l : Link) → IsLink l → (code : ℕ) (text : List ℕ) → Calm v (Server.shut v k l code text)
  shuts k l i code text = record {
    server = linked (remove v.links k) (each_out IsLink v.links h.links k);
    outs = (tt, left_sound v.links k (length v.state.sessions) l.actor h.state.actors i.actor);
    none = refl;
    state = refl;
  }

  gone_calm : (k : ℕ) (o : Option Link) → get v.links k ≡ o → Calm v (Server.gone_at v k o)
  gone_calm k None e = quiet [] tt
  gone_calm k (Some l) e = record {
    server = linked (remove v.links k) (each_out IsLink v.links h.links k);
    outs = left_sound v.links k (length v.state.sessions) l.actor h.state.actors (h.links k l e).actor;
    none = refl;
    state = refl;
  }

  -- a hello

  name_utf8 : (o : Option (List ℕ)) → IsTextIfThere o → IsUtf8 (Server.name_of o)
  name_utf8 None i = search rules
  name_utf8 (Some name) i = i

  joins : (k : ℕ) (l : Link) (hello : Hello) (d : Option Decision) → IsLink l → IsTextIfThere hello.name → length v.state.sessions < most_actor → Goes v (Server.join v k l hello d)
  joins k l hello d i name room =
      let a = suc (length v.state.sessions) in
      let entry = Join a l.key (Server.name_of hello.name) in
      let next : IsNext v.state entry = ((Decides-and _ _ (Decides-eqb a a) (Decides-le a most_actor)).1 (refl, omega (arith, room)), (i.key, name_utf8 hello.name name)) in
      let more : length (after v.state entry).sessions ≡ length v.state.sessions + 1 = length-append v.state.sessions _ in
      let old : Each (IsSoundLink (length (after v.state entry).sessions)) v.links = λ j m e. weaker (length v.state.sessions) (length (after v.state entry).sessions) m (omega (arith, more)) (h.links j m e) in
      let low : a ≤ most_actor = omega (arith, room) in
      let state = keeps.entry v.state entry h.state next in
      let many = length (after v.state entry).sessions in
      let with_it : Each (IsSoundLink many) (insert v.links k (Server.with_session l a d)) = each_put (IsSoundLink many) v.links old k (Server.with_session l a d) (record { key = i.key; actor = (omega arith, omega (arith, more)) }) in
      let users = users_sound (after v.state entry).sessions state.sessions many state.actors (remove (insert v.links k (Server.with_session l a d)) k) (each_out (IsSoundLink many) (insert v.links k (Server.with_session l a d)) with_it k) in
      record {
        server = record {
          state = state;
          limits = h.limits;
          links = with_it;
        };
        outs = ((omega arith, low, i.key, users.0, users.1, users.2), to_others_sound _ k (server.Joined a) low);
        log = (next, tt);
        state = refl;
      }

  resumes : (k : ℕ) (l : Link) (r : Resume) (d : Option Decision) (x : Session) → IsLink l → session_of v.state.sessions r.actor ≡ Some x → x.key ≡ r.key → Calm v (Server.resumed v k l r d)
  resumes k l r d x i known same =
      let at = place v.state.sessions r.actor x known in
      let low : r.actor ≤ most_actor = omega (arith, at, h.state.actors) in
      let key : IsKey r.key = subst IsKey same (session_valid v.state.sessions r.actor x h.state.sessions known).key in
      let ls = Server.without_actor v.links r.actor in
      let with_it : Each IsLink (insert ls k (Server.with_session l r.actor d)) = each_put IsLink ls (each_without IsLink v.links h.links r.actor) k (Server.with_session l r.actor d) (record { key = i.key; actor = at }) in
      let users = users_sound v.state.sessions h.state.sessions (length v.state.sessions) h.state.actors (remove (insert ls k (Server.with_session l r.actor d)) k) (each_out IsLink (insert ls k (Server.with_session l r.actor d)) with_it k) in
      record {
        server = linked (insert ls k (Server.with_session l r.actor d)) with_it;
        outs = outs-append (Server.to_each (Server.holds r.actor) Server.elsewhere (entries v.links)) _ (to_each_sound (Server.holds r.actor) Server.elsewhere (entries v.links) tt)
            ((at.0, low, key, users.0, users.1, users.2), to_others_sound _ k (server.Joined r.actor) low);
        none = refl;
        state = refl;
      }

  module _ (k : ℕ) (l : Link) (i : IsLink l) where
    by_shut : (b : Bool) (code : ℕ) (text : List ℕ) (out : Served) → (b ≡ false → Goes v out) → Goes v (cond b (Server.shut v k l code text) out)
    by_shut true code text out f = calm_goes v _ (shuts k l i code text)
    by_shut false code text out f = f refl

    or_shut : (b : Bool) (code : ℕ) (text : List ℕ) (out : Served) → (b ≡ true → Goes v out) → Goes v (cond b out (Server.shut v k l code text))
    or_shut true code text out f = f refl
    or_shut false code text out f = calm_goes v _ (shuts k l i code text)

    -- what a hello resumes is known, and one that resumes nothing has room
    abbrev Greeted : Option Resume → Type 0
    Greeted None = length v.state.sessions < most_actor
    Greeted (Some r) = (x : Session) × (session_of v.state.sessions r.actor ≡ Some x) × (x.key ≡ r.key)

    admitted_goes : (hello : Hello) (o : Option Resume) (d : Option Decision) → IsTextIfThere hello.name → Greeted o → Goes v (Server.admitted v k l hello o d)
    admitted_goes hello None d name g = joins k l hello d i name g
    admitted_goes hello (Some r) d name g = calm_goes v _ (resumes k l r d g.0 i g.1 g.2)

    admit_goes : (hello : Hello) (d : Option Decision) → IsTextIfThere hello.name → Greeted hello.resume → Goes v (Server.admit v k l hello d)
    admit_goes hello d name g = unless (barred d (client.Hello hello ∷ []))
      where
        unless : (bar : Option Decision) → Goes v (Server.admit_unless v k l hello d bar)
        unless None = admitted_goes hello hello.resume d name g
        unless (Some bar) = calm_goes v _ (shuts k l i 4403 (refusal_text bar))

    key_is : (key : ℕ) (x : Session) → ((x.key == key) && not (key == 0)) ≡ true → x.key ≡ key
    key_is key x e = eqb-true x.key key (left (x.key == key) (not (key == 0)) e)
      where
        left : (a b : Bool) → (a && b) ≡ true → a ≡ true
        left true b e = refl
        left false b e = e

    key_goes : (hello : Hello) (r : Resume) (o : Option Session) → IsTextIfThere hello.name → hello.resume ≡ Some r → session_of v.state.sessions r.actor ≡ o
        → Goes v (cond (Server.has_key r.key o) (Server.admit v k l hello (Server.decision_of v hello v.access)) (Server.shut v k l 4401 (codes "bad resume")))
    key_goes hello r None name e known = calm_goes v _ (shuts k l i 4401 (codes "bad resume"))
    key_goes hello r (Some x) name e known = or_shut ((x.key == r.key) && not (r.key == 0)) 4401 (codes "bad resume") (Server.admit v k l hello (Server.decision_of v hello v.access))
        (λ same. admit_goes hello (Server.decision_of v hello v.access) name (subst Greeted (sym e) (x, known, key_is r.key x same)))

    room_left : nat_le v.limits.sessions (length v.state.sessions) ≡ false → length v.state.sessions < most_actor
    room_left e = grind (arith, nat_tests, e, h.limits.sessions)

    greet_goes : (hello : Hello) (o : Option Resume) → IsTextIfThere hello.name → hello.resume ≡ o → Goes v (Server.greet v k l hello o)
    greet_goes hello None name e = by_shut (nat_le v.limits.sessions (length v.state.sessions)) 4406 (codes "sessions full " ++ decimal (length v.state.sessions)) (Server.admit v k l hello (Server.decision_of v hello v.access))
        (λ full. admit_goes hello (Server.decision_of v hello v.access) name (subst Greeted (sym e) (room_left full)))
    greet_goes hello (Some r) name e = key_goes hello r (session_of v.state.sessions r.actor) name e refl

    abbrev IsSoundHello : Option Hello → Type 0
    IsSoundHello None = ⊤
    IsSoundHello (Some hello) = IsTextIfThere hello.name

    only_sound : (ms : List ClientMsg) → AreValidClientMsgs ms → IsSoundHello (Server.only_hello ms)
    only_sound [] g = tt
    only_sound (client.Hello hello ∷ []) g = g.0.1
    only_sound (client.Hello hello ∷ m ∷ ms) g = tt
    only_sound (client.Presence target patch ∷ ms) g = tt
    only_sound (client.Broadcast e ∷ ms) g = tt
    only_sound (client.Fetch ∷ ms) g = tt
    only_sound (client.Update os ∷ ms) g = tt

    hello_goes : (o : Option Hello) → IsSoundHello o → Goes v (Server.hello v k l o)
    hello_goes None g = calm_goes v _ (shuts k l i 4400 (codes "bad frame " ++ Server.reason_text reason.Hello))
    hello_goes (Some hello) g = or_shut (bytes_eq hello.room v.room) 4400 (codes "bad frame " ++ Server.reason_text reason.Room) (Server.greet v k l hello hello.resume) (λ e. greet_goes hello hello.resume g refl)

-- the update of a session
commits : (v : Server.Server) (u : Update) → IsSoundServer v → IsNext v.state (Updated u) → Goes v (Server.commit v u)
commits v u h n =
    let next : IsNextUpdate v.state u = (follows_exactly v.state u).0 n.0 in
    let at = place v.state.sessions u.actor next.session next.known in
    let same : length (after v.state (Updated u)).sessions ≡ length v.state.sessions = length-with v.state.sessions u.actor (last_from u.first u.bodies) in
    let ops = ops_fit u.actor u.first u.bodies (omega (arith, at, h.state.actors)) (omega (arith, next.last)) n.1 next.shallow in
    record {
      server = record {
        state = keeps.entry v.state (Updated u) h.state n;
        limits = h.limits;
        links = subst (λ m. Each (IsSoundLink m) v.links) (sym same) h.links;
      };
      outs = to_each_sound Server.has_fetched (Message (server.Update (v.state.count + 1) (ops_of u))) (entries v.links) (next.count, ops.0, ops.1);
      log = (n, tt);
      state = refl;
    }

module _ (items : ItemsOfValid) (k a : ℕ) (low : a ≤ most_actor) where
  fetch_calm : (v : Server.Server) → IsSoundServer v → Calm v (Server.fetch v k a)
  fetch_calm v h =
      let valid : AreItems (items_of v.state.tree) = items v.state.tree (record { formed = h.state.formed; sound = h.state.sound; shallow = h.state.shallow }) in
      record {
        server = server_at (get v.links k) refl;
        outs = parts_sound k v.state.count (last_of v.state.sessions a) (length (items_of v.state.tree)) (items_of v.state.tree) h.state.count (last_low v.state.sessions a h.state.sessions) (items_each (items_of v.state.tree) valid);
        none = refl;
        state = state_at (get v.links k);
      }
    where
      server_at : (o : Option Link) → get v.links k ≡ o → IsSoundServer (Server.fetched_at v k o)
      server_at None e = h
      server_at (Some l) e = linked v h _ (each_put (IsSoundLink (length v.state.sessions)) v.links h.links k (record l { fetched = true }) (record { key = (h.links k l e).key; actor = (h.links k l e).actor }))

      state_at : (o : Option Link) → (Server.fetched_at v k o).state ≡ v.state
      state_at None = refl
      state_at (Some l) = refl

  presence_sound : (v : Server.Server) (target : Option ℤ) (patch : List (List ℕ × Value)) → IsValidClientMsg (client.Presence target patch) → AreSoundOuts (Server.presence_sends v k a target patch)
  presence_sound v None patch m = to_others_sound v.links k (server.Presence a None patch) (low, m.0, m.1, omega (arith, m.2))
  presence_sound v (Some (negsuc n)) patch m = to_others_sound v.links k (server.Presence a (Some (negsuc n)) patch) (low, m.0, m.1, omega (arith, m.2))
  presence_sound v (Some (pos b)) patch m = to_each_sound (Server.holds b) (Message (server.Presence a (Some (pos b)) patch)) (entries v.links) (low, m.0, m.1, omega (arith, m.2))

  acts_calm : (v : Server.Server) (m : ClientMsg) → IsSoundServer v → IsValidClientMsg m → Calm v (Server.acts v k a None m)
  acts_calm v (client.Hello hello) h i = quiet v h [] tt
  acts_calm v (client.Presence target patch) h i = quiet v h _ (presence_sound v target patch i)
  acts_calm v (client.Broadcast e) h i = quiet v h _ (to_others_sound v.links k (server.Broadcast a e) (low, i.0, omega (arith, i.1)))
  acts_calm v client.Fetch h i = fetch_calm v h
  acts_calm v (client.Update os) h i = quiet v h [] tt

  none_after : (m : ClientMsg) → Server.waits_after None m ≡ None
  none_after (client.Hello hello) = refl
  none_after (client.Presence target patch) = refl
  none_after (client.Broadcast e) = refl
  none_after client.Fetch = refl
  none_after (client.Update os) = refl

  talks : (v : Server.Server) (x : Served) (ms : List ClientMsg) → Goes v x → AreValidClientMsgs ms → Goes v (act_from x k a None ms)
  talks v x [] g i = g
  talks v x (m ∷ ms) g i =
      let next = Server.then_served x (Server.acts x.server k a None m) in
      subst (λ o. Goes v (act_from next k a o ms)) (sym (none_after m)) (talks v next ms (then_calm v x (Server.acts x.server k a None m) g (acts_calm x.server m g.server i.0)) i.1)

  module _ (v : Server.Server) (u : Update) (n : IsNext v.state (Updated u)) where
    waits : (x : Served) (ms : List ClientMsg) → Calm v x → AreValidClientMsgs ms → Goes v (act_from x k a (Some u) ms)
    waits x [] c i = calm_goes v x c
    waits x (client.Update os ∷ ms) c i =
        let done = commits x.server u c.server (subst (λ s. IsNext s (Updated u)) (sym c.state) n) in
        talks v (Server.then_served x (Server.commit x.server u)) ms (calm_then v x (Server.commit x.server u) c done) i.1
    waits x (client.Hello hello ∷ ms) c i =
        waits (Server.then_served x (Server.acts x.server k a None (client.Hello hello))) ms (still v x (Server.acts x.server k a None (client.Hello hello)) c (acts_calm x.server (client.Hello hello) c.server i.0)) i.1
    waits x (client.Presence target patch ∷ ms) c i =
        waits (Server.then_served x (Server.acts x.server k a None (client.Presence target patch))) ms (still v x (Server.acts x.server k a None (client.Presence target patch)) c (acts_calm x.server (client.Presence target patch) c.server i.0)) i.1
    waits x (client.Broadcast e ∷ ms) c i =
        waits (Server.then_served x (Server.acts x.server k a None (client.Broadcast e))) ms (still v x (Server.acts x.server k a None (client.Broadcast e)) c (acts_calm x.server (client.Broadcast e) c.server i.0)) i.1
    waits x (client.Fetch ∷ ms) c i =
        waits (Server.then_served x (Server.acts x.server k a None client.Fetch)) ms (still v x (Server.acts x.server k a None client.Fetch) c (acts_calm x.server client.Fetch c.server i.0)) i.1

-- all operations of sound messages

ops-append : (xs ys : List Op) → AreSoundOps xs × AreShallowOps xs → AreSoundOps ys × AreShallowOps ys → AreSoundOps (xs ++ ys) × AreShallowOps (xs ++ ys)
ops-append [] ys g i = i
ops-append (x ∷ xs) ys g i = let more = ops-append xs ys (g.0.1, g.1.1) i in ((g.0.0, more.0), (g.1.0, more.1))

ops_sound : (m : ClientMsg) → IsValidClientMsg m → AreSoundOps (Server.ops_in m) × AreShallowOps (Server.ops_in m)
ops_sound (client.Hello hello) i = (tt, tt)
ops_sound (client.Presence target patch) i = (tt, tt)
ops_sound (client.Broadcast e) i = (tt, tt)
ops_sound client.Fetch i = (tt, tt)
ops_sound (client.Update os) i = i

all_ops_sound : (ms : List ClientMsg) → AreValidClientMsgs ms → AreSoundOps (Server.all_ops_in ms) × AreShallowOps (Server.all_ops_in ms)
all_ops_sound [] i = (tt, tt)
all_ops_sound (m ∷ ms) i = ops-append (Server.ops_in m) (Server.all_ops_in ms) (ops_sound m i.0) (all_ops_sound ms i.1)

module _ (items : ItemsOfValid) (v : Server.Server) (h : IsSoundServer v) (k : ℕ) where
  module _ (l : Link) (i : IsSoundLink (length v.state.sessions) l) (a : ℕ) (in_list : (1 ≤ a) × (a ≤ length v.state.sessions)) (ms : List ClientMsg) (sound : AreValidClientMsgs ms) where
    low : a ≤ most_actor
    low = omega (arith, in_list, h.state.actors)

    nothing : Calm v (Server.nothing v)
    nothing = quiet v h [] tt

    room_for : nat_le v.limits.updates v.state.count ≡ false → v.state.count + 1 ≤ most
    room_for e = grind (arith, nat_tests, e, h.limits.updates)

    taken_goes : (t : Taken) → take v.state a (Server.all_ops_in ms) ≡ t → Goes v (taken_from v k l a ms t)
    taken_goes Nothing e = talks items k a low v (Server.nothing v) ms (calm_goes v _ nothing) sound
    taken_goes (Gap expected got) e = calm_goes v _ (shuts v h k l i 4402 (Server.expected_got (codes "clock gap") expected got))
    taken_goes (Takes u) e = by_shut v h k l i (nat_le v.limits.updates v.state.count) 4406 (codes "room full " ++ decimal v.state.count) (act_from (Server.nothing v) k a (Some u) ms) (λ full.
        let x = slice_there v.state.sessions a in_list.0 in_list.1 in
        let ops = all_ops_sound ms sound in
        waits items k a low v u (follows_taken v.state a (Server.all_ops_in ms) u x.0 h.state x.1 ops.0 ops.1 e (room_for full)) (Server.nothing v) ms nothing sound)

    owned_goes : (o : Option ℕ) → Goes v (Server.owned v k l a ms o)
    owned_goes (Some got) = calm_goes v _ (shuts v h k l i 4404 (Server.expected_got (codes "foreign actor") a got))
    owned_goes None = unless (barred l.decision ms)
      where
        unless : (bar : Option Decision) → Goes v (Server.permitted_unless v k l a ms bar)
        unless None = subst (Goes v) (sym (taken_is v k l a ms (take v.state a (Server.all_ops_in ms)))) (taken_goes (take v.state a (Server.all_ops_in ms)) refl)
        unless (Some bar) = calm_goes v _ (shuts v h k l i 4403 (refusal_text bar))

    session_goes : Goes v (Server.session_frame v k l a ms)
    session_goes = by_shut v h k l i (Server.has_hello ms) 4400 (codes "bad frame " ++ Server.reason_text reason.Hello) (Server.owned v k l a ms (Server.foreign_in a (Server.all_ops_in ms))) (λ e. owned_goes (Server.foreign_in a (Server.all_ops_in ms)))

  messages_goes : (l : Link) (ms : List ClientMsg) (o : Option ℕ) → IsSoundLink (length v.state.sessions) l → IsActorOf (length v.state.sessions) o → AreValidClientMsgs ms → Goes v (Server.messages v k l ms o)
  messages_goes l ms None i at sound = hello_goes v h k l i (Server.only_hello ms) (only_sound v h k l i ms sound)
  messages_goes l ms (Some a) i at sound = session_goes l i a at ms sound

  frame_goes : (l : Link) (u : Inbound) → IsSoundLink (length v.state.sessions) l → IsSoundInbound u → Goes v (Server.frame_at v k l u)
  frame_goes l (Err r) i s = calm_goes v _ (shuts v h k l i 4400 (codes "bad frame " ++ Server.reason_text r))
  frame_goes l (Ok frame.Ping) i s = calm_goes v _ (quiet v h ((k, Pong) ∷ []) (tt, tt))
  frame_goes l (Ok (frame.Msgs ms)) i s = messages_goes l ms l.actor i i.actor s

  serves : (u : Inbound) (o : Option Link) → get v.links k ≡ o → IsSoundInbound u → Goes v (Server.serve_from v k u o)
  serves u None e s = calm_goes v _ (quiet v h [] tt)
  serves u (Some l) e s = frame_goes l u (h.links k l e) s

  -- what it does with a frame, and once a connection is gone
  pub serve_goes : (u : Inbound) → IsSoundInbound u → Goes v (Server.serve v k u)
  serve_goes u s = serves u (get v.links k) refl s

  pub gone_is : Calm v (Server.gone v k)
  gone_is = gone_calm v h k (get v.links k) refl
