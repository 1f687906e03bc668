-- The closes that answer an undisturbed client's frames.
use Rattle.std.proofs.Common.{◌≡◌, ℤ, pos, negsuc, ℕ, suc, ◌+◌, ◌<◌, ◌==◌, ◌⊎◌, inl, inr, Bool, true, false, cond, ◌&&◌, nat_le, List, [], ◌∷◌, ◌++◌, length, refl, sym, ap, ◌∙◌, subst, arith, ⊎_elim}
use Rattle.std.specs.Prelude.{Option, Some, None, Ok, Err, codes, decimal}
use Rattle.std.proofs.lemmas.Bool.Decides.{nat_tests}
use Rattle.std.specs.FinMap.{FinMap, get, entries, remove}
use Rattle.std.specs.Ordering.{nat_cmp}
use Rattle.room_json.specs.Value.{Value}
use Rattle.room_nodes.specs.declared.nodes.Op.{Op}
use Rattle.room_items.specs.Items.{items_of}
use Rattle.room_msg.specs.declared.messages.Resume.{Resume}
use Rattle.room_msg.specs.declared.messages.Hello.{Hello}
use Rattle.room_msg.specs.declared.messages.ServerMsg.TheVariants as server
use Rattle.room_msg.specs.declared.messages.ClientMsg.{ClientMsg}
use Rattle.room_msg.specs.declared.messages.ClientMsg.TheVariants as client
use Rattle.room_msg.specs.declared.messages.ClientFrame.TheVariants as frame
use Rattle.room_log.specs.Log.{State, Update, last_of, ops_of}
use Rattle.room_log.specs.Taking.{Taken, Nothing, Takes, take}
use Rattle.room_model.specs.Server
use Rattle.room_model.specs.Server.{Outbound, Pong, Message, Closed, Link, Inbound, Served}
use Rattle.room_model.specs.World.{Conn, Running, state_in, room_name}
use Rattle.room_model.specs.Run.{Run, run, opened, IsUndisturbed}
use Rattle.room_laws.specs.Laws.{spares, spares_all, EachServed}
use Rattle.room_laws.specs.Core.{actor}
use Rattle.room_laws.specs.Queues.{InOrder}
use Rattle.room_laws.specs.Invariant
use Rattle.room_laws.proofs.Popped.{IsTalk}
use Rattle.room_laws.proofs.Frames.{joins, resumes, talks}
use Rattle.room_laws.proofs.Serves.{inbounds_of}
use Rattle.room_laws.proofs.OwnFrames.{serve_takes, outcome_of}
use Rattle.room_laws.proofs.Whole.{stands}
use Rattle.room_laws.proofs.Facts.{none_some, both}
use Rattle.room_laws.proofs.Acting.{act_from, taken_from}

-- lists of sends

split : (x y : Bool) → (x && y) ≡ true → (x ≡ true) × (y ≡ true)
split true y e = (refl, e)
split false y e = cc

spared_append : (a b : List (ℕ × Outbound)) → spares_all a ≡ true → spares_all b ≡ true → spares_all (a ++ b) ≡ true
spared_append [] b e f = f
spared_append (o ∷ os) b e f = let h = split (spares o.1) (spares_all os) e in both (spares o.1) (spares_all (os ++ b)) h.0 (spared_append os b h.1 f)

spared_cond : (b : Bool) (x y : List (ℕ × Outbound)) → spares_all x ≡ true → spares_all y ≡ true → spares_all (cond b x y) ≡ true
spared_cond true x y e f = e
spared_cond false x y e f = f

spared_each : (p : Link → Bool) (m : Outbound) (es : List (ℕ × Link)) → spares m ≡ true → spares_all (Server.to_each p m es) ≡ true
spared_each p m [] e = refl
spared_each p m (x ∷ es) e = let h = spared_each p m es e in
    spared_cond (p x.1) ((x.0, m) ∷ Server.to_each p m es) (Server.to_each p m es) (both (spares m) (spares_all (Server.to_each p m es)) e h) h

spared_left : (ls : FinMap nat_cmp Link) (k : ℕ) (a : Option ℕ) → spares_all (Server.left_to ls k a) ≡ true
spared_left ls k None = refl
spared_left ls k (Some a) = spared_each Server.has_session (Message (server.Left a)) (entries (remove ls k)) refl

spared_parts : (k seq last : ℕ) (ps : List (List Value × Bool)) → spares_all (Server.part_sends k seq last ps) ≡ true
spared_parts k seq last [] = refl
spared_parts k seq last (p ∷ ps) = spared_parts k seq last ps

spared_presence : (v : Server.Server) (k a : ℕ) (target : Option ℤ) (patch : List (List ℕ × Value)) → spares_all (Server.presence_sends v k a target patch) ≡ true
spared_presence v k a None patch = spared_each Server.has_session (Message (server.Presence a None patch)) (entries (remove v.links k)) refl
spared_presence v k a (Some (negsuc n)) patch = spared_each Server.has_session (Message (server.Presence a (Some (negsuc n)) patch)) (entries (remove v.links k)) refl
spared_presence v k a (Some (pos b)) patch = spared_each (Server.holds b) (Message (server.Presence a (Some (pos b)) patch)) (entries v.links) refl

-- a message of a session closes nothing
spared_act : (v : Server.Server) (k a : ℕ) (o : Option Update) (m : ClientMsg) → spares_all (Server.acts v k a o m).outs ≡ true
spared_act v k a o (client.Hello h) = refl
spared_act v k a o (client.Presence target patch) = spared_presence v k a target patch
spared_act v k a o (client.Broadcast e) = spared_each Server.has_session (Message (server.Broadcast a e)) (entries (remove v.links k)) refl
spared_act v k a o client.Fetch = spared_parts k v.state.count (last_of v.state.sessions a) (Server.parts_of (items_of v.state.tree))
spared_act v k a None (client.Update os) = refl
spared_act v k a (Some n) (client.Update os) = spared_each Server.has_fetched (Message (server.Update (v.state.count + 1) (ops_of n))) (entries v.links) refl

spared_all : (k a : ℕ) (ms : List ClientMsg) (sv : Served) (o : Option Update) → spares_all sv.outs ≡ true → spares_all (act_from sv k a o ms).outs ≡ true
spared_all k a [] sv o e = e
spared_all k a (m ∷ ms) sv o e = spared_all k a ms (Server.then_served sv (Server.acts sv.server k a o m)) (Server.waits_after o m) (spared_append sv.outs (Server.acts sv.server k a o m).outs e (spared_act sv.server k a o m))

spared_shut : (v : Server.Server) (k : ℕ) (l : Link) (text : List ℕ) → spares_all (Server.shut v k l 4406 text).outs ≡ true
spared_shut v k l text = spared_left v.links k l.actor

-- the room is full, or it is done
spared_full : (b : Bool) (v : Server.Server) (k : ℕ) (l : Link) (text : List ℕ) (out : Served) → spares_all out.outs ≡ true → spares_all (cond b (Server.shut v k l 4406 text) out).outs ≡ true
spared_full true v k l text out e = spared_shut v k l text
spared_full false v k l text out e = e

abbrev hello_of : Option Resume → Hello
hello_of resume = record { room = room_name; resume = resume; name = None; «pass» = None }

spared_join : (v : Server.Server) (k : ℕ) (l : Link) (h : Hello) → spares_all (Server.join v k l h None).outs ≡ true
spared_join v k l h = spared_each Server.has_session (Message (server.Joined (suc (length v.state.sessions)))) (entries (remove _ k)) refl

spared_resumed : (v : Server.Server) (k : ℕ) (l : Link) (z : Resume) → spares_all (Server.resumed v k l z None).outs ≡ true
spared_resumed v k l z = spared_append (Server.to_each (Server.holds z.actor) Server.elsewhere (entries v.links)) _ (spared_each (Server.holds z.actor) Server.elsewhere (entries v.links) refl)
    (spared_each Server.has_session (Message (server.Joined z.actor)) (entries (remove _ k)) refl)

no_zero : (n : ℕ) → 0 < n → (n == 0) ≡ false
no_zero n h = grind (arith, nat_tests)

head_is : (u x : Inbound) (us y : List Inbound) → u ∷ us ≡ x ∷ y → u ≡ x
head_is u x us y e = cc

module _ (s : State) (r : Run) (v : Server.Server) (k : ℕ) (q : Conn) (u : Inbound) (us : List Inbound) (st : Invariant.Inv s r) (there : get r.world.conns k ≡ Some q) (first : q.inbound ≡ u ∷ us) (runs : r.world.host ≡ Running v)
    (l : Link) (attached : get v.links k ≡ Some l) (c : ℕ) (owner : (Invariant.conn r.world k).owner ≡ Some c) (calm : IsUndisturbed r c) where
  abbrev Spared : Served → Type 0
  Spared out = spares_all out.outs ≡ true

  hosts : Invariant.Hosts (Running v)
  hosts = subst Invariant.Hosts runs st.shape.hosts

  room_of : Invariant.Hosts (Running v) → v.room ≡ room_name
  room_of h = h.room

  access_of : Invariant.Hosts (Running v) → v.access ≡ None
  access_of h = h.access

  free_of : Invariant.Hosts (Running v) → l.decision ≡ None
  free_of h = (h.free k l attached).0

  hello_spared : (e : l.actor ≡ None) (x : Option Resume) → (inbounds_of s r v k q u us st there first runs l attached c None e owner calm).resume ≡ x → Spared (Server.serve v k u)
  hello_spared e None f =
      let h = inbounds_of s r v k q u us st there first runs l attached c None e owner calm in
      let is : u ≡ Invariant.hello_frame None = head_is u (Invariant.hello_frame h.resume) us [] h.is ∙ ap Invariant.hello_frame f in
      subst Spared (sym (ap (Server.serve v k) is ∙ joins v k l attached e (room_of hosts) (access_of hosts)))
      (spared_full (nat_le v.limits.sessions (length v.state.sessions)) v k l (codes "sessions full " ++ decimal (length v.state.sessions)) (Server.join v k l (hello_of None) None) (spared_join v k l (hello_of None)))
  hello_spared e (Some z) f =
      let h = inbounds_of s r v k q u us st there first runs l attached c None e owner calm in
      let is : u ≡ Invariant.hello_frame (Some z) = head_is u (Invariant.hello_frame h.resume) us [] h.is ∙ ap Invariant.hello_frame f in
      let session : (Invariant.core_of r.world c).session ≡ Some z = ⊎_elim (λ n. absurd (none_some z (sym n ∙ f))) (λ n. sym n ∙ f) h.old in
      let stands = subst (λ (y : State). Invariant.Stands s y.sessions z) (ap state_in runs) (subst (λ (y : Option Resume). Invariant.StandsIn s (Invariant.sessions r) y) session (st.client c calm).stands) in
      subst Spared (sym (ap (Server.serve v k) is ∙ resumes v k l z stands.session attached e (room_of hosts) (access_of hosts) stands.is stands.key (no_zero z.key stands.some)))
      (spared_resumed v k l z)

  module _ (a : ℕ) (named : l.actor ≡ Some a) where
    talk_spared : (m : ClientMsg) → IsTalk m → u ≡ Ok (frame.Msgs (m ∷ [])) → Spared (Server.serve v k u)
    talk_spared m i e = subst Spared (sym (ap (Server.serve v k) e ∙ talks v k a l m i attached named (free_of hosts))) (spared_act v k a None m)

    taken_spared : (os : List Op) (t : Taken) → take v.state a os ≡ t → (t ≡ Nothing) ⊎ ((n : Update) × (t ≡ Takes n)) → Spared (taken_from v k l a (client.Update os ∷ []) t)
    taken_spared os t e (inl f) = rw f (spared_all k a (client.Update os ∷ []) (Server.nothing v) None refl)
    taken_spared os t e (inr f) = rw f.1 (spared_full (nat_le v.limits.updates v.state.count) v k l (codes "room full " ++ decimal v.state.count) (act_from (Server.nothing v) k a (Some f.0) (client.Update os ∷ []))
        (spared_all k a (client.Update os ∷ []) (Server.nothing v) (Some f.0) refl))

    ops_spared : (os : List Op) → u ≡ Ok (frame.Msgs (client.Update os ∷ [])) → Spared (Server.serve v k u)
    ops_spared os e = subst Spared (sym (serve_takes s r v k q u us st there first runs l attached a named os e c owner calm))
        (taken_spared os (take v.state a os) refl (⊎_elim (λ g. inl g.0) (λ g. inr (_, g.takes)) (outcome_of s r v k q u us st there first runs l attached a named os e c owner calm (st.client c calm)).outcome))

    by_head : (y : Inbound) (reach : ℕ) → u ≡ y → InOrder a (actor (Invariant.core_of r.world c)) (Invariant.issued_by r c) (last_of (Invariant.sessions r) (actor (Invariant.core_of r.world c))) (y ∷ us) reach → Spared (Server.serve v k u)
    by_head (Err x) reach e h = absurd h
    by_head (Ok frame.Ping) reach e h = absurd h
    by_head (Ok (frame.Msgs [])) reach e h = absurd h
    by_head (Ok (frame.Msgs (m ∷ n ∷ ms))) reach e h = absurd h
    by_head (Ok (frame.Msgs (client.Hello x ∷ []))) reach e h = absurd h
    by_head (Ok (frame.Msgs (client.Presence target patch ∷ []))) reach e h = talk_spared (client.Presence target patch) tt e
    by_head (Ok (frame.Msgs (client.Broadcast event ∷ []))) reach e h = talk_spared (client.Broadcast event) tt e
    by_head (Ok (frame.Msgs (client.Fetch ∷ []))) reach e h = talk_spared client.Fetch tt e
    by_head (Ok (frame.Msgs (client.Update os ∷ []))) reach e h = ops_spared os e

    frame_spared : Spared (Server.serve v k u)
    frame_spared = let h = inbounds_of s r v k q u us st there first runs l attached c (Some a) named owner calm in by_head u h.reach refl h.order

  by_actor : (a : Option ℕ) → l.actor ≡ a → Spared (Server.serve v k u)
  by_actor None e = hello_spared e (inbounds_of s r v k q u us st there first runs l attached c None e owner calm).resume refl
  by_actor (Some a) e = frame_spared a e

module _ (s : State) (r : Run) (v : Server.Server) (k c : ℕ) (u : Inbound) (us : List Inbound) (st : Invariant.Inv s r) (runs : r.world.host ≡ Running v)
    (owner : (Invariant.conn r.world k).owner ≡ Some c) (calm : IsUndisturbed r c) where
  by_conn : (o : Option Conn) → get r.world.conns k ≡ o → (Invariant.conn_in o).inbound ≡ u ∷ us → (p : Option Link) → get v.links k ≡ p → spares_all (Server.serve_from v k u p).outs ≡ true
  by_conn None e f p i = absurd (no_cons f)
    where
      no_cons : [] ≡ u ∷ us → ⊥
      no_cons j = cc
  by_conn (Some q) e f None i = refl
  by_conn (Some q) e f (Some l) i = subst (λ (z : Option Link). spares_all (Server.serve_from v k u z).outs ≡ true) i (by_actor s r v k q u us st e f runs l i c owner calm l.actor refl)

  pub served : (Invariant.conn r.world k).inbound ≡ u ∷ us → spares_all (Server.serve v k u).outs ≡ true
  served f = by_conn (get r.world.conns k) refl f (get v.links k) refl

pub each_served : EachServed
each_served s ls c k v u us h calm runs owner first = served s (run (opened s) ls) v k c u us (stands s ls h) runs owner calm first
