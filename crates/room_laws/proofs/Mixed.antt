-- A frame whose messages hold an update that is taken, of a connection that no undisturbed client owns.
use Rattle.std.proofs.Common.{◌≡◌, ℕ, ◌+◌, ◌<◌, ◌⊎◌, inl, inr, List, [], ◌∷◌, ◌++◌, length, refl, sym, ap, ◌∙◌, subst, append-nil}
use Rattle.std.specs.Prelude.{Option, Some, None}
use Rattle.std.specs.FinMap.{get, entries}
use Rattle.room_items.specs.Items.{tree_in, items_of}
use Rattle.room_msg.specs.declared.messages.ClientMsg.{ClientMsg}
use Rattle.room_msg.specs.declared.messages.ClientMsg.TheVariants as client
use Rattle.room_msg.specs.declared.messages.ServerMsg.TheVariants as server
use Rattle.room_log.specs.Log.{State, Session, Entry, Updated, Update, session_of, updated, ops_of}
use Rattle.room_model.specs.Server
use Rattle.room_model.specs.Server.{Outbound, Message, Link, Served, to_each, has_fetched}
use Rattle.room_model.specs.World
use Rattle.room_model.specs.World.{Conn, Fuse, deliver}
use Rattle.room_model.specs.Run.{Run, IsUndisturbed}
use Rattle.room_laws.specs.Invariant
use Rattle.room_laws.proofs.Maps.{mine, given_all, deliver_at}
use Rattle.room_laws.proofs.Talks.{Reached, run_of, talk, talk_all, deliver-append, or_none}
use Rattle.room_laws.proofs.Serves.{act_entry, waits_none}
use Rattle.room_laws.proofs.Commits.{keeps_commit}
use Rattle.room_laws.proofs.Acting.{act_from}

-- a message without operations leaves the state
fetched_state : (v : Server.Server) (k : ℕ) (o : Option Link) → (Server.fetched_at v k o).state ≡ v.state
fetched_state v k None = refl
fetched_state v k (Some l) = refl

act_state : (v : Server.Server) (k a : ℕ) (m : ClientMsg) → (Server.acts v k a None m).server.state ≡ v.state
act_state v k a (client.Hello h) = refl
act_state v k a (client.Presence target patch) = refl
act_state v k a (client.Broadcast e) = refl
act_state v k a client.Fetch = fetched_state v k (get v.links k)
act_state v k a (client.Update os) = refl

entry_stays : (k a : ℕ) (ms : List ClientMsg) (sv : Served) → (act_from sv k a None ms).entry ≡ sv.entry
entry_stays k a [] sv = refl
entry_stays k a (m ∷ ms) sv = subst (λ (x : Option Update). (act_from (Server.then_served sv (Server.acts sv.server k a None m)) k a x ms).entry ≡ sv.entry) (sym (waits_none m))
    (entry_stays k a ms (Server.then_served sv (Server.acts sv.server k a None m)) ∙ ap (Server.or_entry sv.entry) (act_entry sv.server k a m) ∙ or_none sv.entry)

owner_stays : (q : Conn) (ms : List Outbound) → (given_all q ms).owner ≡ q.owner
owner_stays q [] = refl
owner_stays q (m ∷ ms) = owner_stays (World.with_outbound q m) ms

-- w: the world without the frame; the update n is taken of the state `now`
module _ (s : State) (r : Run) (w : World.World) (k a : ℕ) (now : State) (n : Update) (x : Session)
    (actor : n.actor ≡ a) (known : session_of now.sessions n.actor ≡ Some x) (first : n.first ≡ x.last + 1) (some : 0 < length n.bodies)
    (void : (d : ℕ) → (Invariant.conn w k).owner ≡ Some d → IsUndisturbed (record r { world = w }) d → ⊥) where
  record Waiting (sv : Served) : Type 0 where
    reached : Reached s r w k a sv
    none : sv.entry ≡ None
    state : sv.server.state ≡ now

  pub record Done (sv : Served) : Type 0 where
    pub reached : Reached s r w k a sv
    pub entry : (sv.entry ≡ None) ⊎ (sv.entry ≡ Some (Updated n))

  abbrev Spelled : Type 0
  Spelled = tree_in (items_of (updated now n).tree) ≡ Some (updated now n).tree

  step : (sv : Served) (m : ClientMsg) → Waiting sv → Waiting (Server.then_served sv (Server.acts sv.server k a None m))
  step sv m h = record {
    reached = talk s r w k a sv m h.reached;
    none = ap (Server.or_entry sv.entry) (act_entry sv.server k a m) ∙ or_none sv.entry ∙ h.none;
    state = act_state sv.server k a m ∙ h.state;
  }

  nobody : (sv : Served) (d : ℕ) → (Invariant.conn_in (get (deliver w.conns sv.outs) k)).owner ≡ Some d → IsUndisturbed (record r { world = w }) d → ⊥
  nobody sv d o i = void d (sym (ap (λ (q : Conn). q.owner) (deliver_at w.conns sv.outs k) ∙ owner_stays (Invariant.conn_in (get w.conns k)) (mine k sv.outs)) ∙ o) i

  commits : (sv : Served) → Waiting sv → Spelled → Reached s r w k a (Server.then_served sv (Server.commit sv.server n))
  commits sv h spelled = record {
    link = h.reached.link;
    attached = h.reached.attached;
    named = h.reached.named;
    stands = λ f. rw (h.none, ← deliver-append w.conns sv.outs (to_each has_fetched (Message (server.Update (sv.server.state.count + 1) (ops_of n))) (entries sv.server.links)))
        (subst (λ (z : List Entry). Invariant.Inv s (record r {
          world = record w {
            host = World.Running (record (sv.server) { state = updated sv.server.state n });
            fuse = f;
            conns = deliver (deliver w.conns sv.outs) (to_each has_fetched (Message (server.Update (sv.server.state.count + 1) (ops_of n))) (entries sv.server.links));
          };
          log = z ++ Updated n ∷ [];
        })) (ap (λ e. r.log ++ World.entries_in e) h.none ∙ append-nil r.log)
        (keeps_commit s (run_of s r w k a sv f) sv.server k h.reached.link n x (deliver w.conns sv.outs) (λ j. (Invariant.conn (run_of s r w k a sv f).world j).inbound) f (h.reached.stands f)
        refl h.reached.attached (h.reached.named ∙ ap Some (sym actor))
        (ap (λ (z : State). session_of z.sessions n.actor) h.state ∙ known) first some
        (subst (λ (z : State). tree_in (items_of (updated z n).tree) ≡ Some (updated z n).tree) (sym h.state) spelled)
        (λ j. refl) (λ j e. e) (λ j e. refl) (λ j e. ap (λ (q : Conn). q.inbound) ((h.reached.stands f).shape.unopened j e))
        (λ d o i. absurd (nobody sv d o i)) (λ d o i. absurd (nobody sv d o i))));
  }

  walk : (ms : List ClientMsg) (sv : Served) → Waiting sv → ((act_from sv k a (Some n) ms).entry ≡ Some (Updated n) → Spelled) → Done (act_from sv k a (Some n) ms)
  walk [] sv h f = record { reached = h.reached; entry = inl h.none }
  walk (client.Hello m ∷ ms) sv h f = walk ms (Server.then_served sv (Server.acts sv.server k a None (client.Hello m))) (step sv (client.Hello m) h) f
  walk (client.Presence target patch ∷ ms) sv h f = walk ms (Server.then_served sv (Server.acts sv.server k a None (client.Presence target patch))) (step sv (client.Presence target patch) h) f
  walk (client.Broadcast e ∷ ms) sv h f = walk ms (Server.then_served sv (Server.acts sv.server k a None (client.Broadcast e))) (step sv (client.Broadcast e) h) f
  walk (client.Fetch ∷ ms) sv h f = walk ms (Server.then_served sv (Server.acts sv.server k a None client.Fetch)) (step sv client.Fetch h) f
  walk (client.Update os ∷ ms) sv h f =
      let entry : (act_from (Server.then_served sv (Server.commit sv.server n)) k a None ms).entry ≡ Some (Updated n) =
      entry_stays k a ms (Server.then_served sv (Server.commit sv.server n)) ∙ ap (λ e. Server.or_entry e (Some (Updated n))) h.none in
      record {
        reached = talk_all s r w k a ms (Server.then_served sv (Server.commit sv.server n)) (commits sv h (f entry));
        entry = inr entry;
      }

  pub mixed : (v : Server.Server) (ms : List ClientMsg) → v.state ≡ now → Reached s r w k a (Server.nothing v)
      → ((act_from (Server.nothing v) k a (Some n) ms).entry ≡ Some (Updated n) → Spelled) → Done (act_from (Server.nothing v) k a (Some n) ms)
  mixed v ms e h f = walk ms (Server.nothing v) (record { reached = h; none = refl; state = e }) f
