-- The messages of a session's frame act in order.
use Rattle.std.proofs.Common.{◌≡◌, ℤ, ℕ, Bool, true, false, cond, List, [], ◌∷◌, ◌++◌, refl, sym, ap, ◌∙◌, ⊎_elim, pos, negsuc}
use Rattle.std.specs.Prelude.{Option, Some, None}
use Rattle.std.proofs.lemmas.Bool.{cases_eq}
use Rattle.std.specs.FinMap.{FinMap, get}
use Rattle.std.specs.Ordering.{nat_cmp}
use Rattle.room_json.specs.Value.{Value}
use Rattle.room_items.specs.Items
use Rattle.room_msg.specs.declared.messages.Resume
use Rattle.room_log.specs.Log
use Rattle.room_msg.specs.declared.messages.ClientMsg.{ClientMsg}
use Rattle.room_msg.specs.declared.messages.ClientMsg.TheVariants as client
use Rattle.room_msg.specs.declared.messages.ServerMsg.{ServerMsg}
use Rattle.room_msg.specs.declared.messages.ServerMsg.TheVariants as server
use Rattle.room_log.specs.Log.{State, Entry, Update}
use Rattle.room_model.specs.Server
use Rattle.room_model.specs.Server.{Outbound, Message, Link, Inbound, Served, has_session, holds, is_actor}
use Rattle.room_model.specs.World
use Rattle.room_model.specs.World.{Conn, Host, Running, Fuse, deliver, links_of}
use Rattle.room_model.specs.Run.{Run}
use Rattle.room_laws.specs.Queues.{Place, IsOn, Says}
use Rattle.room_laws.specs.Invariant
use Rattle.room_laws.proofs.Maps.{mine, passes, to_each_of, to_others_same, to_others_other, get_same}
use Rattle.room_laws.proofs.Calm.{inbounds_after, SaidTo, passes_said}
use Rattle.room_laws.proofs.Sent.{AllSaid}
use Rattle.room_laws.proofs.Leaving.{inbounds_passed}
use Rattle.room_laws.proofs.Acts.{keeps_say, keeps_fetch}
use Rattle.room_laws.proofs.Acting.{act_from}

pub deliver-append : (qs : FinMap nat_cmp Conn) (a b : List (ℕ × Outbound)) → deliver (deliver qs a) b ≡ deliver qs (a ++ b)
deliver-append qs [] b = refl
deliver-append qs (o ∷ a) b = deliver-append (World.give qs o.0 o.1 (get qs o.0)) a b

pub or_none : (e : Option Entry) → Server.or_entry e None ≡ e
or_none None = refl
or_none (Some d) = refl

-- what is said to the others, and to one of them

abbrev Sayable : FinMap nat_cmp Link → List (ℕ × Outbound) → Type 0
Sayable ls outs = (j : ℕ) → SaidTo (get ls j) (mine j outs) × ((us : List Inbound) → inbounds_after us (mine j outs) ≡ us)

others_say : (ls : FinMap nat_cmp Link) (k : ℕ) (m : ServerMsg) → ((s : State) (w : Option Resume.Resume) (p : Place) → IsOn p.stage → Says s w p (Message m) p) → Sayable ls (Server.to_others ls k m)
others_say ls k m f j = ⊎_elim
    (λ e. rw e (rw (to_others_same m k ls) (record { said = tt; bare = λ i. refl }, λ us. refl)))
    (λ e. rw (to_others_other m k j ls e) (passes_said (Message m) (get ls j) f, λ us. inbounds_passed us has_session m (get ls j)))
    (cases_eq j k)

holders_said : (b : ℕ) (m : ServerMsg) (l : Option Link) → ((s : State) (w : Option Resume.Resume) (p : Place) → IsOn p.stage → Says s w p (Message m) p) → SaidTo l (passes (holds b) (Message m) l)
holders_said b m None f = record { said = tt; bare = λ e. refl }
holders_said b m (Some l) f = record { said = at (holds b l); bare = λ e. rw e refl }
  where
    at : (t : Bool) → AllSaid (cond t (Message m ∷ []) [])
    at true = (f, tt)
    at false = tt

presence_say : (v : Server.Server) (k a : ℕ) (target : Option ℤ) (patch : List (List ℕ × Value)) → Sayable v.links (Server.presence_sends v k a target patch)
presence_say v k a None patch = others_say v.links k (server.Presence a None patch) (λ s w p on. record { on = on; place = refl })
presence_say v k a (Some (negsuc n)) patch = others_say v.links k (server.Presence a (Some (negsuc n)) patch) (λ s w p on. record { on = on; place = refl })
presence_say v k a (Some (pos b)) patch = λ j. rw (to_each_of (holds b) (Message (server.Presence a (Some (pos b)) patch)) j v.links)
    (holders_said b (server.Presence a (Some (pos b)) patch) (get v.links j) (λ s w p on. record { on = on; place = refl }), λ us. inbounds_passed us (holds b) (server.Presence a (Some (pos b)) patch) (get v.links j))

-- w: the world without the frame; k is attached, with the actor a
module _ (s : State) (r : Run) (w : World.World) (k a : ℕ) where
  abbrev pub run_of : Served → Option Fuse → Run
  run_of sv f = record r { world = record w { host = Running sv.server; fuse = f; conns = deliver w.conns sv.outs }; log = r.log ++ World.entries_in sv.entry }

  pub record Reached (sv : Served) : Type 0 where
    pub link : Link
    pub attached : get sv.server.links k ≡ Some link
    pub named : link.actor ≡ Some a
    pub stands : (f : Option Fuse) → Invariant.Inv s (run_of sv f)

  -- something is said
  said : (sv : Served) (outs : List (ℕ × Outbound)) → Reached sv → Sayable sv.server.links outs → Reached (Server.then_served sv (Server.served sv.server outs))
  said sv outs h f = record {
    link = h.link;
    attached = h.attached;
    named = h.named;
    stands = λ e. rw (or_none sv.entry, ← deliver-append w.conns sv.outs outs) (keeps_say s (run_of sv e) sv.server e outs (h.stands e) refl (λ j d o u. (f j).0) (λ j us. (f j).1 us));
  }

  fetches : (sv : Served) (l : Option Link) → get sv.server.links k ≡ l → Reached sv
      → Reached (Server.then_served sv (Server.served (Server.fetched_at sv.server k l) (Server.part_sends k sv.server.state.count (Log.last_of sv.server.state.sessions a) (Server.parts_of (Items.items_of sv.server.state.tree)))))
  fetches sv None e h = absurd (none_some h.link (sym e ∙ h.attached))
    where
      none_some : (x : Link) → None ≡ Some x → ⊥
      none_some x d = cc
  fetches sv (Some l) e h = record {
    link = record l { fetched = true };
    attached = get_same sv.server.links k (record l { fetched = true });
    named = named;
    stands = λ f. rw (or_none sv.entry, ← deliver-append w.conns sv.outs (Server.part_sends k sv.server.state.count (Log.last_of sv.server.state.sessions a) (Server.parts_of (Items.items_of sv.server.state.tree))))
        (keeps_fetch s (run_of sv f) sv.server f k a l (h.stands f) refl e named);
  }
    where
      some_is : (x y : Link) → Some x ≡ Some y → x ≡ y
      some_is x y d = cc

      named : l.actor ≡ Some a
      named = ap (λ (z : Link). z.actor) (some_is l h.link (sym e ∙ h.attached)) ∙ h.named

  -- a message, where no update waits
  pub talk : (sv : Served) (m : ClientMsg) → Reached sv → Reached (Server.then_served sv (Server.acts sv.server k a None m))
  talk sv (client.Hello x) h = said sv [] h (λ j. (record { said = tt; bare = λ e. refl }, λ us. refl))
  talk sv (client.Presence target patch) h = said sv (Server.presence_sends sv.server k a target patch) h (presence_say sv.server k a target patch)
  talk sv (client.Broadcast e) h = said sv (Server.to_others sv.server.links k (server.Broadcast a e)) h (others_say sv.server.links k (server.Broadcast a e) (λ s w p on. record { on = on; place = refl }))
  talk sv client.Fetch h = fetches sv (get sv.server.links k) refl h
  talk sv (client.Update os) h = said sv [] h (λ j. (record { said = tt; bare = λ e. refl }, λ us. refl))

  waits_none : (m : ClientMsg) → Server.waits_after None m ≡ None
  waits_none (client.Hello x) = refl
  waits_none (client.Presence target patch) = refl
  waits_none (client.Broadcast e) = refl
  waits_none client.Fetch = refl
  waits_none (client.Update os) = refl

  -- a whole frame, where no update waits
  pub talk_all : (ms : List ClientMsg) (sv : Served) → Reached sv → Reached (act_from sv k a None ms)
  talk_all [] sv h = h
  talk_all (m ∷ ms) sv h = rw (waits_none m) (talk_all ms (Server.then_served sv (Server.acts sv.server k a None m)) (talk sv m h))
