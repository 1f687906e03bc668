-- What waits in the two queues of a connection.
use Rattle.std.proofs.Common.{◌≡◌, ℕ, ◌+◌, ◌≤◌, inl, max, Bool, true, false, List, [], ◌∷◌, ◌++◌, length, map, refl, sym, ap, ◌∙◌, subst, arith, append_assoc}
use Rattle.std.specs.Prelude.{Option, Ok, Err}
use Rattle.room_json.specs.Value.{Value}
use Rattle.room_msg.specs.declared.messages.Resume.{Resume}
use Rattle.room_msg.specs.declared.messages.ClientMsg.TheVariants as client
use Rattle.room_msg.specs.declared.messages.ClientFrame.TheVariants as frame
use Rattle.room_msg.specs.declared.messages.ServerMsg.TheVariants as server
use Rattle.room_log.specs.Log.{State, Update}
use Rattle.room_model.specs.Account.{Batch, last_clock, frame_of}
use Rattle.room_model.specs.Server.{Outbound, Pong, Message, Closed, Inbound}
use Rattle.room_model.specs.World.{inbound_frame}
use Rattle.room_model.specs.Sound.{RunsOn}
use Rattle.room_laws.specs.Ledger.{upto}
use Rattle.room_laws.specs.Queues.{Place, SaysPart, Says, Waits, InOrder}
use Rattle.room_laws.proofs.Batches.{upto_above, In-append_left, In-append_right}

-- a place of which the log went on
abbrev pub grown : List Update → Place → Place
grown us p = record p { coming = p.coming ++ us }

part_grow : (s : State) (w : Option Resume) (p q : Place) (seq last : ℕ) (items : List Value) (more : Bool) (us : List Update)
    → SaysPart s w p seq last items more q → SaysPart s w (grown us p) seq last items more (grown us q)
part_grow s w p q seq last items true us h = ap (grown us) h
part_grow s w p q seq last items false us h = record {
  mid = h.mid;
  rest = h.rest ++ us;
  coming = ap (λ vs. vs ++ us) h.coming ∙ append_assoc h.mid h.rest us;
  place = ap (grown us) h.place;
  count = h.count;
  told = h.told;
  tree = h.tree;
}

says_grow : (s : State) (w : Option Resume) (p : Place) (m : Outbound) (q : Place) (us : List Update) → Says s w p m q → Says s w (grown us p) m (grown us q)
says_grow s w p Pong q us h = ap (grown us) h
says_grow s w p (Closed code text) q us h = ap (grown us) h
says_grow s w p (Message (server.Presence a target patch)) q us h = record { on = h.on; place = ap (grown us) h.place }
says_grow s w p (Message (server.Joined a)) q us h = record { on = h.on; place = ap (grown us) h.place }
says_grow s w p (Message (server.Left a)) q us h = record { on = h.on; place = ap (grown us) h.place }
says_grow s w p (Message (server.Broadcast a e)) q us h = record { on = h.on; place = ap (grown us) h.place }
says_grow s w p (Message (server.RoomState a key users)) q us h = record { before = h.before; mine = h.mine; place = ap (grown us) h.place }
says_grow s w p (Message (server.State seq last items more)) q us h = record { on = h.on; fits = h.fits; says = part_grow s w p q seq last items more us h.says }
says_grow s w p (Message (server.Update seq os)) q us h = record {
  before = h.before;
  whole = h.whole;
  update = h.update;
  rest = h.rest ++ us;
  coming = ap (λ vs. vs ++ us) h.coming;
  place = ap (grown us) h.place;
  count = h.count;
  ops = h.ops;
}

-- the log grows
pub waits_grow : (s : State) (w : Option Resume) (p : Place) (ms : List Outbound) (q : Place) (us : List Update) → Waits s w p ms q → Waits s w (grown us p) ms (grown us q)
waits_grow s w p [] q us h = ap (grown us) h
waits_grow s w p (m ∷ ms) q us h = record { next = grown us h.next; says = says_grow s w p m h.next us h.says; more = waits_grow s w h.next ms q us h.more }

-- messages go behind
pub waits_append : (s : State) (w : Option Resume) (p : Place) (ms : List Outbound) (q : Place) (ns : List Outbound) (t : Place) → Waits s w p ms q → Waits s w q ns t → Waits s w p (ms ++ ns) t
waits_append s w p [] q ns t h k = subst (λ (o : Place). Waits s w o ns t) (sym h) k
waits_append s w p (m ∷ ms) q ns t h k = record { next = h.next; says = h.says; more = waits_append s w h.next ms q ns t h.more k }

-- nothing is lost on the way

abbrev pub all_of : Place → List Update
all_of p = p.done ++ p.coming

part_whole : (s : State) (w : Option Resume) (p q : Place) (seq last : ℕ) (items : List Value) (more : Bool) → SaysPart s w p seq last items more q → all_of p ≡ all_of q
part_whole s w p q seq last items true h = rw h refl
part_whole s w p q seq last items false h = rw h.place (ap (λ us. p.done ++ us) h.coming ∙ sym (append_assoc p.done h.mid h.rest))

says_whole : (s : State) (w : Option Resume) (p : Place) (m : Outbound) (q : Place) → Says s w p m q → all_of p ≡ all_of q
says_whole s w p Pong q h = rw h refl
says_whole s w p (Closed code text) q h = rw h refl
says_whole s w p (Message (server.Presence a target patch)) q h = rw h.place refl
says_whole s w p (Message (server.Joined a)) q h = rw h.place refl
says_whole s w p (Message (server.Left a)) q h = rw h.place refl
says_whole s w p (Message (server.Broadcast a e)) q h = rw h.place refl
says_whole s w p (Message (server.RoomState a key users)) q h = rw h.place refl
says_whole s w p (Message (server.State seq last items more)) q h = part_whole s w p q seq last items more h.says
says_whole s w p (Message (server.Update seq os)) q h = rw h.place (ap (λ us. p.done ++ us) h.coming ∙ sym (append_assoc p.done (h.update ∷ []) h.rest))

pub waits_whole : (s : State) (w : Option Resume) (p : Place) (ms : List Outbound) (q : Place) → Waits s w p ms q → all_of p ≡ all_of q
waits_whole s w p [] q h = ap all_of h
waits_whole s w p (m ∷ ms) q h = says_whole s w p m h.next h.says ∙ waits_whole s w h.next ms q h.more

-- the inbound queue

pub order_issue : (b a : ℕ) (all : List Batch) (c : ℕ) (q : List Inbound) (e : ℕ) (bs : List Batch) → InOrder b a all c q e → InOrder b a (all ++ bs) c q e
order_issue b a all c [] e bs h = h
order_issue b a all c (Err r ∷ q) e bs h = absurd h
order_issue b a all c (Ok frame.Ping ∷ q) e bs h = absurd h
order_issue b a all c (Ok (frame.Msgs []) ∷ q) e bs h = absurd h
order_issue b a all c (Ok (frame.Msgs (m ∷ n ∷ ms)) ∷ q) e bs h = absurd h
order_issue b a all c (Ok (frame.Msgs (client.Hello x ∷ [])) ∷ q) e bs h = absurd h
order_issue b a all c (Ok (frame.Msgs (client.Presence target patch ∷ [])) ∷ q) e bs h = order_issue b a all c q e bs h
order_issue b a all c (Ok (frame.Msgs (client.Broadcast event ∷ [])) ∷ q) e bs h = order_issue b a all c q e bs h
order_issue b a all c (Ok (frame.Msgs (client.Fetch ∷ [])) ∷ q) e bs h = order_issue b a all c q e bs h
order_issue b a all c (Ok (frame.Msgs (client.Update os ∷ [])) ∷ q) e bs h = record {
  mine = h.mine;
  batch = h.batch;
  issued = In-append_left h.batch all bs h.issued;
  ops = h.ops;
  begins = h.begins;
  more = order_issue b a all (max c (last_clock h.batch)) q e bs h.more;
}

pub order_append : (b a : ℕ) (all : List Batch) (c : ℕ) (q r : List Inbound) (d e : ℕ) → InOrder b a all c q d → InOrder b a all d r e → InOrder b a all c (q ++ r) e
order_append b a all c [] r d e h k = subst (λ i. InOrder b a all i r e) (sym h) k
order_append b a all c (Err x ∷ q) r d e h k = absurd h
order_append b a all c (Ok frame.Ping ∷ q) r d e h k = absurd h
order_append b a all c (Ok (frame.Msgs []) ∷ q) r d e h k = absurd h
order_append b a all c (Ok (frame.Msgs (m ∷ n ∷ ms)) ∷ q) r d e h k = absurd h
order_append b a all c (Ok (frame.Msgs (client.Hello x ∷ [])) ∷ q) r d e h k = absurd h
order_append b a all c (Ok (frame.Msgs (client.Presence target patch ∷ [])) ∷ q) r d e h k = order_append b a all c q r d e h k
order_append b a all c (Ok (frame.Msgs (client.Broadcast event ∷ [])) ∷ q) r d e h k = order_append b a all c q r d e h k
order_append b a all c (Ok (frame.Msgs (client.Fetch ∷ [])) ∷ q) r d e h k = order_append b a all c q r d e h k
order_append b a all c (Ok (frame.Msgs (client.Update os ∷ [])) ∷ q) r d e h k = record {
  mine = h.mine;
  batch = h.batch;
  issued = h.issued;
  ops = h.ops;
  begins = h.begins;
  more = order_append b a all (max c (last_clock h.batch)) q r d e h.more k;
}

pub order_above : (b a : ℕ) (all : List Batch) (c : ℕ) (q : List Inbound) (e : ℕ) → InOrder b a all c q e → c ≤ e
order_above b a all c [] e h = omega arith
order_above b a all c (Err x ∷ q) e h = absurd h
order_above b a all c (Ok frame.Ping ∷ q) e h = absurd h
order_above b a all c (Ok (frame.Msgs []) ∷ q) e h = absurd h
order_above b a all c (Ok (frame.Msgs (m ∷ n ∷ ms)) ∷ q) e h = absurd h
order_above b a all c (Ok (frame.Msgs (client.Hello x ∷ [])) ∷ q) e h = absurd h
order_above b a all c (Ok (frame.Msgs (client.Presence target patch ∷ [])) ∷ q) e h = order_above b a all c q e h
order_above b a all c (Ok (frame.Msgs (client.Broadcast event ∷ [])) ∷ q) e h = order_above b a all c q e h
order_above b a all c (Ok (frame.Msgs (client.Fetch ∷ [])) ∷ q) e h = order_above b a all c q e h
order_above b a all c (Ok (frame.Msgs (client.Update os ∷ [])) ∷ q) e h = omega (arith, order_above b a all (max c (last_clock h.batch)) q e h.more)

-- the log went on by another way
pub record Raised (b a : ℕ) (all : List Batch) (c : ℕ) (q : List Inbound) (e : ℕ) : Type 0 where
  pub reach : ℕ
  pub order : InOrder b a all c q reach
  pub far : e ≤ reach

pub order_raise : (b a : ℕ) (all : List Batch) (c d : ℕ) (q : List Inbound) (e : ℕ) → c ≤ d → InOrder b a all c q e → Raised b a all d q e
order_raise b a all c d [] e l h = record { reach = d; order = refl; far = omega arith }
order_raise b a all c d (Err x ∷ q) e l h = absurd h
order_raise b a all c d (Ok frame.Ping ∷ q) e l h = absurd h
order_raise b a all c d (Ok (frame.Msgs []) ∷ q) e l h = absurd h
order_raise b a all c d (Ok (frame.Msgs (m ∷ n ∷ ms)) ∷ q) e l h = absurd h
order_raise b a all c d (Ok (frame.Msgs (client.Hello x ∷ [])) ∷ q) e l h = absurd h
order_raise b a all c d (Ok (frame.Msgs (client.Presence target patch ∷ [])) ∷ q) e l h = let k = order_raise b a all c d q e l h in record { reach = k.reach; order = k.order; far = k.far }
order_raise b a all c d (Ok (frame.Msgs (client.Broadcast event ∷ [])) ∷ q) e l h = let k = order_raise b a all c d q e l h in record { reach = k.reach; order = k.order; far = k.far }
order_raise b a all c d (Ok (frame.Msgs (client.Fetch ∷ [])) ∷ q) e l h = let k = order_raise b a all c d q e l h in record { reach = k.reach; order = k.order; far = k.far }
order_raise b a all c d (Ok (frame.Msgs (client.Update os ∷ [])) ∷ q) e l h =
    let k = order_raise b a all (max c (last_clock h.batch)) (max d (last_clock h.batch)) q e (omega arith) h.more in
    record {
      reach = k.reach;
      far = k.far;
      order = record { mine = h.mine; batch = h.batch; issued = h.issued; ops = h.ops; begins = omega (arith, h.begins); more = k.order };
    }

-- The frames of batches that run on. They stand at the end of those issued
pub frames : (a : ℕ) (front bs : List Batch) (c d : ℕ) → RunsOn c bs → c ≤ d → InOrder a a (front ++ bs) d (map inbound_frame (map (frame_of a) bs)) (max d (upto c bs))
frames a front [] c d h l = omega arith
frames a front (b ∷ bs) c d h l = record {
  mine = refl;
  batch = b;
  issued = In-append_right b front (b ∷ bs) (inl refl);
  ops = refl;
  begins = omega arith;
  more =
      let e : max d (last_clock b) ≡ max d (c + length b.bodies) = omega arith in
      let f : max (max d (c + length b.bodies)) (upto (c + length b.bodies) bs) ≡ max d (upto (c + length b.bodies) bs) = omega (arith, upto_above (c + length b.bodies) bs) in
      let g = frames a (front ++ b ∷ []) bs (c + length b.bodies) (max d (c + length b.bodies)) h.more (omega arith) in
      rw e (rw (← f) (subst (λ (all : List Batch). InOrder a a all (max d (c + length b.bodies)) (map inbound_frame (map (frame_of a) bs)) (max (max d (c + length b.bodies)) (upto (c + length b.bodies) bs))) (append_assoc front (b ∷ []) bs) g));
}

-- a client without a session sent no operations
pub unnamed : (b a a' : ℕ) (all all' : List Batch) (c : ℕ) (q : List Inbound) (e : ℕ) → (b ≡ a → ⊥) → InOrder b a all c q e → InOrder b a' all' c q e
unnamed b a a' all all' c [] e i h = h
unnamed b a a' all all' c (Err r ∷ q) e i h = absurd h
unnamed b a a' all all' c (Ok frame.Ping ∷ q) e i h = absurd h
unnamed b a a' all all' c (Ok (frame.Msgs []) ∷ q) e i h = absurd h
unnamed b a a' all all' c (Ok (frame.Msgs (m ∷ n ∷ ms)) ∷ q) e i h = absurd h
unnamed b a a' all all' c (Ok (frame.Msgs (client.Hello x ∷ [])) ∷ q) e i h = absurd h
unnamed b a a' all all' c (Ok (frame.Msgs (client.Presence target patch ∷ [])) ∷ q) e i h = unnamed b a a' all all' c q e i h
unnamed b a a' all all' c (Ok (frame.Msgs (client.Broadcast event ∷ [])) ∷ q) e i h = unnamed b a a' all all' c q e i h
unnamed b a a' all all' c (Ok (frame.Msgs (client.Fetch ∷ [])) ∷ q) e i h = unnamed b a a' all all' c q e i h
unnamed b a a' all all' c (Ok (frame.Msgs (client.Update os ∷ [])) ∷ q) e i h = absurd (i h.mine)
