-- A step of the server that takes nothing into the log and gives no actor.
use Rattle.std.proofs.Common.{◌≡◌, ℕ, zero, suc, ◌+◌, ◌<◌, ◌≤◌, ◌⊎◌, inl, inr, Bool, true, false, cond, List, [], ◌∷◌, ◌++◌, length, refl, sym, ap, ◌∙◌, subst, append-nil, append_assoc}
use Rattle.std.specs.Prelude.{Option, Some, None, is_some, take as front, drop, nat_le}
use Rattle.std.proofs.lemmas.Bool.{eq-eqb}
use Rattle.std.proofs.lemmas.List.{take-append-drop}
use Rattle.std.specs.FinMap.{get}
use Rattle.room_json.specs.Value.{Value}
use Rattle.room_items.specs.Items.{tree_in, items_of}
use Rattle.room_msg.specs.declared.messages.Resume.{Resume}
use Rattle.room_msg.specs.declared.messages.ServerMsg.TheVariants as server
use Rattle.room_log.specs.Log.{State, Update, last_of, last_after, tree_after, updates_of}
use Rattle.room_model.specs.Account.{Part, Synced, actor_in}
use Rattle.room_model.specs.Receive.{other_parts, parts_items}
use Rattle.room_model.specs.Server.{Outbound, Message, Closed, Link, Inbound, has_session, parts_within}
use Rattle.room_model.specs.World.{Conn, state_in, with_outbound, is_close, slot}
use Rattle.room_model.specs.Run.{Run, all_given, IsUndisturbed}
use Rattle.room_laws.specs.Core.{actor}
use Rattle.room_laws.specs.Queues.{Place, IsOn, Says, Waits}
use Rattle.room_laws.specs.Invariant
use Rattle.room_laws.proofs.Maps.{given_all, passes}
use Rattle.room_laws.proofs.Queues.{grown, waits_whole}
use Rattle.room_laws.proofs.Served.{served, fed}
use Rattle.room_laws.proofs.Sent.{grown_nil, AllSaid, present_said, present_left, present_closed, present_on}
use Rattle.room_laws.proofs.Stops.{own_same}

-- the inbound queue, after what came down: a close empties it
abbrev pub inbounds_after : List Inbound → List Outbound → List Inbound
inbounds_after us [] = us
inbounds_after us (m ∷ ms) = inbounds_after (cond (is_close m) [] us) ms

outbound_nil : (b : Bool) (d : List Outbound) → cond b (d ++ []) d ≡ d
outbound_nil true d = append-nil d
outbound_nil false d = refl

outbound_cons : (b : Bool) (d : List Outbound) (m : Outbound) (ms : List Outbound) → cond b (cond b (d ++ m ∷ []) d ++ ms) (cond b (d ++ m ∷ []) d) ≡ cond b (d ++ m ∷ ms) d
outbound_cons true d m ms = append_assoc d (m ∷ []) ms
outbound_cons false d m ms = refl

pub given_fed : (q : Conn) (ms : List Outbound) → given_all q ms ≡ fed q (inbounds_after q.inbound ms) ms
given_fed q [] = ap (λ (d : List Outbound). record { owner = q.owner; inbound = q.inbound; outbound = d; listens = q.listens }) (sym (outbound_nil q.listens q.outbound))
given_fed q (m ∷ ms) = given_fed (with_outbound q m) ms
    ∙ ap (λ (d : List Outbound). record { owner = q.owner; inbound = inbounds_after (cond (is_close m) [] q.inbound) ms; outbound = d; listens = q.listens }) (outbound_cons q.listens q.outbound m ms)

-- no connection without a session is sent anything but closes

abbrev pub Sessionless : Option Link → Type 0
Sessionless None = Unit {0}
Sessionless (Some l) = l.actor ≡ None

pub record SaidTo (l : Option Link) (ms : List Outbound) : Type 0 where
  pub said : AllSaid ms
  pub bare : Sessionless l → ms ≡ []

pub passes_said : (m : Outbound) (l : Option Link) → ((s : State) (w : Option Resume) (p : Place) → IsOn p.stage → Says s w p m p) → SaidTo l (passes has_session m l)
passes_said m None f = record { said = tt; bare = λ e. refl }
passes_said m (Some l) f = at l.actor refl
  where
    at : (o : Option ℕ) → l.actor ≡ o → SaidTo (Some l) (cond (is_some l.actor) (m ∷ []) [])
    at None e = rw e (record { said = tt; bare = λ i. refl })
    at (Some a) e = rw e (record { said = (f, tt); bare = λ i. absurd (some_none i) })
      where
        some_none : Some a ≡ None → ⊥
        some_none i = cc

-- a state in parts

abbrev pub part_msgs : ℕ → ℕ → List (List Value × Bool) → List Outbound
part_msgs seq last [] = []
part_msgs seq last (p ∷ ps) = Message (server.State seq last p.0 p.1) ∷ part_msgs seq last ps

parts_append : (ps : List Part) (p : Part) (vs : List Value) → parts_items (ps ++ p ∷ []) ++ vs ≡ parts_items ps ++ (p.items ++ vs)
parts_append [] p vs = append_assoc p.items [] vs
parts_append (q ∷ ps) p vs = append_assoc q.items (parts_items (ps ++ p ∷ [])) vs ∙ ap (λ ws. q.items ++ ws) (parts_append ps p vs) ∙ sym (append_assoc q.items (parts_items ps) (p.items ++ vs))

fits_append : (ps : List Part) (seq last : ℕ) (items : List Value) → other_parts ps seq last ≡ None → other_parts (ps ++ record { seq = seq; last = last; items = items } ∷ []) seq last ≡ None
fits_append [] seq last items e = rw (eq-eqb seq seq refl, eq-eqb last last refl) refl
fits_append (p ∷ ps) seq last items e = e

module _ (s : State) (w : Option Resume) (seq last : ℕ) where
  whole_part : (p : Place) (vs : List Value) → IsOn p.stage → other_parts p.parts seq last ≡ None → tree_in (parts_items p.parts ++ vs) ≡ Some (tree_after s.tree (p.done ++ p.coming))
      → seq ≡ s.count + length (p.done ++ p.coming) → last ≡ last_after (actor_in w) 0 (p.done ++ p.coming)
      → Waits s w p (part_msgs seq last ((vs, false) ∷ [])) (record { stage = Synced; parts = []; done = p.done ++ p.coming; coming = [] })
  whole_part p vs on fits tree count told = record {
    next = record { stage = Synced; parts = []; done = p.done ++ p.coming; coming = [] };
    says = record { on = on; fits = fits; says = record { mid = p.coming; rest = []; coming = sym (append-nil p.coming); place = refl; count = count; told = told; tree = tree } };
    more = refl;
  }

  pub parts_wait : (n : ℕ) (p : Place) (vs : List Value) → IsOn p.stage → other_parts p.parts seq last ≡ None → tree_in (parts_items p.parts ++ vs) ≡ Some (tree_after s.tree (p.done ++ p.coming))
      → seq ≡ s.count + length (p.done ++ p.coming) → last ≡ last_after (actor_in w) 0 (p.done ++ p.coming)
      → Waits s w p (part_msgs seq last (parts_within n vs)) (record { stage = Synced; parts = []; done = p.done ++ p.coming; coming = [] })
  parts_wait zero p vs on fits tree count told = whole_part p vs on fits tree count told
  parts_wait (suc n) p vs on fits tree count told = by_size
      (parts_wait n (record p { parts = p.parts ++ record { seq = seq; last = last; items = front 1000 vs } ∷ [] }) (drop 1000 vs) on (fits_append p.parts seq last (front 1000 vs) fits)
      (ap tree_in (parts_append p.parts (record { seq = seq; last = last; items = front 1000 vs }) (drop 1000 vs) ∙ ap (λ ws. parts_items p.parts ++ ws) (take-append-drop 1000 vs)) ∙ tree) count told)
      (nat_le (length vs) 1000)
    where
      by_size : Waits s w (record p { parts = p.parts ++ record { seq = seq; last = last; items = front 1000 vs } ∷ [] }) (part_msgs seq last (parts_within n (drop 1000 vs))) (record { stage = Synced; parts = []; done = p.done ++ p.coming; coming = [] })
          → (b : Bool) → Waits s w p (part_msgs seq last (cond b ((vs, false) ∷ []) ((front 1000 vs, true) ∷ parts_within n (drop 1000 vs)))) (record { stage = Synced; parts = []; done = p.done ++ p.coming; coming = [] })
      by_size h true = whole_part p vs on fits tree count told
      by_size h false = record {
        next = record p { parts = p.parts ++ record { seq = seq; last = last; items = front 1000 vs } ∷ [] };
        says = record { on = on; fits = fits; says = refl };
        more = h;
      }

-- what becomes of a connection
pub record Same (l l' : Option Link) (ms : List Outbound) : Type 0 where
  pub link : l' ≡ l
  pub said : SaidTo l ms

pub record Left (l' : Option Link) (ms : List Outbound) (us : List Inbound) : Type 0 where
  pub link : l' ≡ None
  pub inbounds : us ≡ []
  pub sent : (ms ≡ []) ⊎ ((code : ℕ) × ((text : List ℕ) × (ms ≡ Closed code text ∷ [])))

pub record Fetched (v : State) (l l' : Option Link) (ms : List Outbound) : Type 0 where
  pub before : Link
  pub actor : ℕ
  pub link : l ≡ Some before
  pub named : before.actor ≡ Some actor
  pub now : l' ≡ Some (record before { fetched = true })
  pub size : ℕ
  pub sent : ms ≡ part_msgs v.count (last_of v.sessions actor) (parts_within size (items_of v.tree))

pub record Calmly (s : State) (r t : Run) (sends : ℕ → List Outbound) (inbounds : ℕ → List Inbound) : Type 0 where
  pub slots : (d : ℕ) → slot t.world d ≡ slot r.world d
  pub batches : (d : ℕ) → Invariant.issued_by t d ≡ Invariant.issued_by r d
  pub opened : t.world.opened ≡ r.world.opened
  pub log : updates_of t.log ≡ updates_of r.log
  pub given : t.given ≡ r.given
  pub state : state_in t.world.host ≡ state_in r.world.host
  pub hosts : Invariant.Hosts t.world.host
  pub conns : (j : ℕ) → Invariant.conn t.world j ≡ fed (Invariant.conn r.world j) (inbounds j) (sends j)
  pub there : (j : ℕ) → is_some (get r.world.conns j) ≡ true → is_some (get t.world.conns j) ≡ true
  pub unopened : (j : ℕ) → r.world.opened < j → inbounds j ≡ []
  pub at : (j d : ℕ) → (Invariant.conn r.world j).owner ≡ Some d → IsUndisturbed r d
      → Same (Invariant.link r.world j) (Invariant.link t.world j) (sends j) ⊎ (Left (Invariant.link t.world j) (sends j) (inbounds j) ⊎ Fetched (state_in r.world.host) (Invariant.link r.world j) (Invariant.link t.world j) (sends j))
  pub links : (j : ℕ) (l : Link) → Invariant.link t.world j ≡ Some l → (m : Link) × (Invariant.link r.world j ≡ Some m) × (m.actor ≡ l.actor)
  pub inbounds_are : (d j : ℕ) → (Invariant.conn r.world j).owner ≡ Some d → IsUndisturbed r d
      → Invariant.Inbounds ((slot r.world d).present ≡ Some j) (Invariant.core_of r.world d).session (Invariant.tried (Invariant.core_of r.world d)) (Invariant.issued_by r d)
      (last_of (Invariant.sessions r) (actor (Invariant.core_of r.world d))) (Invariant.link t.world j) (inbounds j)

module _ (s : State) (r t : Run) (sends : ℕ → List Outbound) (inbounds : ℕ → List Inbound) (st : Invariant.Inv s r) (h : Calmly s r t sends inbounds) where
  undo : (d : ℕ) → all_given d (actor (Invariant.core_of r.world d)) (r.given ++ []) ≡ true → IsUndisturbed r d
  undo d u = subst (λ g. all_given d (actor (Invariant.core_of r.world d)) g ≡ true) (append-nil r.given) u

  abbrev us : List Update
  us = updates_of r.log

  stays : (session : Option Resume) (d : ℕ) (w : Resume) → session ≡ None → all_given d w.actor (r.given ++ []) ≡ true → Invariant.New s us (Invariant.sessions r) w → Invariant.New s (us ++ []) (Invariant.sessions r) w
  stays session d w z u n = rw (append-nil us) n

  same_at : (d : ℕ) (session : Option Resume) (here : Place) (q ms : List Outbound) (l : Option Link) → SaidTo l ms
      → Invariant.Present s us (Invariant.sessions r) r.given d session here q l → Invariant.Present s (us ++ []) (Invariant.sessions r) (r.given ++ []) d session (grown [] here) (q ++ ms) l
  same_at d session here q ms None k p = rw (k.bare tt) (present_left s us (Invariant.sessions r) r.given [] d session here q [] (Invariant.sessions r) None (stays session d) p)
  same_at d session here q ms (Some l) k p = present_said s us (Invariant.sessions r) r.given [] d session here q (Invariant.sessions r) ms l (stays session d) k.bare k.said p

  left_at : (d : ℕ) (session : Option Resume) (here : Place) (q ms : List Outbound) (l : Option Link) → (ms ≡ []) ⊎ ((code : ℕ) × ((text : List ℕ) × (ms ≡ Closed code text ∷ [])))
      → Invariant.Present s us (Invariant.sessions r) r.given d session here q l → Invariant.Present s (us ++ []) (Invariant.sessions r) (r.given ++ []) d session (grown [] here) (q ++ ms) None
  left_at d session here q ms l (inl e) p = rw e (present_left s us (Invariant.sessions r) r.given [] d session here q [] (Invariant.sessions r) l (stays session d) p)
  left_at d session here q ms l (inr e) p = rw e.1.1 (present_closed s us (Invariant.sessions r) r.given [] d session here q (Invariant.sessions r) e.0 e.1.0 l (stays session d) p)

  fetched_at : (d : ℕ) (session : Option Resume) (here : Place) (q ms : List Outbound) (l l' : Option Link) → us ≡ here.done ++ here.coming
      → Fetched (state_in r.world.host) l l' ms
      → Invariant.Present s us (Invariant.sessions r) r.given d session here q l → Invariant.Present s (us ++ []) (Invariant.sessions r) (r.given ++ []) d session (grown [] here) (q ++ ms) l'
  fetched_at d session here q ms l l' w k p = go (subst (λ (o : Option Link). Invariant.Linked p.who here.stage q p.end o) k.link p.linked)
    where
      none_some : (a : ℕ) → None ≡ Some a → ⊥
      none_some a e = cc

      some_is : (a b : ℕ) → Some a ≡ Some b → a ≡ b
      some_is a b e = cc

      go : Invariant.Linked p.who here.stage q p.end (Some k.before) → Invariant.Present s (us ++ []) (Invariant.sessions r) (r.given ++ []) d session (grown [] here) (q ++ ms) l'
      go (inl g) = absurd (none_some k.actor (sym g.none ∙ k.named))
      go (inr g) =
          let all : us ≡ p.end.done ++ p.end.coming = w ∙ waits_whole s p.who here q p.end p.waits in
          let name : k.actor ≡ g.resume.actor = some_is k.actor g.resume.actor (sym k.named ∙ g.actor) in
          let told : last_of (Invariant.sessions r) k.actor ≡ last_after (actor_in p.who) 0 (p.end.done ++ p.end.coming) =
          ap (last_of (Invariant.sessions r)) (name ∙ ap actor_in (sym g.some)) ∙ st.logged.lasts (actor_in p.who) ∙ ap (λ i. last_after (actor_in p.who) i us) p.begun ∙ ap (λ vs. last_after (actor_in p.who) 0 vs) all in
          let tree : tree_in (parts_items p.end.parts ++ items_of (state_in r.world.host).tree) ≡ Some (tree_after s.tree (p.end.done ++ p.end.coming)) =
          ap (λ (ps : List Part). tree_in (parts_items ps ++ items_of (state_in r.world.host).tree)) g.whole ∙ st.logged.spelled ∙ ap Some st.logged.tree ∙ ap (λ vs. Some (tree_after s.tree vs)) all in
          let count : (state_in r.world.host).count ≡ s.count + length (p.end.done ++ p.end.coming) = st.logged.count ∙ ap (λ vs. s.count + length vs) all in
          let fits : other_parts p.end.parts (state_in r.world.host).count (last_of (Invariant.sessions r) k.actor) ≡ None = ap (λ (ps : List Part). other_parts ps (state_in r.world.host).count (last_of (Invariant.sessions r) k.actor)) g.whole in
          let waits = parts_wait s p.who (state_in r.world.host).count (last_of (Invariant.sessions r) k.actor) k.size p.end (items_of (state_in r.world.host).tree) g.on fits tree count told in
          rw (k.now, k.sent) (present_on s us (Invariant.sessions r) r.given [] d session here q [] (Invariant.sessions r) (part_msgs (state_in r.world.host).count (last_of (Invariant.sessions r) k.actor) (parts_within k.size (items_of (state_in r.world.host).tree))) l
          (Some (record (k.before) { fetched = true })) (record { stage = Synced; parts = []; done = p.end.done ++ p.end.coming; coming = [] }) (stays session d) p
          (subst (λ (e : Place). Waits s p.who e (part_msgs (state_in r.world.host).count (last_of (Invariant.sessions r) k.actor) (parts_within k.size (items_of (state_in r.world.host).tree))) (record { stage = Synced; parts = []; done = p.end.done ++ p.end.coming; coming = [] })) (sym (grown_nil p.end)) waits)
          (inr (record { resume = g.resume; some = g.some; actor = g.actor; on = tt; whole = refl; fetched = λ i. (refl, refl) })))

  present_at : (d j : ℕ) → IsUndisturbed r d → (slot r.world d).present ≡ Some j → (here : Place) → us ≡ here.done ++ here.coming
      → Same (Invariant.link r.world j) (Invariant.link t.world j) (sends j) ⊎ (Left (Invariant.link t.world j) (sends j) (inbounds j) ⊎ Fetched (state_in r.world.host) (Invariant.link r.world j) (Invariant.link t.world j) (sends j))
      → Invariant.Present s us (Invariant.sessions r) r.given d (Invariant.core_of r.world d).session here (Invariant.conn r.world j).outbound (Invariant.link r.world j)
      → Invariant.Present s (us ++ []) (Invariant.sessions r) (r.given ++ []) d (Invariant.core_of r.world d).session (grown [] here) ((Invariant.conn r.world j).outbound ++ sends j) (Invariant.link t.world j)
  present_at d j u e here w (inl k) p = rw k.link (same_at d (Invariant.core_of r.world d).session here (Invariant.conn r.world j).outbound (sends j) (Invariant.link r.world j) k.said p)
  present_at d j u e here w (inr (inl k)) p = rw k.link (left_at d (Invariant.core_of r.world d).session here (Invariant.conn r.world j).outbound (sends j) (Invariant.link r.world j) k.sent p)
  present_at d j u e here w (inr (inr k)) p = fetched_at d (Invariant.core_of r.world d).session here (Invariant.conn r.world j).outbound (sends j) (Invariant.link r.world j) (Invariant.link t.world j) w k p

  pub calm : Invariant.Inv s t
  calm = served s r t [] [] sends inbounds st (record {
    slots = h.slots;
    batches = h.batches;
    opened = h.opened;
    log = h.log ∙ sym (append-nil us);
    given_is = h.given ∙ sym (append-nil r.given);
    conns = h.conns;
    there = h.there;
    hosts = h.hosts;
    unopened = h.unopened;
    attached = λ j l e. let m = h.links j l e in (m.0, m.1);
    logged = rw (append-nil us) (subst (λ (z : State). Invariant.Logged s us z) (sym h.state) st.logged);
    given = λ j a l e f d g. let m = h.links j l e in st.given j a m.0 m.1 (m.2 ∙ f) d (subst (λ x. all_given d a x ≡ true) (append-nil r.given) g);
    actors = λ j a l e f. let m = h.links j l e in subst (λ (z : State). (0 < a) × (a ≤ length z.sessions)) (sym h.state) (st.actors j a m.0 m.1 (m.2 ∙ f));
    nobody = λ c. refl;
    owns = λ d u k. own_same s us (last_of (Invariant.sessions t) (actor (Invariant.core_of r.world d))) (Invariant.core_of r.world d) (Invariant.issued_by r d) k.done k.coming
        (subst (λ (z : State). Invariant.Own s us (last_of z.sessions (actor (Invariant.core_of r.world d))) (Invariant.core_of r.world d) (Invariant.issued_by r d) k.done k.coming) (sym h.state) k.own);
    stands = λ w k. subst (λ (z : State). Invariant.Stands s z.sessions w) (sym h.state) k;
    presents = λ d j u e here w k p. subst (λ (z : State). Invariant.Present s (us ++ []) z.sessions (r.given ++ []) d (Invariant.core_of r.world d).session (grown [] here) ((Invariant.conn r.world j).outbound ++ sends j) (Invariant.link t.world j)) (sym h.state)
        (present_at d j (undo d u) e here w (h.at j d (st.shape.present d j e).owner (undo d u)) p);
    inbounds_are = λ d j o u. subst (λ (z : State). Invariant.Inbounds ((slot r.world d).present ≡ Some j) (Invariant.core_of r.world d).session (Invariant.tried (Invariant.core_of r.world d)) (Invariant.issued_by r d)
        (last_of z.sessions (actor (Invariant.core_of r.world d))) (Invariant.link t.world j) (inbounds j)) (sym h.state) (h.inbounds_are d j o (undo d u));
  })
