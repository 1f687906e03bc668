-- What the server sends, on the connection that it comes to.
use Rattle.std.proofs.Common.{◌≡◌, ℕ, ◌+◌, inl, inr, Bool, true, false, cond, List, [], ◌∷◌, ◌++◌, length, refl, sym, ap, ◌∙◌, subst, append-nil, ⊎_elim}
use Rattle.std.specs.Prelude.{Option, Some, None}
use Rattle.room_msg.specs.declared.messages.Resume.{Resume}
use Rattle.room_msg.specs.declared.messages.ServerMsg.TheVariants as server
use Rattle.room_log.specs.Log.{State, Session, Update, ops_of}
use Rattle.room_model.specs.Account.{Stage, Idle, Synced, actor_in}
use Rattle.room_model.specs.Server.{Outbound, Message, Closed, Link, has_fetched}
use Rattle.room_model.specs.Run.{all_given}
use Rattle.room_laws.specs.Queues.{Place, IsOn, Says, Waits}
use Rattle.room_laws.specs.Invariant
use Rattle.room_laws.proofs.Maps.{passes}
use Rattle.room_laws.proofs.Queues.{grown, waits_grow, waits_append, waits_whole}
use Rattle.room_laws.proofs.RunSteps.{given_before}

pub grown_nil : (p : Place) → grown [] p ≡ p
grown_nil p = ap (λ (us : List Update). record p { coming = us }) (append-nil p.coming)

-- each may be taken anywhere, or wherever the client is on
abbrev pub AllSaid : List Outbound → Type 0
AllSaid [] = Unit {0}
AllSaid (m ∷ ms) = ((s : State) (w : Option Resume) (p : Place) → IsOn p.stage → Says s w p m p) × AllSaid ms

pub waits_said : (s : State) (w : Option Resume) (p : Place) (ms : List Outbound) → IsOn p.stage → AllSaid ms → Waits s w p ms p
waits_said s w p [] on h = refl
waits_said s w p (m ∷ ms) on h = record { next = p; says = h.0 s w p on; more = waits_said s w p ms on h.1 }

module _ (s : State) (us : List Update) (ss : List Session) (given more : List (ℕ × Option ℕ)) (c : ℕ) (session : Option Resume) (here : Place) (q : List Outbound) where
  abbrev Before : Option Link → Type 0
  Before l = Invariant.Present s us ss given c session here q l

  abbrev After : List Update → List Session → List Outbound → Option Link → Type 0
  After grew ts ms l = Invariant.Present s (us ++ grew) ts (given ++ more) c session (grown grew here) (q ++ ms) l

  -- how a session that the client doesn't know goes on being new
  abbrev StaysNew : List Update → List Session → Type 0
  StaysNew grew ts = (w : Resume) → session ≡ None → all_given c w.actor (given ++ more) ≡ true → Invariant.New s us ss w → Invariant.New s (us ++ grew) ts w

  new_in : (grew : List Update) (ts : List Session) (o : Option Resume) → session ≡ None → StaysNew grew ts → (all_given c (actor_in o) given ≡ true → Invariant.NewIn s us ss o)
      → all_given c (actor_in o) (given ++ more) ≡ true → Invariant.NewIn s (us ++ grew) ts o
  new_in grew ts None z f g u = absurd (g (given_before c 0 given more u))
  new_in grew ts (Some w) z f g u = f w z u (g (given_before c w.actor given more u))

  -- the general form: the queue goes on to another place
  pub present_on : (grew : List Update) (ts : List Session) (ms : List Outbound) (l l' : Option Link) (end : Place) → StaysNew grew ts → (p : Before l)
      → Waits s p.who (grown grew p.end) ms end → Invariant.Linked p.who here.stage (q ++ ms) end l' → After grew ts ms l'
  present_on grew ts ms l l' end f p w k = record {
    who = p.who;
    named = ⊎_elim (λ e. inl e) (λ n. inr (record { unknown = n.unknown; new = λ u. new_in grew ts p.who n.unknown f n.new u })) p.named;
    known = p.known;
    begun = p.begun;
    end = end;
    waits = waits_append s p.who (grown grew here) q (grown grew p.end) ms end (waits_grow s p.who here q p.end grew p.waits) w;
    linked = k;
  }

  -- nothing comes, or what may be taken wherever a client is on
  linked_said : (o : Option Resume) (now : Stage) (end : Place) (ms : List Outbound) (l : Link) → (l.actor ≡ None → ms ≡ []) → Invariant.Linked o now q end (Some l) → Invariant.Linked o now (q ++ ms) end (Some l)
  linked_said o now end ms l f (inl k) = inl (record { none = k.none; unfetched = k.unfetched; empty = ap (λ ns. q ++ ns) (f k.none) ∙ append-nil q ∙ k.empty; dialled = k.dialled; whole = k.whole })
  linked_said o now end ms l f (inr k) = inr k

  waits_linked : (o : Option Resume) (now : Stage) (end : Place) (ms : List Outbound) (l : Link) → (l.actor ≡ None → ms ≡ []) → AllSaid ms → Invariant.Linked o now q end (Some l) → Waits s o end ms end
  waits_linked o now end ms l f h (inl k) = rw (f k.none) refl
  waits_linked o now end ms l f h (inr k) = waits_said s o end ms k.on h

  pub present_said : (ts : List Session) (ms : List Outbound) (l : Link) → StaysNew [] ts → (l.actor ≡ None → ms ≡ []) → AllSaid ms → Before (Some l) → After [] ts ms (Some l)
  present_said ts ms l f g h p = present_on [] ts ms (Some l) (Some l) p.end f p
      (subst (λ (e : Place). Waits s p.who e ms p.end) (sym (grown_nil p.end)) (waits_linked p.who here.stage p.end ms l g h p.linked))
      (linked_said p.who here.stage p.end ms l g p.linked)

  -- a connection that isn't attached, or is left
  pub present_left : (grew : List Update) (ts : List Session) (l : Option Link) → StaysNew grew ts → Before l → After grew ts [] None
  present_left grew ts l f p = present_on grew ts [] l None (grown grew p.end) f p refl tt

  -- the server closes it
  pub present_closed : (ts : List Session) (code : ℕ) (text : List ℕ) (l : Option Link) → StaysNew [] ts → Before l → After [] ts (Closed code text ∷ []) None
  present_closed ts code text l f p = present_on [] ts (Closed code text ∷ []) l None (record (grown [] p.end) { stage = Idle; parts = [] }) f p
      (record { next = record (grown [] p.end) { stage = Idle; parts = [] }; says = refl; more = refl }) tt

  -- an update comes where it has fetched
  news_waits : (o : Option Resume) (now : Stage) (end : Place) (u : Update) (seq : ℕ) (l : Link) (b : Bool) → l.fetched ≡ b → seq ≡ s.count + length (end.done ++ end.coming) + 1 → Invariant.Linked o now q end (Some l)
      → (next : Place) × Waits s o (grown (u ∷ []) end) (cond b (Message (server.Update seq (ops_of u)) ∷ []) []) next × Invariant.Linked o now (q ++ cond b (Message (server.Update seq (ops_of u)) ∷ []) []) next (Some l)
  news_waits o now end u seq l false e f (inl k) = (grown (u ∷ []) end, refl, inl (record { none = k.none; unfetched = k.unfetched; empty = append-nil q ∙ k.empty; dialled = k.dialled; whole = k.whole }))
  news_waits o now end u seq l true e f (inl k) = absurd (no (sym k.unfetched ∙ e))
    where
      no : false ≡ true → ⊥
      no i = cc
  news_waits o now end u seq l false e f (inr k) = (grown (u ∷ []) end, refl, inr (record { resume = k.resume; some = k.some; actor = k.actor; on = k.on; whole = k.whole; fetched = λ i. absurd (no (sym e ∙ i)) }))
    where
      no : false ≡ true → ⊥
      no i = cc
  news_waits o now end u seq l true e f (inr k) =
      let g = k.fetched e in
      let next : Place = record { stage = Synced; parts = []; done = end.done ++ u ∷ []; coming = [] } in (
        next,
        record {
          next = next;
          says = record {
            before = g.0;
            whole = k.whole;
            update = u;
            rest = [];
            coming = ap (λ vs. vs ++ u ∷ []) g.1;
            place = refl;
            count = f ∙ ap (λ vs. s.count + length vs + 1) (ap (λ vs. end.done ++ vs) g.1 ∙ append-nil end.done);
            ops = refl;
          };
          more = refl;
        },
        inr (record { resume = k.resume; some = k.some; actor = k.actor; on = tt; whole = refl; fetched = λ i. (refl, refl) }),
      )

  pub present_news : (ts : List Session) (u : Update) (seq : ℕ) (l : Option Link) → StaysNew (u ∷ []) ts → us ≡ here.done ++ here.coming → seq ≡ s.count + length us + 1
      → Before l → After (u ∷ []) ts (passes has_fetched (Message (server.Update seq (ops_of u))) l) l
  present_news ts u seq None f w n p = present_on (u ∷ []) ts [] None None (grown (u ∷ []) p.end) f p refl tt
  present_news ts u seq (Some l) f w n p =
      let all = w ∙ waits_whole s p.who here q p.end p.waits in
      let k = news_waits p.who here.stage p.end u seq l l.fetched refl (n ∙ ap (λ vs. s.count + length vs + 1) all) p.linked in
      present_on (u ∷ []) ts (cond l.fetched (Message (server.Update seq (ops_of u)) ∷ []) []) (Some l) (Some l) k.0 f p k.1 k.2
