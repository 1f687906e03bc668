-- An undisturbed client takes what comes down: its account, and what comes of it.
use Rattle.std.proofs.Common.{◌≡◌, ℕ, ◌⊎◌, inl, inr, true, cond, List, [], ◌∷◌, ◌++◌, refl, sym, ap, ◌∙◌, subst}
use Rattle.std.specs.Prelude.{Option, Some, None, is_some}
use Rattle.room_msg.specs.declared.messages.Resume.{Resume}
use Rattle.room_log.specs.Log.{State, Session, Update, last_of}
use Rattle.room_model.specs.Account.{Account, Batch, Stage, Idle, Dialled, Connected, Synced, actor_in, is_on}
use Rattle.room_model.specs.Server.{Outbound, Link, Inbound}
use Rattle.room_laws.specs.Core.{Core, core, actor}
use Rattle.room_laws.specs.Queues.{Place, IsOn, Waits}
use Rattle.room_laws.specs.Invariant
use Rattle.room_laws.proofs.Cuts.{inbounds_idle}
use Rattle.room_laws.proofs.Sends.{Turned}
use Rattle.room_laws.proofs.Speaks.{Sendable, inbounds_send, inbounds_mute, on_actor}

pub on_true : (g : Stage) → IsOn g → is_on g ≡ true
on_true Idle h = absurd h
on_true Dialled h = absurd h
on_true Connected h = refl
on_true Synced h = refl

-- the link, as the queue gets shorter
pub linked_next : (w : Option Resume) (now then : Stage) (m : Outbound) (ms : List Outbound) (end : Place) (l : Option Link) → Invariant.Linked w now (m ∷ ms) end l → Invariant.Linked w then ms end l
linked_next w now then m ms end None h = tt
linked_next w now then m ms end (Some l) (inl h) = absurd (no_cons h.empty)
  where
    no_cons : m ∷ ms ≡ [] → ⊥
    no_cons e = cc
linked_next w now then m ms end (Some l) (inr h) = inr h

-- a message waits, so the connection has a session
pub linked_actor : (w : Option Resume) (now : Stage) (m : Outbound) (ms : List Outbound) (end : Place) (l : Link) → Invariant.Linked w now (m ∷ ms) end (Some l) → l.actor ≡ Some (actor_in w)
linked_actor w now m ms end l (inl h) = absurd (no_cons h.empty)
  where
    no_cons : m ∷ ms ≡ [] → ⊥
    no_cons e = cc
linked_actor w now m ms end l (inr h) = h.actor ∙ ap (λ (o : Option Resume). Some (actor_in o)) (sym h.some)

module _ (s : State) (us : List Update) (ss : List Session) (given : List (ℕ × Option ℕ)) (c k : ℕ) (x : Account) (all : List Batch) (m : Outbound) (ms : List Outbound) (l : Option Link) (inbounds : List Inbound)
    (h : Invariant.Client s us ss given c (Some k) (core x) all (m ∷ ms) l) (u : Invariant.Inbounds (Some k ≡ Some k) x.session (Invariant.tried (core x)) all (last_of ss (actor (core x))) l inbounds) where
  abbrev X : Core
  X = core x

  abbrev last : ℕ
  last = last_of ss (actor X)

  abbrev here : Place
  here = Invariant.place X h.done h.coming

  same_others : (y : Core) → y.session ≡ x.session → (o : Option Link) (r : List Inbound)
      → Invariant.Inbounds ⊥ x.session (Invariant.tried X) all last o r → Invariant.Inbounds ⊥ y.session (Invariant.tried y) all (last_of ss (actor y)) o r
  same_others y e o r v = rw e (inbounds_idle ⊥ x.session (Invariant.tried X) (Invariant.tried y) all last o r (λ i. i) v)

  -- where nothing that the laws read changes
  still_client : (h.standing).waits.next ≡ here → Invariant.Client s us ss given c (Some k) X all ms l
  still_client e = record {
    done = h.done;
    coming = h.coming;
    own = h.own;
    stands = h.stands;
    standing = record {
      who = (h.standing).who;
      named = (h.standing).named;
      known = (h.standing).known;
      begun = (h.standing).begun;
      end = (h.standing).end;
      waits = subst (λ (p : Place). Waits s (h.standing).who p ms (h.standing).end) e (h.standing).waits.more;
      linked = linked_next (h.standing).who x.stage x.stage m ms (h.standing).end l (h.standing).linked;
    };
  }

  pub turned_still : (us' : List Inbound) → (h.standing).waits.next ≡ here → (us' ≡ []) ⊎ (IsOn x.stage × Sendable (actor X) all last (Invariant.tried X) us' (Invariant.tried X))
      → Turned s us ss given c k X X all ms l (cond (is_some l) (inbounds ++ us') inbounds)
  turned_still us' e (inl f) = record {
    client = still_client e;
    own = rw f (inbounds_mute (Some k ≡ Some k) x.session (Invariant.tried X) all last l inbounds (is_some l) u);
    others = same_others X refl;
  }
  turned_still us' e (inr f) = record {
    client = still_client e;
    own = inbounds_send (Some k ≡ Some k) x.session (Invariant.tried X) (Invariant.tried X) all last l inbounds us' refl
        (λ n i. on_actor s us ss given c x.session here (m ∷ ms) l n h.standing f.0 i) f.1 u;
    others = same_others X refl;
  }

  -- a client that is on takes updates: y is the account after the updates `mid`
  on_client : (y : Core) (done coming : List Update) → IsOn x.stage → y.session ≡ x.session → (h.standing).waits.next ≡ Invariant.place y done coming
      → Invariant.Own s us last y all done coming → Invariant.Client s us ss given c (Some k) y all ms l
  on_client y done coming on e f own =
      let known = (h.standing).known on in
      record {
        done = done;
        coming = coming;
        own = subst (λ (w : Option Resume). Invariant.Own s us (last_of ss (actor_in w)) y all done coming) (sym e) own;
        stands = rw e h.stands;
        standing = record {
          who = (h.standing).who;
          named = inl (e ∙ known.0);
          known = λ i. (e ∙ known.0, known.1);
          begun = (h.standing).begun;
          end = (h.standing).end;
          waits = subst (λ (p : Place). Waits s (h.standing).who p ms (h.standing).end) f (h.standing).waits.more;
          linked = linked_next (h.standing).who x.stage y.stage m ms (h.standing).end l (h.standing).linked;
        };
      }

  pub on_turned : (y : Core) (done coming : List Update) (fs : List Inbound) → IsOn x.stage → y.session ≡ x.session → (h.standing).waits.next ≡ Invariant.place y done coming
      → Invariant.Own s us last y all done coming → Sendable (actor X) all last (Invariant.tried X) fs (Invariant.tried y)
      → Turned s us ss given c k X y all ms l (cond (is_some l) (inbounds ++ fs) inbounds)
  on_turned y done coming fs on e f own send = record {
    client = on_client y done coming on e f own;
    own = rw e (inbounds_send (Some k ≡ Some k) x.session (Invariant.tried X) (Invariant.tried y) all last l inbounds fs refl
        (λ n i. on_actor s us ss given c x.session here (m ∷ ms) l n h.standing on i) send u);
    others = same_others y e;
  }
