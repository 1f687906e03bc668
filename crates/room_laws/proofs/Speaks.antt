-- A client's frames go up on its present connection.
use Rattle.std.proofs.Common.{◌≡◌, ℕ, ◌≤◌, ◌⊎◌, inl, inr, max, Bool, true, false, cond, List, [], ◌∷◌, ◌++◌, map, refl, sym, ap, ◌∙◌, subst, arith, append-nil, append_assoc}
use Rattle.std.proofs.lemmas.List.{map-append}
use Rattle.std.specs.Prelude.{Option, Some, None, is_some}
use Rattle.room_json.specs.Value.{Value}
use Rattle.room_json.specs.declared.tree.Json.{Json}
use Rattle.room_msg.specs.declared.messages.Resume.{Resume}
use Rattle.room_msg.specs.declared.messages.ClientMsg.{ClientMsg}
use Rattle.room_log.specs.Log.{State, Session, Update, last_of}
use Rattle.room_model.specs.Account.{Account, Batch, Stage, Idle, Dialled, Connected, Synced, actor_in, frame_of, frame_of_event}
use Rattle.room_model.specs.Presence.{unsent_members}
use Rattle.room_model.specs.Calls.{flushed, flush_frames, resent, resend_frames, patch_frames, held}
use Rattle.room_model.specs.Server.{Outbound, Link, Inbound}
use Rattle.room_model.specs.World.{inbound_frame}
use Rattle.room_laws.specs.Ledger.{upto}
use Rattle.room_laws.specs.Core.{Core, core, issued, actor}
use Rattle.room_laws.specs.Queues.{Place, IsOn, InOrder}
use Rattle.room_laws.specs.Invariant
use Rattle.room_laws.proofs.Batches.{upto-append, Runs-back}
use Rattle.room_laws.proofs.Queues.{order_append, order_above, frames}
use Rattle.room_laws.proofs.Owns.{sent_all, own_sent, told_is, rest_is}
use Rattle.room_laws.proofs.Cuts.{inbounds_idle}
use Rattle.room_laws.proofs.Sends.{Turned}

-- what a flush and a resend leave, by stage

abbrev pub flush_to : Stage → Core → Core
flush_to Idle x = x
flush_to Dialled x = x
flush_to Connected x = x
flush_to Synced x = sent_all x

pub flush_core : (a : Account) (g : Stage) → a.stage ≡ g → core (flushed a) ≡ flush_to g (core a)
flush_core a Idle e = rw e refl
flush_core a Dialled e = rw e refl
flush_core a Connected e = rw e refl
flush_core a Synced e = rw e refl

pub resent_core : (a : Account) (g : Stage) → a.stage ≡ g → core (resent a) ≡ flush_to g (core a)
resent_core a Idle e = rw e refl
resent_core a Dialled e = rw e refl
resent_core a Connected e = rw e refl
resent_core a Synced e = rw e refl

-- the presence and the events
abbrev pub said : Account → List (List ClientMsg)
said a = patch_frames (unsent_members a.unsent (held a) a.me) ++ map frame_of_event a.events

abbrev pub flush_says : Stage → Account → List (List ClientMsg)
flush_says Idle a = []
flush_says Dialled a = []
flush_says Connected a = said a
flush_says Synced a = said a ++ map (frame_of (actor_in a.session)) a.fresh

pub flush_said : (a : Account) (g : Stage) → a.stage ≡ g → flush_frames a ≡ flush_says g a
flush_said a Idle e = rw e refl
flush_said a Dialled e = rw e refl
flush_said a Connected e = rw e (append-nil (said a))
flush_said a Synced e = rw e refl

abbrev pub resend_says : Stage → Account → List (List ClientMsg)
resend_says Idle a = []
resend_says Dialled a = []
resend_says Connected a = []
resend_says Synced a = map (frame_of (actor_in a.session)) (issued (core a))

pub resend_said : (a : Account) (g : Stage) → a.stage ≡ g → resend_frames a ≡ resend_says g a
resend_said a Idle e = rw e refl
resend_said a Dialled e = rw e refl
resend_said a Connected e = rw e refl
resend_said a Synced e = rw e refl

-- no operations in them

patch_order : (b a : ℕ) (all : List Batch) (c : ℕ) (fs : List (List ℕ × Value)) → InOrder b a all c (map inbound_frame (patch_frames fs)) c
patch_order b a all c [] = refl
patch_order b a all c (f ∷ fs) = refl

events_order : (b a : ℕ) (all : List Batch) (c : ℕ) (es : List Json) → InOrder b a all c (map inbound_frame (map frame_of_event es)) c
events_order b a all c [] = refl
events_order b a all c (e ∷ es) = events_order b a all c es

pub said_order : (b a : ℕ) (all : List Batch) (c : ℕ) (x : Account) → InOrder b a all c (map inbound_frame (said x)) c
said_order b a all c x = subst (λ (us : List Inbound). InOrder b a all c us c) (sym (map-append inbound_frame (patch_frames (unsent_members x.unsent (held x) x.me)) (map frame_of_event x.events)))
    (order_append b a all c (map inbound_frame (patch_frames (unsent_members x.unsent (held x) x.me))) (map inbound_frame (map frame_of_event x.events)) c c
    (patch_order b a all c (unsent_members x.unsent (held x) x.me)) (events_order b a all c x.events))

-- Frames that may go up behind what waits: after them all that was tried to send waits, or is in the log
pub record Reaches (a : ℕ) (all : List Batch) (c : ℕ) (us : List Inbound) (tried : ℕ) : Type 0 where
  pub end : ℕ
  pub order : InOrder a a all c us end
  pub sent : tried ≤ end

abbrev pub Sendable : ℕ → List Batch → ℕ → ℕ → List Inbound → ℕ → Type 0
Sendable a all last tried us tried' = (reach : ℕ) → last ≤ reach → tried ≤ reach → Reaches a all reach us tried'

pub send_said : (a : ℕ) (all : List Batch) (last tried : ℕ) (x : Account) → Sendable a all last tried (map inbound_frame (said x)) tried
send_said a all last tried x reach l m = record { end = reach; order = said_order a a all reach x; sent = m }

pub send_append : (a : ℕ) (all : List Batch) (last tried mid end : ℕ) (us vs : List Inbound) → Sendable a all last tried us mid → Sendable a all last mid vs end → Sendable a all last tried (us ++ vs) end
send_append a all last tried mid end us vs f g reach l m =
    let p = f reach l m in
    let o = order_above a a all reach us p.end p.order in
    let q = g p.end (omega (arith, l, o)) p.sent in
    record { end = q.end; order = order_append a a all reach us vs p.end q.end p.order q.order; sent = q.sent }

module _ (s : State) (us : List Update) (last : ℕ) (x : Core) (all : List Batch) (done coming : List Update) (h : Invariant.Own s us last x all done coming) where
  pub send_fresh : Sendable (actor x) all last (Invariant.tried x) (map inbound_frame (map (frame_of (actor x)) x.fresh)) (Invariant.tried (sent_all x))
  send_fresh reach l m =
      let t = told_is s us last x all done coming h in
      let c = Runs-back x.told x.sent x.fresh t.chain in
      let parts : all ≡ (t.front ++ x.sent) ++ x.fresh = t.parts ∙ sym (append_assoc t.front x.sent x.fresh) in
      record {
        end = max reach (upto x.told (issued x));
        order = rw (parts, upto-append x.told x.sent x.fresh) (frames (actor x) (t.front ++ x.sent) x.fresh (upto x.told x.sent) reach c m);
        sent = omega arith;
      }

  pub send_issued : Sendable (actor x) all last (Invariant.tried x) (map inbound_frame (map (frame_of (actor x)) (issued x))) (Invariant.tried (sent_all x))
  send_issued reach l m =
      let t = told_is s us last x all done coming h in
      let f = rest_is s us last x all done coming h in
      record {
        end = max reach (upto x.told (issued x));
        order = rw t.parts (frames (actor x) t.front (issued x) x.told reach t.chain (omega (arith, f.above)));
        sent = omega arith;
      }

-- a client that is on holds the session of its connection
pub on_actor : (s : State) (us : List Update) (ss : List Session) (given : List (ℕ × Option ℕ)) (c : ℕ) (w : Option Resume) (here : Place) (q : List Outbound) (l : Option Link) (m : Link)
    → Invariant.Present s us ss given c w here q l → IsOn here.stage → l ≡ Some m → m.actor ≡ Some (actor_in w)
on_actor s us ss given c w here q l m p on e = at (subst (λ (o : Option Link). Invariant.Linked p.who here.stage q p.end o) e p.linked)
  where
    at : Invariant.Linked p.who here.stage q p.end (Some m) → m.actor ≡ Some (actor_in w)
    at (inl k) = absurd (subst IsOn k.dialled on)
    at (inr k) = k.actor ∙ ap (λ (o : Option Resume). Some (actor_in o)) (sym ((p.known on).0 ∙ k.some))

-- frames go behind what waits up
pub inbounds_send : (now : Type 0) (w : Option Resume) (tried tried' : ℕ) (all : List Batch) (last : ℕ) (l : Option Link) (q us : List Inbound) → now
    → ((m : Link) → l ≡ Some m → m.actor ≡ Some (actor_in w)) → Sendable (actor_in w) all last tried us tried'
    → Invariant.Inbounds now w tried all last l q → Invariant.Inbounds now w tried' all last l (cond (is_some l) (q ++ us) q)
inbounds_send now w tried tried' all last None q us n f g h = h
inbounds_send now w tried tried' all last (Some m) q us n f g h = at m.actor (f m refl) h
  where
    some_is : (a b : ℕ) → Some a ≡ Some b → a ≡ b
    some_is a b e = cc

    none_some : (a : ℕ) → None ≡ Some a → ⊥
    none_some a e = cc

    at : (o : Option ℕ) → o ≡ Some (actor_in w) → Invariant.InboundAt now w tried all last o q → Invariant.InboundAt now w tried' all last o (q ++ us)
    at None e u = absurd (none_some (actor_in w) e)
    at (Some b) e u =
        let r = g u.reach (order_above b (actor_in w) all last q u.reach u.order) (u.sent n) in
        record {
          some = u.some;
          reach = r.end;
          order = order_append b (actor_in w) all last q us u.reach r.end u.order (subst (λ i. InOrder i (actor_in w) all u.reach us r.end) (sym (some_is b (actor_in w) e)) r.order);
          sent = λ i. r.sent;
        }

-- nothing goes up
pub inbounds_mute : (now : Type 0) (w : Option Resume) (tried : ℕ) (all : List Batch) (last : ℕ) (l : Option Link) (q : List Inbound) (b : Bool)
    → Invariant.Inbounds now w tried all last l q → Invariant.Inbounds now w tried all last l (cond b (q ++ []) q)
inbounds_mute now w tried all last l q true h = rw (append-nil q) h
inbounds_mute now w tried all last l q false h = h

-- A client flushes, or sends all once more: y is what is left, and us goes up
module _ (s : State) (us : List Update) (ss : List Session) (given : List (ℕ × Option ℕ)) (c k : ℕ) (x : Core) (all : List Batch) (q : List Outbound) (l : Option Link) (inbounds fs : List Inbound)
    (h : Invariant.Client s us ss given c (Some k) x all q l) (u : Invariant.Inbounds (Some k ≡ Some k) x.session (Invariant.tried x) all (last_of ss (actor x)) l inbounds) where
  same_others : (y : Core) → y.session ≡ x.session → (m : Option Link) (r : List Inbound)
      → Invariant.Inbounds ⊥ x.session (Invariant.tried x) all (last_of ss (actor x)) m r → Invariant.Inbounds ⊥ y.session (Invariant.tried y) all (last_of ss (actor y)) m r
  same_others y e m r v = rw e (inbounds_idle ⊥ x.session (Invariant.tried x) (Invariant.tried y) all (last_of ss (actor x)) m r (λ i. i) v)

  -- nothing changes, and what goes up holds no operations, or nothing does
  pub turned_said : (IsOn x.stage × Sendable (actor x) all (last_of ss (actor x)) (Invariant.tried x) fs (Invariant.tried x)) ⊎ (fs ≡ [])
      → Turned s us ss given c k x x all q l (cond (is_some l) (inbounds ++ fs) inbounds)
  turned_said (inl f) = record {
    client = h;
    own = inbounds_send (Some k ≡ Some k) x.session (Invariant.tried x) (Invariant.tried x) all (last_of ss (actor x)) l inbounds fs refl
        (λ m e. on_actor s us ss given c x.session (Invariant.place x h.done h.coming) q l m h.standing f.0 e) f.1 u;
    others = same_others x refl;
  }
  turned_said (inr f) = record {
    client = h;
    own = rw f (inbounds_mute (Some k ≡ Some k) x.session (Invariant.tried x) all (last_of ss (actor x)) l inbounds (is_some l) u);
    others = same_others x refl;
  }

  pub turned_sent : x.stage ≡ Synced → Sendable (actor x) all (last_of ss (actor x)) (Invariant.tried x) fs (Invariant.tried (sent_all x))
      → Turned s us ss given c k x (sent_all x) all q l (cond (is_some l) (inbounds ++ fs) inbounds)
  turned_sent e f = record {
    client = record { done = h.done; coming = h.coming; own = own_sent s us (last_of ss (actor x)) x all h.done h.coming e h.own; stands = h.stands; standing = h.standing };
    own = inbounds_send (Some k ≡ Some k) x.session (Invariant.tried x) (Invariant.tried (sent_all x)) all (last_of ss (actor x)) l inbounds fs refl
        (λ m i. on_actor s us ss given c x.session (Invariant.place x h.done h.coming) q l m h.standing (subst IsOn (sym e) tt) i) f u;
    others = same_others (sent_all x) refl;
  }
