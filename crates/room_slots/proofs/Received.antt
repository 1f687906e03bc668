-- What a client does with what came down, and so the clients of a world.
use Rattle.std.proofs.Common.{◌≡◌, ℕ, List, [], ◌∷◌, map, Option, Some, None, Result, Ok, Err, refl, sym, ap, ◌∙◌}
use Rattle.std.proofs.Common.{cond, nat_cmp, subst}
use Rattle.std.specs.BTreeMap.{is_at}
use Rattle.std.specs.FinMap.{get, insert}
use Rattle.std.specs.Result.{IfOk}
use Rattle.std.proofs.lemmas.Result.{IfOk-at_ok}
use Rattle.room_json.specs.declared.tree.Json.{Json}
use Rattle.room_msg.specs.Frame.{server_frame_in}
use Rattle.room_msg.specs.Written.{client_text}
use Rattle.room_msg.specs.declared.messages.ClientMsg.{ClientMsg}
use Rattle.room_msg.specs.declared.messages.ServerFrame.{ServerFrame}
use Rattle.room_msg.specs.declared.messages.ServerFrame.TheVariants as read
use Rattle.room_msg.specs.declared.reason.Reason.{Reason}
use Rattle.room_model.specs.Account.{Account}
use Rattle.room_model.specs.Lines.{refused_line, frame_fault_words, event_lines}
use Rattle.room_model.specs.Receive as receive
use Rattle.room_model.specs.Receive.{Received, Refusal, frame}
use Rattle.room_model.specs.Server.{Outbound, Pong, Message, Closed}
use Rattle.room_model.specs.World.{Slot, Stepped, World, slot, slot_in, new_slot, with_slot, send_inbound, cut_present}
use Rattle.room_model.specs.World.{inbound_frame, frame_taken, client_takes}
use Rattle.room_moves.specs.Reading.{replies_in, replies_to}
use Rattle.room_client.specs.Faults.{fault_of}
use Rattle.room_client.specs.Given.{Given, IsRefused, given, given_of}
use Rattle.room_client.specs.declared.faults.FrameFault.{FrameFault}
use Rattle.room_client.specs.declared.faults.FrameFault.TheVariants as fault
use Rattle.room_client.specs.declared.outcome.Outcome.{Outcome}
use Rattle.room_queues.specs.Seen.{IsMail, IsSent, frame_of, outbound_in, outbound_of}
use Rattle.room_queues.specs.declared.mail.Mail.TheVariants.{Frame}
use Rattle.room_queues.proofs.Maps.{at, looked, put_view}
use Rattle.room_slots.specs.Refusals.{TellsFrame}
use Rattle.room_slots.specs.Slots.{Clients, as_map}
use Rattle.room_slots.specs.Taking.{Hears, Takes, sending}
use Rattle.room_slots.specs.declared.taking.Taken.{Taken}
use Rattle.room_slots.specs.declared.taking.Taken.TheVariants.{Heard, Lost}

-- what came down as a text is taken as it is read

never_closed : (r : Result ServerFrame Reason) (code : ℕ) (t : List ℕ) → outbound_of r ≡ Closed code t → ⊥
never_closed (Ok read.Pong) code t e = cc
never_closed (Ok (read.Msgs [])) code t e = cc
never_closed (Ok (read.Msgs (m ∷ ms))) code t e = cc
never_closed (Err r) code t e = cc

taken_at : (w : World) (line c k : ℕ) (p : Slot) (o : Outbound) (r : Result ServerFrame Reason) → outbound_of r ≡ o
    → r ≡ Ok (frame_of o) → client_takes w line c k p o ≡ frame_taken w line c k p (frame p.account r)
taken_at w line c k p Pong r is reads = ap (λ q. frame_taken w line c k p (frame p.account q)) (sym reads)
taken_at w line c k p (Message m) r is reads = ap (λ q. frame_taken w line c k p (frame p.account q)) (sym reads)
taken_at w line c k p (Closed code t) r is reads = absurd (never_closed r code t is)

taken_as : (w : World) (line c k : ℕ) (p : Slot) (t : List ℕ) → IsMail (Frame t)
    → client_takes w line c k p (outbound_in (Frame t))
    ≡ frame_taken w line c k p (frame p.account (server_frame_in t))
taken_as w line c k p t mail =
    taken_at w line c k p (outbound_of (server_frame_in t)) (server_frame_in t) refl mail.reads

replies_at : (p : Slot) (o : Outbound) (r : Result ServerFrame Reason) → outbound_of r ≡ o → r ≡ Ok (frame_of o)
    → replies_in (frame p.account r) ≡ replies_to p o
replies_at p Pong r is reads = ap (λ q. replies_in (frame p.account q)) reads
replies_at p (Message m) r is reads = ap (λ q. replies_in (frame p.account q)) reads
replies_at p (Closed code t) r is reads = absurd (never_closed r code t is)

replies_as : (p : Slot) (t : List ℕ) → IsMail (Frame t)
    → replies_in (frame p.account (server_frame_in t)) ≡ replies_to p (outbound_in (Frame t))
replies_as p t mail = replies_at p (outbound_of (server_frame_in t)) (server_frame_in t) refl mail.reads

-- a frame that is taken

given_is : {F : Type 0} (a b : Given) → ◌≡◌ {A = Result Given F} (Ok a) (Ok b) → a ≡ b
given_is a b e = cc

abbrev Answers : Stepped → World → ℕ → ℕ → Slot → List (List ClientMsg) → List (List ℕ) → Type 0
Answers s w c k q frames lines =
    (s.lines ≡ lines) × (s.world ≡ send_inbound (with_slot w c q) k (map inbound_frame frames))

abbrev heard_as : Slot → Given → Slot
heard_as p g = record { account = g.account; present = p.present; noticed = g.notices }

abbrev given_by : Received → Given
given_by r =
    record { account = r.account; replies = map client_text r.replies; events = r.events; notices = r.notices }

answers : (w : World) (line c k : ℕ) (p : Slot) (r : Result Received Refusal) (g : Given) → given r ≡ Ok g
    → Answers (frame_taken w line c k p r) w c k (heard_as p g) (replies_in r) (event_lines (Some c) g.events)
answers w line c k p (Err refusal) g h = (cc, cc)
answers w line c k p (Ok out) g h =
    subst (λ (g : Given). Answers (frame_taken w line c k p (Ok out)) w c k (heard_as p g) out.replies
    (event_lines (Some c) g.events)) (given_is (given_by out) g h) (refl, refl)

replies_are : (r : Result Received Refusal) (g : Given) → given r ≡ Ok g → g.replies ≡ map client_text (replies_in r)
replies_are (Err refusal) g h = cc
replies_are (Ok out) g h = sym (ap (λ (g : Given). g.replies) (given_is (given_by out) g h))

pub heard : (line c k : ℕ) (p : Slot) (y : Account) (o : Outcome) (t : List ℕ) (lines : List (List ℕ))
    → IsMail (Frame t) → given (frame p.account (server_frame_in t)) ≡ Ok (given_of y o)
    → lines ≡ event_lines (Some c) o.events
    → Hears p (heard_as p (given_of y o)) line c k (outbound_in (Frame t)) (Heard lines o.replies)
heard line c k p y o t lines mail h is =
    let r = frame p.account (server_frame_in t) in
    let frames = replies_as p t mail in (
      replies_are r (given_of y o) h ∙ ap (map client_text) frames,
      λ w.
          let e = taken_as w line c k p t mail in
          let a = answers w line c k p r (given_of y o) h in (
            ap (λ (s : Stepped). s.lines) e ∙ a.0 ∙ sym is,
            ap (λ (s : Stepped). s.world) e ∙ a.1
                ∙ ap (λ fs. send_inbound (with_slot w c (heard_as p (given_of y o))) k (map inbound_frame fs)) frames,
          ),
    )

-- a frame that is refused

abbrev lost_at : Slot → Account → Slot
lost_at p y = record { account = y; present = None; noticed = p.noticed }

cut_with : (w : World) (c : ℕ) (q : Slot) (cut : Option ℕ)
    → with_slot (cut_present w cut) c q ≡ cut_present (with_slot w c q) cut
cut_with w c q None = refl
cut_with w c q (Some k) = refl

abbrev Loses : Stepped → World → ℕ → Slot → Option ℕ → List ℕ → Type 0
Loses s w c q cut t = (s.lines ≡ t ∷ []) × (s.world ≡ cut_present (with_slot w c q) cut)

loses : (w : World) (line c k : ℕ) (p : Slot) (r : Result Received Refusal) (y : Account) (f : receive.FrameFault)
    (t : List ℕ) → r ≡ Err (record { account = y; fault = f }) → t ≡ refused_line line (frame_fault_words f)
    → Loses (frame_taken w line c k p r) w c (lost_at p y) p.present t
loses w line c k p r y f t h is = (
  ap (λ q. (frame_taken w line c k p q).lines) h ∙ ap (λ u. u ∷ []) (sym is),
  ap (λ q. (frame_taken w line c k p q).world) h ∙ cut_with w c (lost_at p y) p.present,
)

refused_at : (w : World) (line c k : ℕ) (p : Slot) (read : Result ServerFrame Reason) (y : Account) (f : FrameFault)
    (t : List ℕ) → IsRefused p.account read f y → TellsFrame line f t
    → Loses (frame_taken w line c k p (frame p.account read)) w c (lost_at p y) p.present t
refused_at w line c k p read y fault.Memory t h is = absurd is
refused_at w line c k p read y (fault.BadServerFrame r) t h is = loses w line c k p _ y _ t h is
refused_at w line c k p read y (fault.Unexpected n) t h is = loses w line c k p _ y _ t h is
refused_at w line c k p read y fault.NotATree t h is = loses w line c k p _ y _ t h is
refused_at w line c k p read y (fault.Gap e g) t h is = loses w line c k p _ y _ t h is
refused_at w line c k p read y (fault.Account e g) t h is = loses w line c k p _ y _ t h is
refused_at w line c k p read y (fault.Parts e g) t h is = loses w line c k p _ y _ t h is

pub refused : (line c k : ℕ) (p : Slot) (y : Account) (f : FrameFault) (t text : List ℕ) → IsMail (Frame t)
    → IsRefused p.account (server_frame_in t) f y → TellsFrame line f text
    → Hears p (lost_at p y) line c k (outbound_in (Frame t)) (Lost text p.present)
refused line c k p y f t text mail h is w =
    let e = taken_as w line c k p t mail in
    let a = refused_at w line c k p (server_frame_in t) y f text h is in
    (ap (λ (s : Stepped). s.lines) e ∙ a.0, ap (λ (s : Stepped). s.world) e ∙ a.1)

-- the same where the client is seen in parts

pub heard_seen : (line c k : ℕ) (p old : Slot) (y : Account) (o : Outcome) (t : List ℕ) (lines : List (List ℕ))
    → p ≡ old → IsMail (Frame t) → given (frame p.account (server_frame_in t)) ≡ Ok (given_of y o)
    → lines ≡ event_lines (Some c) o.events
    → Hears old (heard_as p (given_of y o)) line c k (outbound_in (Frame t)) (Heard lines o.replies)
heard_seen line c k p old y o t lines view mail h is =
    subst (λ q. Hears q (heard_as p (given_of y o)) line c k (outbound_in (Frame t)) (Heard lines o.replies)) view
    (heard line c k p y o t lines mail h is)

pub refused_seen : (line c k : ℕ) (p old : Slot) (y : Account) (f : FrameFault) (t text : List ℕ) → p ≡ old
    → IsMail (Frame t) → IsRefused p.account (server_frame_in t) f y → TellsFrame line f text
    → Hears old (lost_at p y) line c k (outbound_in (Frame t)) (Lost text p.present)
refused_seen line c k p old y f t text view mail h is =
    subst (λ q. Hears q (lost_at p y) line c k (outbound_in (Frame t)) (Lost text p.present)) view
    (refused line c k p y f t text mail h is)

-- the clients of a world

abbrev Comes : World → (line c k : ℕ) → Outbound → World → List (List ℕ) → Slot → Type 0
Comes w line c k m after ls p =
    ((client_takes w line c k p m).lines ≡ ls) × ((client_takes w line c k p m).world ≡ after)

put_world : (w : World) (c : ℕ) (q : Slot) (old new : Clients) → w.clients ≡ old → new ≡ insert old c q
    → with_slot w c q ≡ record w { clients = new }
put_world w c q old new is put = ap (λ ps. record w { clients = ps }) (ap (λ ps. insert ps c q) is ∙ sym put)

pub heard_by : (old new : Clients) (line c k : ℕ) (m : Outbound) (p q : Slot) (t : Taken) → slot_in (get old c) ≡ p
    → new ≡ insert old c q → Hears p q line c k m t → Takes old new line c k m t
heard_by old new line c k m p q (Heard lines replies) there put hears = (
  hears.0 ∙ ap (λ s. map client_text (replies_to s m)) (sym there),
  λ w is.
      let a = hears.1 w in
      let here : slot w c ≡ p = ap (λ ps. slot_in (get ps c)) is ∙ there in
      let after = ap (λ v. send_inbound v k (map inbound_frame (replies_to p m))) (put_world w c q old new is put)
      ∙ ap (λ s. sending w new k (replies_to s m)) (sym there) in
      subst (Comes w line c k m (sending w new k (replies_to (slot_in (get old c)) m)) lines)
      (sym here) (a.0, a.1 ∙ after),
)
heard_by old new line c k m p q (Lost text cut) there put hears = λ w is.
    let a = hears w in
    let here : slot w c ≡ p = ap (λ ps. slot_in (get ps c)) is ∙ there in
    subst (Comes w line c k m (cut_present (record w { clients = new }) cut) (text ∷ [])) (sym here)
    (a.0, a.1 ∙ ap (λ v. cut_present v cut) (put_world w c q old new is put))

-- with the entries beside the maps that they make
pub heard_in : (es fs : List (ℕ × Slot)) (old : Clients) (line c k : ℕ) (m : Outbound) (p q : Slot) (t : Taken)
    → as_map es ≡ old → at es c ≡ Some p → ((j : ℕ) → at fs j ≡ cond (is_at (nat_cmp c) j) (Some q) (at es j))
    → Hears p q line c k m t → Takes old (as_map fs) line c k m t
heard_in es fs old line c k m p q t view there put hears =
    heard_by old (as_map fs) line c k m p q t
    (ap slot_in (ap (λ ps. get ps c) (sym view) ∙ looked es c ∙ there))
    (put_view c q es fs put ∙ ap (λ ps. insert ps c q) view) hears

pub heard_fresh : {E F : Type 0} (es : List (ℕ × Slot)) (old new : Clients) (line c k : ℕ) (m : Outbound) (p q : Slot)
    (said : Result Taken E) (r : Result Taken F) → as_map es ≡ old → at es c ≡ None → p ≡ new_slot
    → IfOk said (Hears p q line c k m) → IfOk r (λ t. said ≡ Ok t) → IfOk r (λ t. new ≡ insert old c q)
    → IfOk r (Takes old new line c k m)
heard_fresh es old new line c k m p q said (Err e) view none fresh hears is put = tt
heard_fresh es old new line c k m p q said (Ok t) view none fresh hears is put =
    heard_by old new line c k m p q t
    (ap slot_in (ap (λ ps. get ps c) (sym view) ∙ looked es c ∙ none) ∙ sym fresh) put
    (IfOk-at_ok (Hears p q line c k m) is hears)
