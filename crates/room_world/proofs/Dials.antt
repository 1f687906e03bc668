-- A dial, a loss and what is sent, as the world's line, by what is done to its parts.
use Rattle.std.proofs.Common.{◌≡◌, ℕ, ◌+◌, Bool, List, [], ◌∷◌, map, Option, Some, refl, sym, ap, ◌∙◌, subst}
use Rattle.std.proofs.Common.{is_some}
use Rattle.std.specs.Ordering.{nat_cmp}
use Rattle.std.specs.FinMap.{FinMap, get, insert}
use Rattle.room_replay.specs.Files.{Files}
use Rattle.room_msg.specs.declared.messages.ClientMsg.{ClientMsg}
use Rattle.room_model.specs.Calls.{dialled, hello_of}
use Rattle.room_model.specs.Lines as lines
use Rattle.room_model.specs.World.{World, Conn, Slot, Fuse, slot_in, cut_present, open_conn, send_inbound}
use Rattle.room_model.specs.World.{inbound_frame, with_slot, with_account, send_present, client_calls, quiet}
use Rattle.room_model.specs.Account.{Account}
use Rattle.room_model.specs.World.{is_attached, links_of}
use Rattle.room_msg.specs.Written.{client_text}
use Rattle.room_moves.specs.Parts.{with_conns}
use Rattle.room_moves.specs.Reading.{AreFramesRead}
use Rattle.room_host.specs.Seen.{host_in}
use Rattle.room_slots.specs.Slots.{Clients, dialled_on}
use Rattle.room_world.specs.Did.{Does, Becomes}
use Rattle.room_world.specs.Seen.{Peopled, world_in}

abbrev pub with_clients : Peopled → Clients → Peopled
with_clients p new = record p { clients = new }

abbrev pub with_queues : Peopled → FinMap nat_cmp Conn → Peopled
with_queues p qs = record p { conns = qs }

-- texts that go up on a connection
abbrev pub Sends : Peopled → FinMap nat_cmp Conn → ℕ → List (List ClientMsg) → Type 0
Sends p qs k frames = (fs : Files) (fuse : Option Fuse)
    → send_inbound (world_in p fs fuse) k (map inbound_frame frames) ≡ world_in (with_queues p qs) fs fuse

opened_by : (p q r : Peopled) (c : ℕ) (present : Option ℕ) (fs : Files) (fuse : Option Fuse)
    → Becomes p q (λ w. cut_present w present) → Becomes q r (λ w. open_conn w (Some c))
    → open_conn (cut_present (world_in p fs fuse) present) (Some c) ≡ world_in r fs fuse
opened_by p q r c present fs fuse b d =
    sym (d fs fuse ∙ ap (λ w. open_conn w (Some c)) (b fs fuse))

abbrev said_on : ℕ → ℕ → Slot → World → World
said_on c k t w = send_inbound (with_slot w c (dialled_on k t)) k (inbound_frame (hello_of (dialled t.account)) ∷ [])

pub dials : (p q r : Peopled) (number c k : ℕ) (qs : FinMap nat_cmp Conn)
    → Becomes p q (λ w. cut_present w (slot_in (get p.clients c)).present)
    → Becomes q r (λ w. open_conn w (Some c)) → r.clients ≡ p.clients → k ≡ p.opened + 1
    → Sends (with_clients r (insert r.clients c (dialled_on k (slot_in (get r.clients c))))) qs k
    (hello_of (dialled (slot_in (get r.clients c)).account) ∷ [])
    → Does p (with_queues (with_clients r (insert r.clients c (dialled_on k (slot_in (get r.clients c))))) qs) number
    (lines.OfClient c lines.Dial) []
dials p q r number c k qs b d same is sends fs fuse =
    let s = slot_in (get p.clients c) in
    record {
      lines_are = refl;
      world_is = ap (said_on c (p.opened + 1) s) (opened_by p q r c s.present fs fuse b d)
          ∙ ap (λ k. said_on c k s (world_in r fs fuse)) (sym is)
          ∙ ap (λ m. said_on c k (slot_in (get m c)) (world_in r fs fuse)) (sym same)
          ∙ sends fs fuse;
    }

pub speaks : (p q r : Peopled) (number c : ℕ) (call : lines.Call) (x : Slot → Account)
    (frames : Slot → List (List ClientMsg))
    → ((w : World) (s : Slot) → client_calls w number c s call
    ≡ quiet (send_present (with_slot w c (with_account s (x s))) s.present (frames s)))
    → q ≡ with_clients p (insert p.clients c (with_account (slot_in (get p.clients c)) (x (slot_in (get p.clients c)))))
    → Becomes q r (λ w. send_present w (slot_in (get p.clients c)).present (frames (slot_in (get p.clients c))))
    → Does p r number (lines.OfClient c call) []
speaks p q r number c call x frames calls is b fs fuse =
    let s = slot_in (get p.clients c) in
    let w = world_in p fs fuse in
    record {
      lines_are = ap (λ o. o.lines) (calls w s);
      world_is = ap (λ o. o.world) (calls w s)
          ∙ sym (b fs fuse ∙ ap (λ q. send_present (world_in q fs fuse) s.present (frames s)) is);
    }

-- what is sent on the client's connection, where the clients became `new`
pub spoken : (p q r : Peopled) (new : Clients) (number c : ℕ) (call : lines.Call) (x : Slot → Account)
    (frames : Slot → List (List ClientMsg)) (present : Option ℕ) (texts : List (List ℕ))
    → ((w : World) (s : Slot) → client_calls w number c s call
    ≡ quiet (send_present (with_slot w c (with_account s (x s))) s.present (frames s)))
    → p ≡ q
    → new ≡ insert q.clients c (with_account (slot_in (get q.clients c)) (x (slot_in (get q.clients c))))
    → texts ≡ map client_text (frames (slot_in (get q.clients c)))
    → ((ms : List (List ClientMsg)) → texts ≡ map client_text ms → AreFramesRead ms
    → Becomes (with_clients q new) r (λ w. send_present w present ms))
    → present ≡ (slot_in (get p.clients c)).present → AreFramesRead (frames (slot_in (get p.clients c)))
    → Does p r number (lines.OfClient c call) []
spoken p q r new number c call x frames present texts calls is put said sends =
    let ms = frames (slot_in (get q.clients c)) in
    subst (λ (y : Peopled). present ≡ (slot_in (get y.clients c)).present
    → AreFramesRead (frames (slot_in (get y.clients c))) → Does y r number (lines.OfClient c call) []) (sym is)
    (λ own read. speaks q (with_clients q new) r number c call x frames calls (ap (with_clients q) put)
    (subst (λ (o : Option ℕ). Becomes (with_clients q new) r (λ w. send_present w o ms)) own (sends ms said read)))

-- the first frame goes up on the new connection, where the world became `o` as that was opened
pub dialled_by : (p q r o : Peopled) (number c k : ℕ) (present : Option ℕ) (new : Clients) (hello : List ℕ)
    (texts : List (List ℕ)) (attached : Bool) (qs : FinMap nat_cmp Conn)
    → present ≡ (slot_in (get p.clients c)).present
    → Becomes p q (λ w. cut_present w present) → q.clients ≡ p.clients → q.opened ≡ p.opened
    → Becomes q r (λ w. open_conn w (Some c)) → r.clients ≡ q.clients → k ≡ q.opened + 1 → r ≡ o
    → hello ≡ client_text (hello_of (dialled (slot_in (get o.clients c)).account))
    → new ≡ insert o.clients c (dialled_on k (slot_in (get o.clients c)))
    → ((fs : Files) → attached ≡ is_some (get (links_of (host_in o.hosting.server fs)) k)) → texts ≡ hello ∷ []
    → ((w : World) (frames : List (List ClientMsg)) → w.conns ≡ o.conns → is_attached w k ≡ attached
    → texts ≡ map client_text frames → AreFramesRead frames
    → send_inbound w k (map inbound_frame frames) ≡ with_conns w qs)
    → AreFramesRead (hello_of (dialled (slot_in (get p.clients c)).account) ∷ [])
    → Does p (with_queues (with_clients o new) qs) number (lines.OfClient c lines.Dial) []
dialled_by p q r o number c k present new hello texts attached qs own cut kept count opens stay next is says put at one
    up read =
    let same : o.clients ≡ p.clients = ap (λ (y : Peopled). y.clients) (sym is) ∙ stay ∙ kept in
    let frame = hello_of (dialled (slot_in (get o.clients c)).account) in
    let there : AreFramesRead (frame ∷ []) =
    subst (λ (m : Clients). AreFramesRead (hello_of (dialled (slot_in (get m c)).account) ∷ [])) (sym same) read in
    subst (λ (m : Clients). Does p (with_queues (with_clients o m) qs) number (lines.OfClient c lines.Dial) [])
    (sym put)
    (dials p q o number c k qs
    (subst (λ (y : Option ℕ). Becomes p q (λ w. cut_present w y)) own cut)
    (subst (λ (y : Peopled). Becomes q y (λ w. open_conn w (Some c))) is opens) same
    (next ∙ ap (λ n. n + 1) count)
    (λ fs fuse. up
    (world_in (with_clients o (insert o.clients c (dialled_on k (slot_in (get o.clients c))))) fs fuse)
    (frame ∷ []) refl (sym (at fs)) (one ∙ ap (λ t. t ∷ []) says) there))
