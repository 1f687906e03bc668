-- What goes out is seen as it was meant, where it is read so.
use Rattle.std.proofs.Common.{◌≡◌, ℕ, Bool, true, cond, List, [], ◌∷◌, map, Option, Some, is_some, Result, Ok, Err}
use Rattle.std.proofs.Common.{OnOk, refl, sym, ap, ◌∙◌, subst}
use Rattle.room_json.specs.declared.memory.NoMemory.{NoMemory}
use Rattle.room_replay.specs.Files.{Files}
use Rattle.room_host.specs.Seen.{host_in}
use Rattle.room_world.specs.Did.{Becomes}
use Rattle.room_world.specs.Seen.{Peopled, world_in}
use Rattle.std.specs.Ordering.{nat_cmp}
use Rattle.std.specs.FinMap.{FinMap, get}
use Rattle.room_msg.specs.Frame.{client_frame_in}
use Rattle.room_msg.specs.Written.{client_text}
use Rattle.room_msg.specs.declared.messages.ClientMsg.{ClientMsg}
use Rattle.room_links.specs.declared.outs.Out.{Out}
use Rattle.room_model.specs.World.{World, Conn, deliver, send_inbound, send_present, is_attached, links_of}
use Rattle.room_model.specs.World.{inbound_frame}
use Rattle.room_moves.specs.Parts.{with_conns}
use Rattle.room_moves.proofs.Parts.{sends}
use Rattle.room_moves.specs.Reading.{AreFramesRead}
use Rattle.room_moves.proofs.Reading.{frames_seen}
use Rattle.room_queues.specs.declared.mail.Mail.{Mail}
use Rattle.room_queues.specs.Calls.{sent}
use Rattle.room_links.specs.Outs.{written}
use Rattle.room_model.specs.Server.{Outbound, Pong, Message, Closed}
use Rattle.room_moves.specs.Reading.{AreSendsRead, mail_of}
use Rattle.room_moves.proofs.Reading.{outs_seen}
use Rattle.room_queues.specs.Seen.{IsMail, outbound_in, outs_in}
use Rattle.room_world.specs.Sending.{mail_to, AreSent}

mail_is : (o : ℕ × Outbound) → mail_to (written o) ≡ (o.0, mail_of o.1)
mail_is (k, Pong) = refl
mail_is (k, Message m) = refl
mail_is (k, Closed code text) = refl

pub delivered : (os : List (ℕ × Outbound)) → AreSendsRead os → AreSent (map written os)
delivered [] r = tt
delivered (o ∷ os) r = (subst (λ m. IsMail m.1) (sym (mail_is o)) (outs_seen o.1 r.0).0, delivered os r.1)

pub arrived : (os : List (ℕ × Outbound)) → AreSendsRead os → outs_in (map mail_to (map written os)) ≡ os
arrived [] r = refl
arrived (o ∷ os) r = ap (λ x. (x.0, outbound_in x.1) ∷ outs_in (map mail_to (map written os))) (mail_is o)
    ∙ ap (λ x. (o.0, x) ∷ outs_in (map mail_to (map written os))) (outs_seen o.1 r.0).1
    ∙ ap (λ xs. o ∷ xs) (arrived os r.1)

pub sent_down : (os : List (ℕ × Outbound)) (outs : List Out) (mails : List (ℕ × Mail)) (qs new : FinMap nat_cmp Conn)
    → mails ≡ map mail_to outs → new ≡ deliver qs (outs_in mails) → outs ≡ map written os → AreSendsRead os
    → new ≡ deliver qs os
sent_down os outs mails qs new m e o r =
    e ∙ ap (λ ms. deliver qs (outs_in ms)) (m ∙ ap (map mail_to) o) ∙ ap (deliver qs) (arrived os r)

-- texts of frames go up on a connection that is attached
pub sent_up : (w : World) (k : ℕ) (frames : List (List ClientMsg)) (texts : List (List ℕ))
    (qs new : FinMap nat_cmp Conn) → w.conns ≡ qs → is_attached w k ≡ true
    → texts ≡ map client_text frames → AreFramesRead frames → new ≡ sent qs k (map client_frame_in texts) (get qs k)
    → send_inbound w k (map inbound_frame frames) ≡ with_conns w new
sent_up w k frames texts qs new is at t r e =
    sends w k (map inbound_frame frames)
    ∙ ap (λ b. with_conns w (cond b (sent w.conns k (map inbound_frame frames) (get w.conns k)) w.conns)) at
    ∙ ap (λ us. with_conns w (sent w.conns k us (get w.conns k)))
    (sym (ap (map client_frame_in) t ∙ frames_seen frames r))
    ∙ ap (λ x. with_conns w (sent x k (map client_frame_in texts) (get x k))) is
    ∙ ap (with_conns w) (sym e)

-- on a client's connection, where the queues became `new`
pub present_sent : (p q : Peopled) (new : FinMap nat_cmp Conn) (present : Option ℕ) (k : ℕ) (attached : Bool)
    (frames : List (List ClientMsg)) (result : Result Unit NoMemory) → p ≡ q → present ≡ Some k
    → ((fs : Files) → attached ≡ is_some (get (links_of (host_in q.hosting.server fs)) k))
    → ((w : World) → w.conns ≡ q.conns → is_attached w k ≡ attached
    → OnOk result (send_inbound w k (map inbound_frame frames) ≡ with_conns w new))
    → OnOk result (Becomes p (record q { conns = new }) (λ w. send_present w present frames))
present_sent p q new present k attached frames (Err e) is some at up = tt
present_sent p q new present k attached frames (Ok x) is some at up = λ fs fuse.
    sym (ap (λ p. send_present (world_in p fs fuse) present frames) is
    ∙ ap (λ o. send_present (world_in q fs fuse) o frames) some
    ∙ up (world_in q fs fuse) refl (sym (at fs)))
