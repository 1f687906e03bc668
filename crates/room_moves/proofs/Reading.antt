-- What is sent as a text is read as it was meant.
use Rattle.std.proofs.Common.{◌≡◌, List, [], ◌∷◌, map, refl, sym, ap, ◌∙◌, subst}
use Rattle.room_msg.specs.Frame.{client_frame_in, server_frame_in}
use Rattle.room_msg.specs.Written.{client_text, server_text}
use Rattle.room_model.specs.Server.{Outbound, Pong, Message, Closed}
use Rattle.room_model.specs.World.{inbound_frame}
use Rattle.room_queues.specs.Seen.{IsSent, outbound_of}
use Rattle.room_moves.specs.Reading.{FramesAreSeen, OutsAreSeen}

pub frames_seen : FramesAreSeen
frames_seen [] h = refl
frames_seen (f ∷ fs) h =
    ap (λ u. u ∷ map client_frame_in (map client_text fs)) h.0 ∙ ap (λ us. inbound_frame f ∷ us) (frames_seen fs h.1)

sent_as : (t : List _) (o : Outbound) → outbound_of (server_frame_in t) ≡ o → IsSent t o
    → IsSent t (outbound_of (server_frame_in t))
sent_as t o is sent = subst (IsSent t) (sym is) sent

pub outs_seen : OutsAreSeen
outs_seen Pong h = (record { reads = refl; text = refl }, refl)
outs_seen (Message m) h =
    let is : outbound_of (server_frame_in (server_text m)) ≡ Message m = ap outbound_of h in
    (sent_as (server_text m) (Message m) is (record { reads = h; text = refl }), is)
outs_seen (Closed code text) h = (tt, refl)

pub ruleset reading = (frames_seen, outs_seen)
