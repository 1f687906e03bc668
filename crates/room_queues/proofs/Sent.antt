-- What is sent is seen as it was meant.
use Rattle.std.proofs.Common.{◌≡◌, ℕ, List, true, false, refl, sym, ap, subst}
use Rattle.room_msg.specs.Frame.{server_frame_in}
use Rattle.room_model.specs.Server.{Outbound, Pong, Message, Closed}
use Rattle.room_model.specs.World.{is_close}
use Rattle.room_queues.specs.Laws.{SentAreSeen, SeenAreMail, PongIsSent}
use Rattle.room_queues.specs.Seen.{IsSent, outbound_of}
use Rattle.room_queues.proofs.Depths.{fits_depth}

pub sent_seen : SentAreSeen
sent_seen m t fits again is = record { reads = again (fits_depth m fits); text = is }

pub pong_sent : PongIsSent
pong_sent = record { reads = refl; text = refl }

true_false : true ≡ false → ⊥
true_false e = cc

seen : (t : List ℕ) (o : Outbound) → is_close o ≡ false → IsSent t o → outbound_of (server_frame_in t) ≡ o
seen t Pong h s = ap outbound_of s.reads
seen t (Message m) h s = ap outbound_of s.reads
seen t (Closed code x) h s = absurd (true_false h)

pub seen_mail : SeenAreMail
seen_mail t o h s = let e = seen t o h s in (subst (IsSent t) (sym e) s, e)
