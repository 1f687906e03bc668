-- All that is sent in a run is read as it was meant.
use Rattle.std.proofs.Common.{◌≡◌, ◌<◌, ◌+◌, ℕ, zero, suc, Bool, true, false, cond, ◌==◌, List, [], ◌∷◌, ◌++◌, length}
use Rattle.std.proofs.Common.{Option, Some, None, refl, sym, subst, arith}
use Rattle.std.specs.Prelude.{Result, Ok, Err, ⊤}
use Rattle.std.specs.FinMap.{get, entries, get-empty}
use Rattle.std.specs.Ordering.{nat_cmp}
use Rattle.room_msg.specs.declared.messages.ServerMsg.{ServerMsg}
use Rattle.room_log.specs.Log.{State}
use Rattle.room_log.specs.Follows.{IsKey, IsValidState}
use Rattle.room_model.specs.Account.{Account}
use Rattle.room_model.specs.Calls as calls
use Rattle.room_model.specs.Receive
use Rattle.room_model.specs.Receive.{Received, FrameFault}
use Rattle.room_model.specs.Server.{Outbound, Pong, Message, Closed, Inbound}
use Rattle.room_model.specs.Lines as lines
use Rattle.room_model.specs.Lines.{Line}
use Rattle.room_model.specs.Sound.{IsSound, IsCall, IsTraffic, IsLine}
use Rattle.room_model.specs.World
use Rattle.room_model.specs.World.{World, Conn, Slot, Host, Running, Stopped, account, slot, slot_in, owner_of, least}
use Rattle.room_model.specs.World.{has_inbound, has_outbound}
use Rattle.room_model.specs.Run.{Run, line, run, opened}
use Rattle.room_queues.specs.Calls.{first, next_inbound, next_outbound}
use Rattle.room_laws.specs.Accounts.{IsValidServerMsg}
use Rattle.room_laws.specs.Events.{Event, Called, happened, happen, first_as}
use Rattle.room_laws.specs.Events.{owned_events, outbound_events, traffic_events, line_events}
use Rattle.room_laws.specs.Invariant.{conn, conn_in}
use Rattle.room_laws.specs.Validity.{AreSpelled, IsSoundWorld, IsSoundConn, IsSoundHost, IsSoundInbound}
use Rattle.room_laws.specs.Validity.{IsSoundOutbound, AreSoundInbounds, AreSoundOutbounds}
use Rattle.room_laws.proofs.EveryRun.{every_account, every_world}
use Rattle.room_laws.proofs.Happens.{Keeps, Allows, keeps_event}
use Rattle.room_laws.proofs.Single.{receive_one}
use Rattle.room_laws.proofs.Slots.{step_after}
use Rattle.room_laws.proofs.SoundLines.{step_stands, conn_line}
use Rattle.room_laws.proofs.SoundServes.{AreSoundOuts, serve_goes, gone_is}
use Rattle.room_laws.proofs.StateItems.{items_of_valid}
use Rattle.room_moves.specs.Reading
use Rattle.room_moves.specs.Reading.{AreFramesRead, IsOutRead, AreSendsRead, Reads, AllRead}
use Rattle.room_reread.specs.Fits.{FitsFrames, KeepsFitting}
use Rattle.room_reread.specs.Laws.{FitsEverywhere, ReadsEverywhere, EachLineReads}
use Rattle.room_reread.proofs.Kept.{keeps_fitting}
use Rattle.room_reread.proofs.Sending.{hello_read, flush_read, resend_read, replies_read}
use Rattle.room_reread.proofs.Waiting.{valid_read}

-- accounts, whatever happens to them

pub record Good (x : Account) : Type 0 where
  pub sound : IsSound x
  pub fits : FitsFrames x

fits : KeepsFitting
fits = keeps_fitting

good : (x : Account) → IsSound x → FitsFrames x → Good x
good x s f = record { sound = s; fits = f }

keeps : Keeps Good IsCall IsValidServerMsg
keeps = record {
  edit = λ x e out c h p. good out.account (every_account.edit x e out h.sound c p) (fits.edit x e out h.fits p);
  begin = λ x y c h p. good y (every_account.batch_begin x y h.sound p) (fits.batch_begin x y h.fits p);
  end = λ x out c h p. good out.account (every_account.batch_end x out h.sound p) (fits.batch_end x out h.fits p);
  undo = λ x out c h p.
      good out.account (every_account.go_back calls.Undo x out h.sound p) (fits.go_back calls.Undo x out h.fits p);
  redo = λ x out c h p.
      good out.account (every_account.go_back calls.Redo x out h.sound p) (fits.go_back calls.Redo x out h.fits p);
  paused = λ x h. good (calls.pause x) (every_account.pauses x h.sound) (fits.pauses x h.fits);
  resumed = λ x h. good (calls.resume x) (every_account.resumes x h.sound) (fits.resumes x h.fits);
  cleared = λ x c h. good (calls.clear x) (every_account.clears x h.sound) (fits.clears x h.fits);
  presence = λ x y patch in_history c h p.
      good y (every_account.presence x y patch in_history h.sound c p) (fits.presence x y patch in_history h.fits p);
  event = λ x y e c h p. good y (every_account.event x y e h.sound c p) (fits.event x y e h.fits p);
  flushed = λ x h. good (calls.flushed x) (every_account.flushed x h.sound) (fits.flushed x h.fits);
  resent = λ x h. good (calls.resent x) (every_account.resent x h.sound) (fits.resent x h.fits);
  lost = λ x h. good (calls.lost x) (every_account.lost x h.sound) (fits.lost x h.fits);
  dialled = λ x h. good (calls.dialled x) (every_account.dialled x h.sound) (fits.dialled x h.fits);
  receive = λ x m out c h p.
      good out.account (every_account.receive x m out h.sound c p) (fits.receive x m out h.sound h.fits p);
}

abbrev AreAllowed : List Event → Type 0
AreAllowed [] = ⊤
AreAllowed (e ∷ es) = Allows IsCall IsValidServerMsg e × AreAllowed es

happens : (es : List Event) (x : Account) → AreAllowed es → Good x → Good (happen x es)
happens [] x a h = h
happens (e ∷ es) x a h = happens es (happened x e) a.1 (keeps_event Good IsCall IsValidServerMsg keeps x e a.0 h)

-- what happens to a client in a line

if_allowed : (b : Bool) (es : List Event) → AreAllowed es → AreAllowed (cond b es [])
if_allowed true es h = h
if_allowed false es h = tt

first_allowed : (ms : List Outbound) → AreSoundOutbounds ms → AreAllowed (first_as ms)
first_allowed [] h = tt
first_allowed (Pong ∷ ms) h = tt
first_allowed (Message m ∷ ms) h = (h.0, tt)
first_allowed (Closed code text ∷ ms) h = (tt, tt)

owned_allowed : (c : ℕ) (o : Option ℕ) (ms : List Outbound) → AreSoundOutbounds ms → AreAllowed (owned_events c o ms)
owned_allowed c None ms h = tt
owned_allowed c (Some d) ms h = if_allowed (d == c) (first_as ms) (first_allowed ms h)

outbound_allowed : (c : ℕ) (o : Option Conn) → IsSoundConn (conn_in o) → AreAllowed (outbound_events c o)
outbound_allowed c None h = tt
outbound_allowed c (Some q) h = owned_allowed c q.owner q.outbound h.outbound

traffic_allowed : (w : World) (c k : ℕ) (traffic : lines.Traffic) → IsSoundConn (conn w k)
    → AreAllowed (traffic_events w c k traffic)
traffic_allowed w c k lines.Up h = tt
traffic_allowed w c k lines.Down h = outbound_allowed c (get w.conns k) h
traffic_allowed w c k lines.Gone h = tt
traffic_allowed w c k (lines.Raw text) h = tt

-- worlds

pub record Fits (n : ℕ) (w : World) : Type 0 where
  pub world : IsSoundWorld n w
  pub frames : (c : ℕ) → FitsFrames (account w c)

client_good : (n : ℕ) (w : World) (c : ℕ) → Fits n w → Good (account w c)
client_good n w c h = good (account w c) (h.world.clients c) (h.frames c)

after : (n : ℕ) (w : World) (number : ℕ) (l : Line) (c : ℕ) → Fits n w → AreAllowed (line_events w c number l)
    → FitsFrames (account (World.step w number l).world c)
after n w number l c h a =
    let done = happens (line_events w c number l) (account w c) a (client_good n w c h) in
    subst FitsFrames (sym (step_after c w number l)) done.fits

conn_fits : (n : ℕ) (w : World) (number k : ℕ) (traffic : lines.Traffic) → Fits n w → IsTraffic traffic
    → Fits n (World.conn_line w number k traffic).world
conn_fits n w number k traffic h i = record {
  world = (conn_line every_account items_of_valid n w number k traffic h.world i).world;
  frames = λ c. after n w number (lines.OfConnection k traffic) c h (traffic_allowed w c k traffic (h.world.conns k));
}

move_fits : (n : ℕ) (w : World) (number : ℕ) (a b : Option ℕ) → Fits n w
    → Fits n (World.or_quiet w (World.drain_step w number a b)).world
move_fits n w number (Some k) b h = conn_fits n w number k lines.Up h tt
move_fits n w number None (Some k) h = conn_fits n w number k lines.Down h tt
move_fits n w number None None h = h

once_fits : (n : ℕ) (w : World) (number : ℕ) → Fits n w → Fits n (World.drain_once w number).world
once_fits n w number h =
    move_fits n w number (least has_inbound (entries w.conns)) (least has_outbound (entries w.conns)) h

drain_fits : (m n : ℕ) (w : World) (number : ℕ) → Fits n w → Fits n (World.drain w number m).world
unfolding World.drain
drain_fits zero n w number h = h
drain_fits (suc m) n w number h = drain_fits m n (World.drain_once w number).world number (once_fits n w number h)

line_frames : (n : ℕ) (w : World) (number : ℕ) (l : Line) → Fits n w → IsLine l → (c : ℕ)
    → FitsFrames (account (World.step w number l).world c)
line_frames n w number (lines.OfClient d call) h i c =
    after n w number (lines.OfClient d call) c h (if_allowed (d == c) (Called call ∷ []) (i.1, tt))
line_frames n w number (lines.AsksClient d question) h i c = h.frames c
line_frames n w number (lines.OfConnection k traffic) h i c =
    after n w number (lines.OfConnection k traffic) c h (traffic_allowed w c k traffic (h.world.conns k))
line_frames n w number (lines.OfServer service) h i c = after n w number (lines.OfServer service) c h tt
line_frames n w number (lines.Drain m) h i c = (drain_fits m n w number h).frames c
line_frames n w number lines.Link h i c = after n w number lines.Link c h tt

wider : (n : ℕ) (w : World) → Fits n w → Fits (n + 1) w
wider n w h = record {
  world = record {
    host = h.world.host;
    limits = h.world.limits;
    clients = h.world.clients;
    conns = h.world.conns;
    opened = omega (arith, h.world.opened);
  };
  frames = h.frames;
}

line_fits : (n : ℕ) (w : World) (number : ℕ) (l : Line) → Fits n w → IsLine l → IsKey (n + 1)
    → Fits (n + 1) (World.step w number l).world
line_fits n w number l h i key =
    let wide = wider n w h in
    let below : w.opened < n + 1 = omega (arith, h.world.opened) in
    record {
      world = (step_stands every_account items_of_valid (n + 1) w number l wide.world i below key).world;
      frames = line_frames (n + 1) w number l wide i;
    }

-- what is sent

out_read : (m : Outbound) → IsSoundOutbound m → IsOutRead m
out_read Pong h = tt
out_read (Message m) h = valid_read m h
out_read (Closed code text) h = tt

sends_read : (os : List (ℕ × Outbound)) → AreSoundOuts os → AreSendsRead os
sends_read [] h = tt
sends_read (o ∷ os) h = (out_read o.1 h.0, sends_read os h.1)

abbrev IsNextInbound : Option Inbound → Type 0
IsNextInbound None = ⊤
IsNextInbound (Some u) = IsSoundInbound u

first_inbound : (us : List Inbound) → AreSoundInbounds us → IsNextInbound (first us)
first_inbound [] h = tt
first_inbound (u ∷ us) h = h.0

inbound_sound : (o : Option Conn) → IsSoundConn (conn_in o) → IsNextInbound (next_inbound o)
inbound_sound None h = tt
inbound_sound (Some q) h = first_inbound q.inbound h.inbound

serve_reads : (k : ℕ) (g : Host) (o : Option Inbound) → IsSoundHost g → IsNextInbound o → Reading.ServeReads k g o
serve_reads k (Running v) (Some u) h i = sends_read _ (serve_goes items_of_valid v h k u i).outs
serve_reads k (Running v) None h i = tt
serve_reads k (Stopped s) o h i = tt

up_reads : (n : ℕ) (w : World) (k : ℕ) → Fits n w → Reading.UpReads w k
up_reads n w k h =
    serve_reads k w.host (next_inbound (get w.conns k)) h.world.host (inbound_sound (get w.conns k) (h.world.conns k))

gone_reads : (k : ℕ) (g : Host) → IsSoundHost g → Reading.GoneReads k g
gone_reads k (Running v) h = sends_read _ (gone_is items_of_valid v h k).outs
gone_reads k (Stopped s) h = tt

-- a client's answer

answer_read : (x : Account) (m : ServerMsg) (r : Result Received FrameFault) → Good x → IsValidServerMsg m
    → Receive.receive x m ≡ r → AreFramesRead (Reading.replies_in (Receive.or_lost x r))
answer_read x m (Err fault) h i e = tt
answer_read x m (Ok out) h i e =
    replies_read x out m h.sound (every_account.receive x m out h.sound i e) (fits.receive x m out h.sound h.fits e) i e

answers_read : (p : Slot) (m : Outbound) → Good p.account → IsSoundOutbound m → AreFramesRead (Reading.replies_to p m)
answers_read p Pong h i = tt
answers_read p (Message m) h i =
    subst (λ r. AreFramesRead (Reading.replies_in r)) (sym (receive_one p.account m))
    (answer_read p.account m (Receive.receive p.account m) h i refl)
answers_read p (Closed code text) h i = tt

abbrev IsNextOutbound : Option Outbound → Type 0
IsNextOutbound None = ⊤
IsNextOutbound (Some m) = IsSoundOutbound m

first_outbound : (ms : List Outbound) → AreSoundOutbounds ms → IsNextOutbound (first ms)
first_outbound [] h = tt
first_outbound (m ∷ ms) h = h.0

outbound_sound : (o : Option Conn) → IsSoundConn (conn_in o) → IsNextOutbound (next_outbound o)
outbound_sound None h = tt
outbound_sound (Some q) h = first_outbound q.outbound h.outbound

take_reads : (n : ℕ) (w : World) (o : Option Outbound) (owner : Option ℕ) → Fits n w → IsNextOutbound o
    → Reading.TakeReads w o owner
take_reads n w None owner h i = tt
take_reads n w (Some m) None h i = out_read m i
take_reads n w (Some m) (Some c) h i = (out_read m i, answers_read (slot w c) m (client_good n w c h) i)

down_reads : (n : ℕ) (w : World) (k : ℕ) → Fits n w → Reading.DownReads w k
down_reads n w k h =
    take_reads n w (next_outbound (get w.conns k)) (owner_of (get w.conns k)) h
    (outbound_sound (get w.conns k) (h.world.conns k))

-- lines

call_reads : (x : Account) (call : lines.Call) → Good x → Reading.CallReads x call
call_reads x lines.Dial h =
    hello_read (calls.dialled x) (every_account.dialled x h.sound) (fits.dialled x h.fits)
call_reads x (lines.Edits e) h = tt
call_reads x lines.Begin h = tt
call_reads x lines.End h = tt
call_reads x lines.Undo h = tt
call_reads x lines.Redo h = tt
call_reads x lines.Pause h = tt
call_reads x lines.Resume h = tt
call_reads x lines.Clear h = tt
call_reads x (lines.Presence patch in_history) h = tt
call_reads x (lines.Event e) h = tt
call_reads x lines.Flush h = flush_read x h.sound h.fits
call_reads x lines.Resend h = resend_read x h.sound h.fits
call_reads x lines.Cut h = tt

traffic_reads : (n : ℕ) (w : World) (k : ℕ) (traffic : lines.Traffic) → Fits n w → Reading.TrafficReads w k traffic
traffic_reads n w k lines.Up h = up_reads n w k h
traffic_reads n w k lines.Down h = down_reads n w k h
traffic_reads n w k lines.Gone h = gone_reads k w.host h.world.host
traffic_reads n w k (lines.Raw text) h = tt

move_reads : (n : ℕ) (w : World) (a b : Option ℕ) → Fits n w → Reading.MoveReads w a b
move_reads n w (Some k) b h = up_reads n w k h
move_reads n w None (Some k) h = down_reads n w k h
move_reads n w None None h = tt

drain_reads : (m n : ℕ) (w : World) (number : ℕ) → Fits n w → Reading.DrainReads w number m
drain_reads zero n w number h = tt
drain_reads (suc m) n w number h = (
  move_reads n w (least has_inbound (entries w.conns)) (least has_outbound (entries w.conns)) h,
  drain_reads m n (World.drain_once w number).world number (once_fits n w number h),
)

line_reads : (n : ℕ) (w : World) (number : ℕ) (l : Line) → Fits n w → Reads w number l
line_reads n w number (lines.OfClient c call) h = call_reads (account w c) call (client_good n w c h)
line_reads n w number (lines.AsksClient c question) h = tt
line_reads n w number (lines.OfConnection k traffic) h = traffic_reads n w k traffic h
line_reads n w number (lines.OfServer service) h = tt
line_reads n w number (lines.Drain m) h = drain_reads m n w number h
line_reads n w number lines.Link h = tt

-- runs

lines_read : (n : ℕ) (ls : List (ℕ × Line)) (w : World) → AreSpelled ls → IsKey (n + length ls) → Fits n w
    → AllRead w ls
lines_read n [] w s k h = tt
lines_read n (l ∷ ls) w s k h =
    let next = line_fits n w l.0 l.1 h s.0 (omega (arith, k)) in
    (line_reads n w l.0 l.1 h, lines_read (n + 1) ls (World.step w l.0 l.1).world s.1 (omega (arith, k)) next)

lines_fit : (n : ℕ) (ls : List (ℕ × Line)) (r : Run) → AreSpelled ls → IsKey (n + length ls) → Fits n r.world
    → (c : ℕ) → FitsFrames (account (run r ls).world c)
lines_fit n [] r s k h c = h.frames c
lines_fit n (l ∷ ls) r s k h c =
    let next = line_fits n r.world l.0 l.1 h s.0 (omega (arith, k)) in
    lines_fit (n + 1) ls (line r l.0 l.1) s.1 (omega (arith, k)) next c

begins : (s : State) → IsValidState s → Fits 0 (opened s).world
begins s h = record {
  world = every_world s [] h (record { spelled = tt; fewer = omega arith });
  frames = λ c.
      subst (λ (o : Option Slot). FitsFrames (slot_in o).account) (sym (get-empty {X = Slot} nat_cmp c)) fits.new;
}

pub reads_everywhere : ReadsEverywhere
reads_everywhere s ls h l = lines_read 0 ls (opened s).world l.spelled (omega (arith, l.fewer)) (begins s h)

pub fits_everywhere : FitsEverywhere
fits_everywhere s ls c h l = lines_fit 0 ls (opened s) l.spelled (omega (arith, l.fewer)) (begins s h) c

each_reads : (done : List (ℕ × Line)) (r : Run) (l : ℕ × Line) (rest : List (ℕ × Line))
    → AllRead r.world (done ++ l ∷ rest) → Reads (run r done).world l.0 l.1
each_reads [] r l rest h = h.0
each_reads (d ∷ ds) r l rest h = each_reads ds (line r d.0 d.1) l rest h.1

pub each_line_reads : EachLineReads
each_line_reads s done l rest h k = each_reads done (opened s) l rest (reads_everywhere s (done ++ l ∷ rest) h k)

pub ruleset everywhere = (reads_everywhere, each_line_reads, fits_everywhere)
