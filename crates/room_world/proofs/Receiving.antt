-- What a client or a link receives, as the world's line, by what is done to its parts.
use Rattle.std.proofs.Common.{Bool, is_some, option_map, IfOk}
use Rattle.std.proofs.Common.{◌≡◌, ℕ, List, [], ◌∷◌, map, Option, Some, None, Result, refl, sym, ap, ◌∙◌, subst}
use Rattle.std.specs.Ordering.{nat_cmp}
use Rattle.std.specs.FinMap.{FinMap, get, insert}
use Rattle.room_replay.specs.Files.{Files}
use Rattle.room_model.specs.Server.{Outbound}
use Rattle.room_model.specs.Lines as lines
use Rattle.room_model.specs.World.{World, Conn, Fuse, slot_in, client_takes, owner_takes, owner_of, saying}
use Rattle.room_model.specs.World.{link_takes, step}
use Rattle.room_moves.specs.Parts.{with_conns}
use Rattle.room_moves.proofs.Parts.{nothing_outbound, takes}
use Rattle.room_moves.specs.Reading.{AreFramesRead, replies_to}
use Rattle.std.proofs.lemmas.Result.{IfOk-weaker}
use Rattle.room_json.specs.declared.memory.NoMemory.{NoMemory}
use Rattle.room_queues.specs.Calls.{first, rest, next_outbound, taken}
use Rattle.room_queues.specs.Seen.{outbound_in}
use Rattle.room_queues.specs.declared.mail.Mail.{Mail}
use Rattle.room_slots.proofs.Maps.{insert_there}
use Rattle.room_slots.specs.Slots.{Clients}
use Rattle.room_slots.specs.Taking.{Takes}
use Rattle.room_slots.specs.declared.taking.Taken.{Taken}
use Rattle.room_slots.specs.declared.taking.Taken.TheVariants.{Heard}
use Rattle.room_msg.specs.Written.{client_text}
use Rattle.room_msg.specs.declared.messages.ClientMsg.{ClientMsg}
use Rattle.room_host.specs.Seen.{host_in}
use Rattle.room_model.specs.World.{is_attached, links_of, send_inbound, inbound_frame}
use Rattle.room_world.specs.Did.{Did}
use Rattle.room_world.specs.Seen.{Peopled, world_in}
use Rattle.room_world.proofs.Dials.{Sends, with_clients, with_queues}

-- what a client receives

pub hears : (p : Peopled) (new : Clients) (number c k : ℕ) (m : Outbound) (ls replies : List (List ℕ))
    (qs : FinMap nat_cmp Conn) (fs : Files) (fuse : Option Fuse)
    → Takes p.clients new number c k m (Heard ls replies)
    → Sends (with_clients p new) qs k (replies_to (slot_in (get p.clients c)) m)
    → Did (client_takes (world_in p fs fuse) number c k (slot_in (get p.clients c)) m) ls
    (world_in (with_queues (with_clients p new) qs) fs fuse)
hears p new number c k m ls replies qs fs fuse h sends =
    let t = h.1 (world_in p fs fuse) refl in record { lines_are = t.0; world_is = t.1 ∙ sends fs fuse }

-- the line

pub nothing_down : (w : World) (number k : ℕ) → next_outbound (get w.conns k) ≡ None
    → Did (step w number (lines.OfConnection k lines.Down)) [] w
nothing_down w number k e = record {
  lines_are = ap (λ o. o.lines) (nothing_outbound w number k e);
  world_is = ap (λ o. o.world) (nothing_outbound w number k e);
}

pub link_down : (w v : World) (number k : ℕ) (m : Outbound) (line : List ℕ) → next_outbound (get w.conns k) ≡ Some m
    → owner_of (get w.conns k) ≡ None → v ≡ with_conns w (taken w.conns k (get w.conns k))
    → link_takes v k m ≡ saying v (line ∷ [])
    → Did (step w number (lines.OfConnection k lines.Down)) (line ∷ []) v
link_down w v number k m line e is at h =
    let all = takes w number k m e
    ∙ ap (λ o. owner_takes (with_conns w (taken w.conns k (get w.conns k))) number k m o) is
    ∙ ap (λ v. link_takes v k m) (sym at) ∙ h in
    record { lines_are = ap (λ o. o.lines) all; world_is = ap (λ o. o.world) all }

-- the frames that answer it go up, where the queues became `qs`
pub heard_by : (p q : Peopled) (new : Clients) (number c k : ℕ) (m : Outbound) (taken : Taken)
    (ls replies : List (List ℕ)) (qs : FinMap nat_cmp Conn) (attached : Bool) (fs : Files) (fuse : Option Fuse)
    → p ≡ q → Takes q.clients new number c k m taken → taken ≡ Heard ls replies
    → ((fs : Files) → attached ≡ is_some (get (links_of (host_in q.hosting.server fs)) k))
    → ((w : World) (frames : List (List ClientMsg)) → w.conns ≡ q.conns → is_attached w k ≡ attached
    → replies ≡ map client_text frames → AreFramesRead frames
    → send_inbound w k (map inbound_frame frames) ≡ with_conns w qs)
    → AreFramesRead (replies_to (slot_in (get p.clients c)) m)
    → Did (client_takes (world_in p fs fuse) number c k (slot_in (get p.clients c)) m) ls
    (world_in (with_queues (with_clients q new) qs) fs fuse)
heard_by p q new number c k m taken ls replies qs attached fs fuse is takes heard at sends read =
    let t : Takes q.clients new number c k m (Heard ls replies) =
    subst (Takes q.clients new number c k m) heard takes in
    let r : AreFramesRead (replies_to (slot_in (get q.clients c)) m) =
    subst (λ (x : Peopled). AreFramesRead (replies_to (slot_in (get x.clients c)) m)) is read in
    subst (λ (x : Peopled). Did (client_takes (world_in x fs fuse) number c k (slot_in (get x.clients c)) m) ls
    (world_in (with_queues (with_clients q new) qs) fs fuse)) (sym is)
    (hears q new number c k m ls replies qs fs fuse t
    (λ fs fuse. sends (world_in (with_clients q new) fs fuse) (replies_to (slot_in (get q.clients c)) m) refl
    (sym (at fs)) t.0 r))

-- the line over queues that gave what was next

some_none : {A : Type 0} (x : A) → Some x ≡ None → ⊥
some_none x e = cc

rest_of_none : {X : Type 0} (xs : List X) → first xs ≡ None → rest xs ≡ xs
rest_of_none [] e = refl
rest_of_none (x ∷ xs) e = absurd (some_none x e)

taken_nothing : (qs : FinMap nat_cmp Conn) (k : ℕ) (o : Option Conn) → get qs k ≡ o → next_outbound o ≡ None
    → taken qs k o ≡ qs
taken_nothing qs k None is e = refl
taken_nothing qs k (Some q) is e =
    ap (λ ms. insert qs k (record q { outbound = ms })) (rest_of_none q.outbound e) ∙ insert_there qs k q is

-- what a line of the connection wrote and left
abbrev pub Received : Peopled → (number k : ℕ) → Peopled → Files → Option Fuse → List (List ℕ) → Type 0
Received p number k new fs fuse ls =
    Did (step (world_in p fs fuse) number (lines.OfConnection k lines.Down)) ls (world_in new fs fuse)

pub nothing_came : (p q : Peopled) (number k : ℕ) (mails : Option Mail) (qs : FinMap nat_cmp Conn) (fs : Files)
    (fuse : Option Fuse) → p ≡ q → mails ≡ None → option_map outbound_in mails ≡ next_outbound (get q.conns k)
    → qs ≡ taken q.conns k (get q.conns k) → Received p number k (with_queues q qs) fs fuse []
nothing_came p q number k mails qs fs fuse is none next rest =
    let e : next_outbound (get q.conns k) ≡ None = sym next ∙ ap (option_map outbound_in) none in
    subst (λ (x : Peopled). Received x number k (with_queues q qs) fs fuse []) (sym is)
    (subst (λ (x : FinMap nat_cmp Conn). Received q number k (with_queues q x) fs fuse [])
    (sym (rest ∙ taken_nothing q.conns k (get q.conns k) refl e))
    (nothing_down (world_in q fs fuse) number k e))

next_is : (mails : Option Mail) (mail : Mail) (o : Option Outbound) → mails ≡ Some mail
    → option_map outbound_in mails ≡ o → o ≡ Some (outbound_in mail)
next_is mails mail o is next = sym next ∙ ap (option_map outbound_in) is

pub link_heard : (p q : Peopled) (number k : ℕ) (mails : Option Mail) (mail : Mail) (owner : Option ℕ)
    (line : List ℕ) (qs : FinMap nat_cmp Conn) (result : Result (List (List ℕ)) NoMemory) (fs : Files)
    (fuse : Option Fuse) → p ≡ q → mails ≡ Some mail → option_map outbound_in mails ≡ next_outbound (get q.conns k)
    → qs ≡ taken q.conns k (get q.conns k) → owner ≡ owner_of (get p.conns k) → owner ≡ None
    → ((w : World) → link_takes w k (outbound_in mail) ≡ saying w (line ∷ []))
    → IfOk result (λ ls. ls ≡ line ∷ []) → IfOk result (Received p number k (with_queues q qs) fs fuse)
link_heard p q number k mails mail owner line qs result fs fuse is some next rest own none says lines =
    IfOk-weaker result (λ ls. ls ≡ line ∷ []) (Received p number k (with_queues q qs) fs fuse)
    (λ ls e. subst (Received p number k (with_queues q qs) fs fuse) (sym e)
    (subst (λ (x : Peopled). Received x number k (with_queues q qs) fs fuse (line ∷ [])) (sym is)
    (link_down (world_in q fs fuse) (world_in (with_queues q qs) fs fuse) number k (outbound_in mail) line
    (next_is mails mail (next_outbound (get q.conns k)) some next)
    (sym (own ∙ ap (λ (x : Peopled). owner_of (get x.conns k)) is) ∙ none)
    (ap (λ (x : FinMap nat_cmp Conn). world_in (with_queues q x) fs fuse) rest)
    (says (world_in (with_queues q qs) fs fuse))))) lines
