-- What a client sends is within a frame, and is read as it was sent.
use Rattle.std.proofs.Common.{◌≡◌, ◌≤◌, ℕ, Bool, true, false, cond, not, List, [], ◌∷◌, ◌++◌, map, Option, Some}
use Rattle.std.proofs.Common.{None, sym, subst, arith}
use Rattle.std.specs.Prelude.{Result, Ok, Err}
use Rattle.room_json.specs.Value.{Value}
use Rattle.room_json.specs.declared.tree.Json.{Json}
use Rattle.room_nodes.specs.declared.nodes.Op.{Op}
use Rattle.room_nodes.specs.Shape.{Nodes}
use Rattle.room_items.specs.Items.{tree_in}
use Rattle.room_msg.specs.Laws.{IsResumable, IsResume}
use Rattle.room_msg.specs.declared.messages.Resume.{Resume}
use Rattle.room_msg.specs.declared.messages.ClientMsg.{ClientMsg}
use Rattle.room_msg.specs.declared.messages.ClientMsg.TheVariants as client
use Rattle.room_msg.specs.declared.messages.ServerMsg.{ServerMsg}
use Rattle.room_msg.specs.declared.messages.ServerMsg.TheVariants as server
use Rattle.room_model.specs.Presence.{unsent_members}
use Rattle.room_model.specs.Account
use Rattle.room_model.specs.Account.{Account, Batch, Part, Stage, actor, issued, beyond, size_of, most_bytes}
use Rattle.room_model.specs.Calls as calls
use Rattle.room_model.specs.Receive
use Rattle.room_model.specs.Receive.{Received, FrameFault}
use Rattle.room_model.specs.Sound.{IsSound, IsSession, AreValidEvents}
use Rattle.room_laws.specs.Accounts.{IsValidServerMsg}
use Rattle.room_laws.proofs.SoundSends.{AreSoundFrames, flush_sound, resend_sound, hello_sound, replies_sound}
use Rattle.room_moves.specs.Reading.{AreFramesRead}
use Rattle.room_reread.specs.Fits.{AreFitting, AreSized, FitsFrames}
use Rattle.room_reread.proofs.Frames.{frame_read}
use Rattle.room_reread.proofs.Sizes.{fetch_fits, full_fits, full_to_fits, hello_fits, patch_fits}

frames_read : (fs : List (List ClientMsg)) → AreSoundFrames fs → AreFitting fs → AreFramesRead fs
frames_read [] s h = tt
frames_read (f ∷ fs) s h = (frame_read f s.0 h.0.0 h.0.1, frames_read fs s.1 h.1)

-- frames of batches, events and presence

fitting_append : (fs gs : List (List ClientMsg)) → AreFitting fs → AreFitting gs → AreFitting (fs ++ gs)
fitting_append [] gs h k = k
fitting_append (f ∷ fs) gs h k = (h.0, fitting_append fs gs h.1 k)

batches_fit : (a : ℕ) (bs : List Batch) → AreSized a bs → AreFitting (map (Account.frame_of a) bs)
batches_fit a [] h = tt
batches_fit a (b ∷ bs) h = (((tt, tt), h.0), batches_fit a bs h.1)

sized_front : (a : ℕ) (bs cs : List Batch) → AreSized a (bs ++ cs) → AreSized a bs
sized_front a [] cs h = tt
sized_front a (b ∷ bs) cs h = (h.0, sized_front a bs cs h.1)

sized_back : (a : ℕ) (bs cs : List Batch) → AreSized a (bs ++ cs) → AreSized a cs
sized_back a [] cs h = h
sized_back a (b ∷ bs) cs h = sized_back a bs cs h.1

events_fit : (es : List Json) → AreValidEvents es → AreFitting (map Account.frame_of_event es)
events_fit [] h = tt
events_fit (e ∷ es) h = (((tt, tt), h.0.fits), events_fit es h.1)

patches_fit : (fs : List (List ℕ × Value)) → size_of (Account.frame_of_patch fs) ≤ most_bytes
    → AreFitting (calls.patch_frames fs)
patches_fit [] h = tt
patches_fit (f ∷ fs) h = (((tt, tt), h), tt)

-- a hello, a flush, and all once more

resumable : (o : Option Resume) → IsSession o → IsResumable o
resumable None h = tt
resumable (Some r) h = h.0

resume_ranged : (o : Option Resume) → IsSession o → IsResume o
resume_ranged None h = tt
resume_ranged (Some r) h = (h.1, omega (arith, h.2))

abbrev hello_in : List ℕ → Option Resume → List ClientMsg
hello_in room resume = client.Hello (record { room = room; resume = resume; name = None; «pass» = None }) ∷ []

hello_fitting : (x : Account) → IsSound x → FitsFrames x → AreFitting (calls.hello_of x ∷ [])
hello_fitting x s h =
    let ranged = resume_ranged x.session s.session in
    let short : size_of (hello_in x.room x.session) ≤ most_bytes =
    subst (λ (room : List ℕ). size_of (hello_in room x.session) ≤ most_bytes) (sym h.room)
    (hello_fits x.session ranged) in
    ((((resumable x.session s.session, tt, ranged), tt), short), tt)

pub hello_read : (x : Account) → IsSound x → FitsFrames x → AreFramesRead (calls.hello_of x ∷ [])
hello_read x s h = frames_read (calls.hello_of x ∷ []) (hello_sound x s, tt) (hello_fitting x s h)

or_none : (b : Bool) (fs : List (List ClientMsg)) → AreFitting fs → AreFitting (cond b fs [])
or_none true fs h = h
or_none false fs h = tt

unless : (b : Bool) (fs : List (List ClientMsg)) → AreFitting fs → AreFitting (cond (not b) [] fs)
unless true fs h = h
unless false fs h = tt

flush_fitting : (x : Account) → IsSound x → FitsFrames x → AreFitting (calls.flush_frames x)
flush_fitting x s h =
    let patch = calls.patch_frames (unsent_members x.unsent (calls.held x) x.me) in
    let events = map Account.frame_of_event x.events in
    let batches = map (Account.frame_of (actor x)) x.fresh in
    unless (Account.is_on x.stage) (patch ++ events ++ cond (Account.is_synced x.stage) batches [])
    (fitting_append (patch ++ events) (cond (Account.is_synced x.stage) batches [])
    (fitting_append patch events
    (patches_fit (unsent_members x.unsent (calls.held x) x.me)
    (patch_fits x.unsent (calls.held x) x.me s.presence.fits))
    (events_fit x.events s.events))
    (or_none (Account.is_synced x.stage) batches
    (batches_fit (actor x) x.fresh (sized_back (actor x) x.sent x.fresh h.closed))))

pub flush_read : (x : Account) → IsSound x → FitsFrames x → AreFramesRead (calls.flush_frames x)
flush_read x s h = frames_read (calls.flush_frames x) (flush_sound x s) (flush_fitting x s h)

pub resend_read : (x : Account) → IsSound x → FitsFrames x → AreFramesRead (calls.resend_frames x)
resend_read x s h =
    frames_read (calls.resend_frames x) (resend_sound x s)
    (or_none (Account.is_synced x.stage) (map (Account.frame_of (actor x)) (issued x))
    (batches_fit (actor x) (issued x) h.closed))

-- what it answers a message

abbrev Replies : Received → Type 0
Replies out = AreFitting out.replies

ok_is : (x y : Received) → ◌≡◌ {A = Result Received FrameFault} (Ok x) (Ok y) → x ≡ y
ok_is x y e = cc

err_ok : (e : FrameFault) (y : Received) → ◌≡◌ {A = Result Received FrameFault} (Err e) (Ok y) → ⊥
err_ok e y i = cc

said : (x y : Received) → Replies x → ◌≡◌ {A = Result Received FrameFault} (Ok x) (Ok y) → Replies y
said x y h e = subst Replies (ok_is x y e) h

once : (b : Bool) (fault : FrameFault) (x y : Received) → Replies x
    → ◌≡◌ {A = Result Received FrameFault} (cond b (Ok x) (Err fault)) (Ok y) → Replies y
once true fault x y h e = said x y h e
once false fault x y h e = absurd (err_ok fault y e)

module _ (x : Account) (s : IsSound x) (out : Received) (after : FitsFrames out.account) where
  greets : (a key : ℕ) → Replies (Receive.welcomed x a key)
  greets a key = (((tt, tt), full_fits x.me s.presence.fits), (((tt, tt), fetch_fits), tt))

  welcomed_fit : (a key : ℕ) (o : Option Resume) → Receive.welcomed_as x a key o ≡ Ok out → Replies out
  welcomed_fit a key None e = said (Receive.welcomed x a key) out (greets a key) e
  welcomed_fit a key (Some r) e =
      once _ (Receive.AccountFault r.actor a) (Receive.welcomed x a key) out (greets a key) e

  room_fit : (a key : ℕ) (g : Stage) → Receive.receive_room x a key g ≡ Ok out → Replies out
  room_fit a key Account.Dialled e = welcomed_fit a key x.session e
  room_fit a key Account.Idle e = absurd (err_ok _ out e)
  room_fit a key Account.Connected e = absurd (err_ok _ out e)
  room_fit a key Account.Synced e = absurd (err_ok _ out e)

  -- the batches beyond what it is told are those of the account after it
  loaded_fit : (seq last : ℕ) (t : Nodes) → Receive.loaded x seq last t ≡ out → Replies out
  loaded_fit seq last t e =
      let left = beyond last (issued x) in
      let fits : AreSized (actor x) (left ++ []) =
      subst (λ (z : Received). AreSized (actor z.account) (issued z.account)) (sym e) after.closed in
      subst Replies e (batches_fit (actor x) left (sized_front (actor x) left [] fits))

  load_fit : (seq last : ℕ) (t : Nodes) (o : Option (ℕ × ℕ)) → Receive.load_at x seq last t o ≡ Ok out → Replies out
  load_fit seq last t (Some fault) e = absurd (err_ok _ out e)
  load_fit seq last t None e = loaded_fit seq last t (ok_is (Receive.loaded x seq last t) out e)

  tree_fit : (seq last : ℕ) (o : Option Nodes) → Receive.load x seq last o ≡ Ok out → Replies out
  tree_fit seq last None e = absurd (err_ok _ out e)
  tree_fit seq last (Some t) e = load_fit seq last t (Receive.state_fault x seq last) e

  part_fit : (seq last : ℕ) (items : List Value) (more : Bool) (o : Option (ℕ × ℕ))
      → Receive.receive_part x seq last items more o ≡ Ok out → Replies out
  part_fit seq last items more (Some fault) e = absurd (err_ok _ out e)
  part_fit seq last items true None e = said (Receive.keeps_part x seq last items) out tt e
  part_fit seq last items false None e = tree_fit seq last (tree_in (Receive.parts_items x.parts ++ items)) e

  state_fit : (seq last : ℕ) (items : List Value) (more : Bool) (b : Bool)
      → ◌≡◌ {A = Result Received FrameFault}
      (cond (not b) (Err (Receive.Unexpected 200))
      (Receive.receive_part x seq last items more (Receive.other_parts x.parts seq last))) (Ok out)
      → Replies out
  state_fit seq last items more true e = part_fit seq last items more (Receive.other_parts x.parts seq last) e
  state_fit seq last items more false e = absurd (err_ok _ out e)

  told_fit : (os : List Op) (t : Nodes) (o : Result ℕ (ℕ × ℕ)) → Receive.update_told x os t o ≡ Ok out → Replies out
  told_fit os t (Err fault) e = absurd (err_ok _ out e)
  told_fit os t (Ok told) e = said _ out tt e

  on_fit : (os : List Op) (o : Option Nodes) → Receive.update_on x os o ≡ Ok out → Replies out
  on_fit os None e = absurd (err_ok _ out e)
  on_fit os (Some t) e = told_fit os t _ e

  numbered_fit : (os : List Op) (fault : FrameFault) (b : Bool)
      → ◌≡◌ {A = Result Received FrameFault} (cond b (Receive.update_on x os x.confirmed) (Err fault)) (Ok out)
      → Replies out
  numbered_fit os fault true e = on_fit os x.confirmed e
  numbered_fit os fault false e = absurd (err_ok fault out e)

  synced_fit : (seq : ℕ) (os : List Op) (ps : List Part) → Receive.update_synced x seq os ps ≡ Ok out → Replies out
  synced_fit seq os [] e = numbered_fit os _ _ e
  synced_fit seq os (p ∷ ps) e = absurd (err_ok _ out e)

  update_fit : (seq : ℕ) (os : List Op) (g : Stage) → Receive.receive_update x seq os g ≡ Ok out → Replies out
  update_fit seq os Account.Synced e = synced_fit seq os x.parts e
  update_fit seq os Account.Idle e = absurd (err_ok _ out e)
  update_fit seq os Account.Dialled e = absurd (err_ok _ out e)
  update_fit seq os Account.Connected e = absurd (err_ok _ out e)

  replies_fit : (m : ServerMsg) → IsValidServerMsg m → Receive.receive x m ≡ Ok out → Replies out
  replies_fit (server.Presence a target patch) i e =
      once _ _ (Receive.received (Receive.presence_taken x a target patch)) out tt e
  replies_fit (server.Joined a) i e =
      once _ _ (Receive.replying (Receive.forgets x a) (Account.frame_of_full_to a x.me ∷ [])) out
      (((tt, tt), full_to_fits a x.me i s.presence.fits), tt) e
  replies_fit (server.Left a) i e = once _ _ (Receive.received (Receive.forgets x a)) out tt e
  replies_fit (server.Broadcast a f) i e = once _ _ (record (Receive.received x) { events = (a, f) ∷ [] }) out tt e
  replies_fit (server.RoomState a key users) i e = room_fit a key x.stage e
  replies_fit (server.State seq last items more) i e = state_fit seq last items more (Account.is_on x.stage) e
  replies_fit (server.Update seq os) i e = update_fit seq os x.stage e

pub replies_read : (x : Account) (out : Received) (m : ServerMsg) → IsSound x → IsSound out.account
    → FitsFrames out.account → IsValidServerMsg m → Receive.receive x m ≡ Ok out → AreFramesRead out.replies
replies_read x out m s after fits i e =
    frames_read out.replies (replies_sound x s out after m i e) (replies_fit x s out fits m i e)
