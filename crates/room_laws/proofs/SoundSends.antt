-- What a client with a sound account sends is sound.
use Rattle.std.proofs.Common.{◌≡◌, ◌≤◌, ◌+◌, ℕ, Bool, true, false, cond, ◌&&◌, not, List, [], ◌∷◌, ◌++◌, map, length, max, refl, sym, ap, subst, arith, rules, nat_cmp, Less, ℤ, pos, negsuc}
use Rattle.std.specs.Prelude.{Option, Some, None, Result, Ok, Err, ⊤}
use Rattle.std.specs.List.{AllByRecursion}
use Rattle.std.specs.Cmp.Lexicographic.{slice_cmp}
use Rattle.std.specs.List.Sorted.{IsStrictlySortedBy}
use Rattle.std.specs.Map.{keys_of}
use Rattle.room_json.specs.Value.{Value, fields_of, members, depth, fields_depth}
use Rattle.room_json.specs.Profile.{HaveJson, AreSoundMembers}
use Rattle.room_json.specs.declared.tree.Json.{Json}
use Rattle.room_nodes.specs.declared.nodes.Body.{Body}
use Rattle.room_nodes.specs.declared.nodes.Op.{Op}
use Rattle.room_nodes.specs.Shallow.{AreShallow, AreShallowOps}
use Rattle.room_nodes.specs.Shape.{Nodes}
use Rattle.room_nodes.specs.Sound.{AreSoundBodies, AreSoundOps}
use Rattle.room_msg.specs.Laws.{IsTarget}
use Rattle.room_msg.specs.declared.messages.Resume.{Resume}
use Rattle.room_msg.specs.declared.messages.ClientMsg.{ClientMsg}
use Rattle.room_msg.specs.declared.messages.ServerMsg.{ServerMsg}
use Rattle.room_msg.specs.declared.messages.ServerMsg.TheVariants as server
use Rattle.room_log.specs.Log.{ops_from}
use Rattle.room_log.specs.Follows.{most, most_actor}
use Rattle.room_model.specs.Account
use Rattle.room_model.specs.Account.{Account, Batch, Part, Stage}
use Rattle.room_model.specs.Calls as calls
use Rattle.room_model.specs.Receive
use Rattle.room_model.specs.Receive.{Received, FrameFault}
use Rattle.room_model.specs.Presence.{unsent_members, is_among}
use Rattle.room_model.specs.Sound.{IsSound, IsSession, RunsOn, AreValidBatches, AreValidEvents}
use Rattle.room_model.specs.World.{inbound_frame}
use Rattle.room_model.specs.Edits.{fields_most}
use Rattle.room_laws.specs.Accounts.{IsValidServerMsg}
use Rattle.room_laws.specs.Validity.{AreSoundInbounds, IsSoundInbound}

abbrev pub AreSoundFrames : List (List ClientMsg) → Type 0
AreSoundFrames fs = AreSoundInbounds (map inbound_frame fs)

pub frames-append : (fs gs : List (List ClientMsg)) → AreSoundFrames fs → AreSoundFrames gs → AreSoundFrames (fs ++ gs)
frames-append [] gs h k = k
frames-append (f ∷ fs) gs h k = (h.0, frames-append fs gs h.1 k)

-- batches

pub ops_fit : (a first : ℕ) (bs : List Body) → a ≤ most_actor → first + length bs ≤ most + 1 → AreSoundBodies bs → AreShallow bs → AreSoundOps (ops_from a first bs) × AreShallowOps (ops_from a first bs)
ops_fit a first [] p q s h = (tt, tt)
ops_fit a first (b ∷ bs) p q s h =
    let more = ops_fit a (first + 1) bs p (omega (arith, q)) s.1 h.1 in
    let low : first ≤ most = omega (arith, q) in
    ((((p, low), s.0), more.0), (h.0, more.1))

-- each batch has sound operations
abbrev AreFit : ℕ → List Batch → Type 0
AreFit a [] = ⊤
AreFit a (b ∷ bs) = (AreSoundOps (Account.batch_ops a b) × AreShallowOps (Account.batch_ops a b)) × AreFit a bs

fit_front : (a : ℕ) (bs cs : List Batch) → AreFit a (bs ++ cs) → AreFit a bs
fit_front a [] cs h = tt
fit_front a (b ∷ bs) cs h = (h.0, fit_front a bs cs h.1)

fit_back : (a : ℕ) (bs cs : List Batch) → AreFit a (bs ++ cs) → AreFit a cs
fit_back a [] cs h = h
fit_back a (b ∷ bs) cs h = fit_back a bs cs h.1

fit_frames : (a : ℕ) (bs : List Batch) → AreFit a bs → AreSoundFrames (map (Account.frame_of a) bs)
fit_frames a [] h = tt
fit_frames a (b ∷ bs) h = ((h.0, tt), fit_frames a bs h.1)

ends_at : (c : ℕ) (b : Batch) → b.first ≡ c + 1 → Account.last_clock b ≡ c + length b.bodies
ends_at c b e = omega (arith, e)

ends_above : (c : ℕ) (bs : List Batch) → RunsOn c bs → c ≤ Account.ends c bs
ends_above c [] h = omega arith
ends_above c (b ∷ bs) h =
    let more = ends_above (c + length b.bodies) bs h.more in
    let e : Account.ends (Account.last_clock b) bs ≡ Account.ends (c + length b.bodies) bs = ap (λ n. Account.ends n bs) (ends_at c b h.first) in
    omega (arith, more, e)

runs_fit : (a c : ℕ) (bs : List Batch) → a ≤ most_actor → RunsOn c bs → Account.ends c bs ≤ most → AreValidBatches bs → AreFit a bs
runs_fit a c [] p r q v = tt
runs_fit a c (b ∷ bs) p r q v =
    let e : Account.ends (Account.last_clock b) bs ≡ Account.ends (c + length b.bodies) bs = ap (λ n. Account.ends n bs) (ends_at c b r.first) in
    let above = ends_above (c + length b.bodies) bs r.more in
    (ops_fit a b.first b.bodies p (omega (arith, e, above, q, r.first)) v.0.sound v.0.shallow, runs_fit a (c + length b.bodies) bs p r.more (omega (arith, e, q)) v.1)

actor_low : (o : Option Resume) → IsSession o → Account.actor_in o ≤ most_actor
actor_low None h = omega arith
actor_low (Some s) h = h.1

pub account_fit : (x : Account) → IsSound x → AreFit (Account.actor x) (Account.issued x)
account_fit x h = runs_fit (Account.actor x) x.told (Account.issued x) (actor_low x.session h.session) h.own.runs (omega (arith, h.own.next)) h.own.closed

-- presence and events

all_kept : (P : List ℕ → Type 0) (unsent held : List (List ℕ)) (fs : List (List ℕ × Value)) → AllByRecursion P (keys_of fs) → AllByRecursion P (keys_of (unsent_members unsent held fs))
all_kept P unsent held [] h = tt
all_kept P unsent held (f ∷ fs) h = by_test (is_among f.0 unsent && not (is_among f.0 held)) (all_kept P unsent held fs h.1)
  where
    by_test : (b : Bool) → AllByRecursion P (keys_of (unsent_members unsent held fs)) → AllByRecursion P (keys_of (cond b (f ∷ unsent_members unsent held fs) (unsent_members unsent held fs)))
    by_test true k = (h.0, k)
    by_test false k = k

ordered_kept : (unsent held : List (List ℕ)) (fs : List (List ℕ × Value)) → IsStrictlySortedBy (slice_cmp nat_cmp) (keys_of fs) → IsStrictlySortedBy (slice_cmp nat_cmp) (keys_of (unsent_members unsent held fs))
unfolding IsStrictlySortedBy
ordered_kept unsent held [] h = tt
ordered_kept unsent held (f ∷ fs) h = by_test (is_among f.0 unsent && not (is_among f.0 held)) (all_kept _ unsent held fs h.0) (ordered_kept unsent held fs h.1)
  where
    by_test : (b : Bool) → AllByRecursion (λ k. slice_cmp nat_cmp f.0 k ≡ Less) (keys_of (unsent_members unsent held fs)) → IsStrictlySortedBy (slice_cmp nat_cmp) (keys_of (unsent_members unsent held fs))
        → IsStrictlySortedBy (slice_cmp nat_cmp) (keys_of (cond b (f ∷ unsent_members unsent held fs) (unsent_members unsent held fs)))
    by_test true g k = (g, k)
    by_test false g k = k

json_kept : (unsent held : List (List ℕ)) (fs : List (List ℕ × Value)) → HaveJson (fields_of fs) → HaveJson (fields_of (unsent_members unsent held fs))
json_kept unsent held [] h = tt
json_kept unsent held (f ∷ fs) h = by_test (is_among f.0 unsent && not (is_among f.0 held)) (json_kept unsent held fs h.2)
  where
    by_test : (b : Bool) → HaveJson (fields_of (unsent_members unsent held fs)) → HaveJson (fields_of (cond b (f ∷ unsent_members unsent held fs) (unsent_members unsent held fs)))
    by_test true k = (h.0, h.1, k)
    by_test false k = k

unsent_sound : (unsent held : List (List ℕ)) (fs : List (List ℕ × Value)) → AreSoundMembers fs → AreSoundMembers (unsent_members unsent held fs)
unsent_sound unsent held fs h = record { ordered = ordered_kept unsent held fs h.ordered; json = json_kept unsent held fs h.json }

-- a presence is no deeper than its members
presence_depth : (n : ℕ) (fs : List (List ℕ × Value)) → fields_most fs ≤ n → depth (members (fields_of fs)) ≤ n + 1
presence_depth n fs h = omega (arith, same_most fs, h)
  where
    same_most : (gs : List (List ℕ × Value)) → fields_depth (fields_of gs) ≡ fields_most gs
    same_most [] = refl
    same_most (g ∷ gs) = ap (max (depth g.1)) (same_most gs)

unsent_most : (n : ℕ) (unsent held : List (List ℕ)) (fs : List (List ℕ × Value)) → fields_most fs ≤ n → fields_most (unsent_members unsent held fs) ≤ n
unsent_most n unsent held [] h = h
unsent_most n unsent held (f ∷ fs) h = by_test (is_among f.0 unsent && not (is_among f.0 held)) (unsent_most n unsent held fs (omega (arith, h)))
  where
    by_test : (b : Bool) → fields_most (unsent_members unsent held fs) ≤ n → fields_most (cond b (f ∷ unsent_members unsent held fs) (unsent_members unsent held fs)) ≤ n
    by_test true k = omega (arith, h, k)
    by_test false k = k

patches_sound : (fs : List (List ℕ × Value)) → AreSoundMembers fs → fields_most fs ≤ 50 → AreSoundFrames (calls.patch_frames fs)
patches_sound [] h d = tt
patches_sound (f ∷ fs) h d = (((h, tt, omega (arith, presence_depth 50 (f ∷ fs) d)), tt), tt)

events_sound : (es : List Json) → AreValidEvents es → AreSoundFrames (map Account.frame_of_event es)
events_sound [] h = tt
events_sound (e ∷ es) h = (((h.0.json, omega (arith, h.0.shallow)), tt), events_sound es h.1)

-- what it sends: a hello, a flush, and all once more

pub hello_sound : (x : Account) → IsSound x → IsSoundInbound (inbound_frame (calls.hello_of x))
hello_sound x h = ((h.room, tt, tt), tt)

or_none : (b : Bool) (fs : List (List ClientMsg)) → AreSoundFrames fs → AreSoundFrames (cond b fs [])
or_none true fs h = h
or_none false fs h = tt

unless : (b : Bool) (fs : List (List ClientMsg)) → AreSoundFrames fs → AreSoundFrames (cond (not b) [] fs)
unless true fs h = h
unless false fs h = tt

pub flush_sound : (x : Account) → IsSound x → AreSoundFrames (calls.flush_frames x)
flush_sound x h =
    let patch = calls.patch_frames (unsent_members x.unsent (calls.held x) x.me) in
    let events = map Account.frame_of_event x.events in
    let batches = map (Account.frame_of (Account.actor x)) x.fresh in
    unless (Account.is_on x.stage) (patch ++ events ++ cond (Account.is_synced x.stage) batches [])
    (frames-append (patch ++ events) (cond (Account.is_synced x.stage) batches [])
    (frames-append patch events (patches_sound (unsent_members x.unsent (calls.held x) x.me) (unsent_sound x.unsent (calls.held x) x.me h.presence.own.sound) (unsent_most 50 x.unsent (calls.held x) x.me h.presence.own.shallow)) (events_sound x.events h.events))
    (or_none (Account.is_synced x.stage) batches (fit_frames (Account.actor x) x.fresh (fit_back (Account.actor x) x.sent x.fresh (account_fit x h)))))

pub resend_sound : (x : Account) → IsSound x → AreSoundFrames (calls.resend_frames x)
resend_sound x h = or_none (Account.is_synced x.stage) (map (Account.frame_of (Account.actor x)) (Account.issued x)) (fit_frames (Account.actor x) (Account.issued x) (account_fit x h))

-- what it answers a message

abbrev Replies : Received → Type 0
Replies out = AreSoundFrames out.replies

ok_is : (x y : Received) → ◌≡◌ {A = Result Received FrameFault} (Ok x) (Ok y) → x ≡ y
ok_is x y e = cc

err_ok : (e : FrameFault) (y : Received) → ◌≡◌ {A = Result Received FrameFault} (Err e) (Ok y) → ⊥
err_ok e y i = cc

said : (x y : Received) → Replies x → ◌≡◌ {A = Result Received FrameFault} (Ok x) (Ok y) → Replies y
said x y h e = subst Replies (ok_is x y e) h

once_sound : (b : Bool) (fault : FrameFault) (x y : Received) → Replies x → ◌≡◌ {A = Result Received FrameFault} (cond b (Ok x) (Err fault)) (Ok y) → Replies y
once_sound true fault x y h e = said x y h e
once_sound false fault x y h e = absurd (err_ok fault y e)

module _ (x : Account) (h : IsSound x) (out : Received) (after : IsSound out.account) where
  -- the whole presence, to one actor or to all
  full : (target : Option ℤ) → IsTarget target → AreSoundMembers x.me × IsTarget target × (depth (members (fields_of x.me)) ≤ 58)
  full target t = (h.presence.own.sound, t, omega (arith, presence_depth 50 x.me h.presence.own.shallow))

  to_all : IsTarget (Some (negsuc 0))
  to_all = (search rules, search rules)

  to_actor : (a : ℕ) → a ≤ most_actor → IsTarget (Some (pos a))
  to_actor a low = (search rules, search (rules, low))

  welcomed_sound : (a key : ℕ) (o : Option Resume) → Receive.welcomed_as x a key o ≡ Ok out → Replies out
  welcomed_sound a key None e = said (Receive.welcomed x a key) out ((full (Some (negsuc 0)) to_all, tt), ((tt, tt), tt)) e
  welcomed_sound a key (Some s) e = once_sound _ (Receive.AccountFault s.actor a) (Receive.welcomed x a key) out ((full (Some (negsuc 0)) to_all, tt), ((tt, tt), tt)) e

  room_sound : (a key : ℕ) (g : Stage) → Receive.receive_room x a key g ≡ Ok out → Replies out
  room_sound a key Account.Dialled e = welcomed_sound a key x.session e
  room_sound a key Account.Idle e = absurd (err_ok _ out e)
  room_sound a key Account.Connected e = absurd (err_ok _ out e)
  room_sound a key Account.Synced e = absurd (err_ok _ out e)

  -- the batches beyond what it is told are those of the account after it
  loaded_sound : (seq last : ℕ) (t : Nodes) → Receive.loaded x seq last t ≡ out → Replies out
  loaded_sound seq last t e =
      let fits : AreFit (Account.actor x) (Account.beyond last (Account.issued x) ++ []) = subst (λ (z : Received). AreFit (Account.actor z.account) (Account.issued z.account)) (sym e) (account_fit out.account after) in
      subst Replies e (fit_frames (Account.actor x) (Account.beyond last (Account.issued x)) (fit_front (Account.actor x) (Account.beyond last (Account.issued x)) [] fits))

  load_sound : (seq last : ℕ) (t : Nodes) (o : Option (ℕ × ℕ)) → Receive.load_at x seq last t o ≡ Ok out → Replies out
  load_sound seq last t (Some fault) e = absurd (err_ok _ out e)
  load_sound seq last t None e = loaded_sound seq last t (ok_is (Receive.loaded x seq last t) out e)

  tree_sound : (seq last : ℕ) (o : Option Nodes) → Receive.load x seq last o ≡ Ok out → Replies out
  tree_sound seq last None e = absurd (err_ok _ out e)
  tree_sound seq last (Some t) e = load_sound seq last t (Receive.state_fault x seq last) e

  part_sound : (seq last : ℕ) (items : List Value) (more : Bool) (o : Option (ℕ × ℕ)) → Receive.receive_part x seq last items more o ≡ Ok out → Replies out
  part_sound seq last items more (Some fault) e = absurd (err_ok _ out e)
  part_sound seq last items true None e = said (Receive.keeps_part x seq last items) out tt e
  part_sound seq last items false None e = tree_sound seq last _ e

  state_sound : (seq last : ℕ) (items : List Value) (more : Bool) (b : Bool)
      → ◌≡◌ {A = Result Received FrameFault} (cond (not b) (Err (Receive.Unexpected 200)) (Receive.receive_part x seq last items more (Receive.other_parts x.parts seq last))) (Ok out) → Replies out
  state_sound seq last items more true e = part_sound seq last items more _ e
  state_sound seq last items more false e = absurd (err_ok _ out e)

  told_sound : (os : List Op) (t : Nodes) (o : Result ℕ (ℕ × ℕ)) → Receive.update_told x os t o ≡ Ok out → Replies out
  told_sound os t (Err fault) e = absurd (err_ok _ out e)
  told_sound os t (Ok told) e = said _ out tt e

  on_sound : (os : List Op) (o : Option Nodes) → Receive.update_on x os o ≡ Ok out → Replies out
  on_sound os None e = absurd (err_ok _ out e)
  on_sound os (Some t) e = told_sound os t _ e

  numbered_sound : (os : List Op) (fault : FrameFault) (b : Bool) → ◌≡◌ {A = Result Received FrameFault} (cond b (Receive.update_on x os x.confirmed) (Err fault)) (Ok out) → Replies out
  numbered_sound os fault true e = on_sound os x.confirmed e
  numbered_sound os fault false e = absurd (err_ok fault out e)

  synced_sound : (seq : ℕ) (os : List Op) (ps : List Part) → Receive.update_synced x seq os ps ≡ Ok out → Replies out
  synced_sound seq os [] e = numbered_sound os _ _ e
  synced_sound seq os (p ∷ ps) e = absurd (err_ok _ out e)

  update_sound : (seq : ℕ) (os : List Op) (g : Stage) → Receive.receive_update x seq os g ≡ Ok out → Replies out
  update_sound seq os Account.Synced e = synced_sound seq os x.parts e
  update_sound seq os Account.Idle e = absurd (err_ok _ out e)
  update_sound seq os Account.Dialled e = absurd (err_ok _ out e)
  update_sound seq os Account.Connected e = absurd (err_ok _ out e)

  pub replies_sound : (m : ServerMsg) → IsValidServerMsg m → Receive.receive x m ≡ Ok out → AreSoundFrames out.replies
  replies_sound (server.Presence a target patch) i e = once_sound _ _ (Receive.received (Receive.presence_taken x a target patch)) out tt e
  replies_sound (server.Joined a) i e = once_sound _ _ (Receive.replying (Receive.forgets x a) (Account.frame_of_full_to a x.me ∷ [])) out ((full (Some (pos a)) (to_actor a i), tt), tt) e
  replies_sound (server.Left a) i e = once_sound _ _ (Receive.received (Receive.forgets x a)) out tt e
  replies_sound (server.Broadcast a f) i e = once_sound _ _ (record (Receive.received x) { events = (a, f) ∷ [] }) out tt e
  replies_sound (server.RoomState a key users) i e = room_sound a key x.stage e
  replies_sound (server.State seq last items more) i e = state_sound seq last items more (Account.is_on x.stage) e
  replies_sound (server.Update seq os) i e = update_sound seq os x.stage e
