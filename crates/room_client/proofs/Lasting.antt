-- What a client's account says that its editor's says; and what it is after the connection is lost, and after all is
-- sent.
use Rattle.std.proofs.Common.{◌≡◌, ◌++◌, ◌∙◌, ◌≤◌, ℕ, true, false, cond, List, [], ◌∷◌, map, length, Option}
use Rattle.std.proofs.Common.{◌+◌, if◌then◌else◌, Some, None, refl, sym, ap, arith}
use Rattle.room_json.specs.declared.tree.Json.{Json}
use Rattle.room_nodes.specs.Shape.{Nodes}
use Rattle.room_nodes.specs.Steps.{fold}
use Rattle.room_msg.specs.Written.{client_text}
use Rattle.room_msg.specs.declared.messages.ClientMsg.{ClientMsg}
use Rattle.room_model.specs.Account.{Account, Part, Stage, Idle, Dialled, Connected, Synced, actor, all_bodies}
use Rattle.room_model.specs.Account.{bodies_in}
use Rattle.room_model.specs.Account.{frame_of, frame_of_event, is_on, is_some_list, is_synced, issued, last_issued}
use Rattle.room_model.specs.Account.{shown, shown_over, unacknowledged}
use Rattle.room_model.specs.Calls.{flush_frames, flushed, held, lost, patch_frames, resend_frames, resent}
use Rattle.room_model.specs.Presence.{kept_names, nobody, unsent_members}
use Rattle.room_model.specs.Sound.{RunsOn}
use Rattle.room_client.specs.Client.{behind, client_of, up_to}
use Rattle.room_client.proofs.Batches.{all_fresh, all_up, joined, none_behind, none_sent}

map_append : {X Y : Type 0} (f : X → Y) (xs ys : List X) → map f (xs ++ ys) ≡ map f xs ++ map f ys
map_append f [] ys = refl
map_append f (x ∷ xs) ys = ap (λ zs. f x ∷ zs) (map_append f xs ys)

module _ (e : Account) (stage : Stage) (c : ℕ) (parts : List Part) (events : List Json) where
  abbrev client : Account
  client = client_of e stage c parts events

  shown_at : (o : Option Nodes) → shown_over e o ≡ shown_over client o
  shown_at None = refl
  shown_at (Some t) = ap (λ bs. Some (fold t (all_bodies bs ++ bodies_in e.batch))) (sym (joined c (issued e)))

  pub shown_is : shown e ≡ shown client
  shown_is = shown_at e.confirmed

  pub unacknowledged_is : unacknowledged e ≡ unacknowledged client
  unacknowledged_is =
      ap (λ bs. length bs + (if is_some_list (bodies_in e.batch) then 1 else 0)) (sym (joined c (issued e)))

  pub lost_is : (g : Stage) → RunsOn e.told (issued e)
      → client_of (record e { others = nobody }) g 0 [] [] ≡ record (lost client) { stage = g }
  lost_is g run =
      let low : 0 ≤ e.told = omega arith in
      let fresh = all_fresh 0 e.told (issued e) run low ∙ sym (joined c (issued e)) in
      let sent = none_sent 0 e.told (issued e) run low in
      λ i. record e { stage = g; sent = sent i; fresh = fresh i; parts = []; others = nobody; events = [] }

-- all is sent

all_sent : (e y : Account) (c : ℕ) (parts : List Part) (events : List Json) → RunsOn e.told (issued e)
    → issued y ≡ issued e
    → client_of y Synced (last_issued e) parts events
    ≡ record y {
      stage = Synced;
      sent = up_to c (issued e) ++ behind c (issued e);
      fresh = [];
      parts = parts;
      events = events;
    }
all_sent e y c parts events run same =
    let le : last_issued e ≤ last_issued e = omega arith in
    let sent =
    ap (up_to (last_issued e)) same ∙ all_up e.told (issued e) (last_issued e) run le ∙ sym (joined c (issued e)) in
    let fresh = ap (behind (last_issued e)) same ∙ none_behind e.told (issued e) (last_issued e) run le in
    λ i. record y { stage = Synced; sent = sent i; fresh = fresh i; parts = parts; events = events }

pub flushed_is : (e : Account) (stage : Stage) (c : ℕ) (parts : List Part) (events : List Json)
    → RunsOn e.told (issued e) → is_on stage ≡ true
    → client_of (record e { unsent = kept_names e.unsent (held e) }) stage (cond (is_synced stage) (last_issued e) c)
    parts []
    ≡ flushed (client_of e stage c parts events)
flushed_is e Idle c parts events run on = cc
flushed_is e Dialled c parts events run on = cc
flushed_is e Connected c parts events run on = refl
flushed_is e Synced c parts events run on =
    all_sent e (record e { unsent = kept_names e.unsent (held e) }) c parts [] run refl

pub unflushed_is : (e : Account) (stage : Stage) (c : ℕ) (parts : List Part) (events : List Json) → is_on stage ≡ false
    → client_of e stage c parts events ≡ flushed (client_of e stage c parts events)
unflushed_is e Idle c parts events off = refl
unflushed_is e Dialled c parts events off = refl
unflushed_is e Connected c parts events off = cc
unflushed_is e Synced c parts events off = cc

pub resent_is : (e : Account) (stage : Stage) (c : ℕ) (parts : List Part) (events : List Json)
    → RunsOn e.told (issued e) → is_synced stage ≡ true
    → client_of e stage (last_issued e) parts events ≡ resent (client_of e stage c parts events)
resent_is e Idle c parts events run on = cc
resent_is e Dialled c parts events run on = cc
resent_is e Connected c parts events run on = cc
resent_is e Synced c parts events run on = all_sent e e c parts events run refl

pub unsent_is : (e : Account) (stage : Stage) (c : ℕ) (parts : List Part) (events : List Json)
    → is_synced stage ≡ false → client_of e stage c parts events ≡ resent (client_of e stage c parts events)
unsent_is e Idle c parts events off = refl
unsent_is e Dialled c parts events off = refl
unsent_is e Connected c parts events off = refl
unsent_is e Synced c parts events off = cc

-- the frames

pub resend_texts : (e : Account) (stage : Stage) (c : ℕ) (parts : List Part) (events : List Json)
    → is_synced stage ≡ true
    → map client_text (map (frame_of (actor e)) (issued e))
    ≡ map client_text (resend_frames (client_of e stage c parts events))
resend_texts e Idle c parts events on = cc
resend_texts e Dialled c parts events on = cc
resend_texts e Connected c parts events on = cc
resend_texts e Synced c parts events on =
    ap (λ bs. map client_text (map (frame_of (actor e)) bs)) (sym (joined c (issued e)))

pub no_resend : (e : Account) (stage : Stage) (c : ℕ) (parts : List Part) (events : List Json)
    → is_synced stage ≡ false → [] ≡ map client_text (resend_frames (client_of e stage c parts events))
no_resend e Idle c parts events off = refl
no_resend e Dialled c parts events off = refl
no_resend e Connected c parts events off = refl
no_resend e Synced c parts events off = cc

pub no_flush : (e : Account) (stage : Stage) (c : ℕ) (parts : List Part) (events : List Json)
    → is_on stage ≡ false → [] ≡ map client_text (flush_frames (client_of e stage c parts events))
no_flush e Idle c parts events off = refl
no_flush e Dialled c parts events off = refl
no_flush e Connected c parts events off = cc
no_flush e Synced c parts events off = cc

module _ (e : Account) (c : ℕ) (events : List Json) where
  abbrev patch : List (List ℕ)
  patch = map client_text (patch_frames (unsent_members e.unsent (held e) e.me))

  abbrev queued : List (List ℕ)
  queued = map client_text (map frame_of_event events)

  three : (bs : List (List ClientMsg)) → (patch ++ queued) ++ map client_text bs
      ≡ map client_text (patch_frames (unsent_members e.unsent (held e) e.me) ++ map frame_of_event events ++ bs)
  three bs =
      let all = patch_frames (unsent_members e.unsent (held e) e.me) in
      sym (
      map_append client_text (all ++ map frame_of_event events) bs
      ∙ ap (λ ts. ts ++ map client_text bs) (map_append client_text all (map frame_of_event events))
      )

  pub flush_texts : (stage : Stage) (parts : List Part) → is_on stage ≡ true
      → (patch ++ queued)
      ++ map client_text (cond (is_synced stage) (map (frame_of (actor e)) (behind c (issued e))) [])
      ≡ map client_text (flush_frames (client_of e stage c parts events))
  flush_texts Idle parts on = cc
  flush_texts Dialled parts on = cc
  flush_texts Connected parts on = three []
  flush_texts Synced parts on = three (map (frame_of (actor e)) (behind c (issued e)))
