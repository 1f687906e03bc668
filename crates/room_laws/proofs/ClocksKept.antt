-- Each call and each message keeps the clocks of an account running on.
use Rattle.std.proofs.Common.{◌≡◌, ℕ, ℤ, ◌+◌, ◌<◌, ◌≤◌, Bool, true, false, cond, nat_lt, nat_le, ◌&&◌, not, List, [], ◌∷◌, ◌++◌, length, Option, Some, None, refl, sym, ap, ◌∙◌, subst, arith, append_assoc, append-nil, ◌==◌}
use Rattle.std.specs.Prelude.{Result, Ok, Err}
use Rattle.std.proofs.lemmas.Bool.Decides.{nat_tests}
use Rattle.room_json.specs.Value.{Value, depth, merged}
use Rattle.room_json.specs.View.{json_of}
use Rattle.room_json.specs.declared.tree.Json.{Json}
use Rattle.room_nodes.specs.declared.nodes.Op.{Op}
use Rattle.room_nodes.specs.declared.nodes.Body.{Body}
use Rattle.room_nodes.specs.declared.nodes.Change.{Change}
use Rattle.room_nodes.specs.Shape.{Nodes}
use Rattle.room_msg.specs.declared.messages.Resume.{Resume}
use Rattle.room_msg.specs.declared.messages.ServerMsg.{ServerMsg}
use Rattle.room_msg.specs.declared.messages.ServerMsg.TheVariants as server
use Rattle.room_log.specs.Log.{actor_of, clock_of, bodies_of, ops_from}
use Rattle.room_model.specs.Edits.{Edit, EditFault, Made, make, spent, fields_most}
use Rattle.room_model.specs.Account.{Account, Batch, OpenBatch, Part, Stage, Idle, Dialled, Connected, Synced, issued, last_issued, ends, beyond, shown, clocks, actor, is_on, is_synced, is_some_list, size_of, frame_of_ops, frame_of_event, open_ops, most_bytes}
use Rattle.room_model.specs.Presence.{kept_names}
use Rattle.room_model.specs.Calls
use Rattle.room_model.specs.Receive
use Rattle.room_model.specs.Sound.{RunsOn, ClocksRunOn}
use Rattle.room_laws.specs.Clocks.{KeepsClocks}
use Rattle.room_laws.proofs.Batches.{ends_upto, Runs-append, beyond-append, runs_beyond}
use Rattle.room_items.specs.Items.{tree_in}
use Rattle.room_laws.proofs.Facts.{some_is, none_some, ok_is, under, over}

-- a batch issued at the end
one_more : (told : ℕ) (sent fresh : List Batch) (b : Batch) → RunsOn told (sent ++ fresh) → b.first ≡ ends told (sent ++ fresh) + 1 → 0 < length b.bodies → RunsOn told (sent ++ (fresh ++ b ∷ []))
one_more told sent fresh b h f s =
    subst (λ bs. RunsOn told bs) (append_assoc sent fresh (b ∷ []))
    (Runs-append told (sent ++ fresh) (b ∷ []) h (record { first = f ∙ ap (λ n. n + 1) (ends_upto told (sent ++ fresh) h); some = s; more = record {} }))

no_more : (told : ℕ) (sent fresh : List Batch) → RunsOn told (sent ++ fresh) → RunsOn told (sent ++ (fresh ++ []))
no_more told sent fresh h = subst (λ bs. RunsOn told (sent ++ bs)) (sym (append-nil fresh)) h

pub issues_more : (x : Account) (bs : List Body) → ClocksRunOn x → RunsOn x.told (x.sent ++ (x.fresh ++ Calls.issues_of x bs))
issues_more x [] h = no_more x.told x.sent x.fresh h
issues_more x (b ∷ bs) h = one_more x.told x.sent x.fresh (Calls.batch_of x (b ∷ bs)) h refl (omega arith)

-- all unsent, or all sent
all_fresh : (x : Account) → ClocksRunOn x → RunsOn x.told ([] ++ issued x)
all_fresh x h = h

all_sent : (x : Account) → ClocksRunOn x → RunsOn x.told (issued x ++ [])
all_sent x h = subst (λ bs. RunsOn x.told bs) (sym (append-nil (issued x))) h

-- edits

edited_keeps : (x : Account) (t : Nodes) (m : Made) (bs : List Body) (o : Option OpenBatch) → ClocksRunOn x → ClocksRunOn (Calls.edited_in x t m bs o)
edited_keeps x t m bs (Some o) h = h
edited_keeps x t m [] None h = h
edited_keeps x t m (b ∷ bs) None h = one_more x.told x.sent x.fresh (Calls.batch_of x (b ∷ bs)) h refl (omega arith)

sized_keeps : (x : Account) (t : Nodes) (m : Made) (size : ℕ) (out : Calls.Done) → ClocksRunOn x → Calls.edit_sized x t m size ≡ Ok out → ClocksRunOn out.account
sized_keeps x t m size out h p =
    subst (λ (d : Calls.Done). ClocksRunOn d.account) (under (nat_lt most_bytes size) _ _ _ p) (edited_keeps x t m (bodies_of m.ops) x.batch h)

made_keeps : (x : Account) (t : Nodes) (r : Result Made EditFault) (out : Calls.Done) → ClocksRunOn x → Calls.edit_made x t r ≡ Ok out → ClocksRunOn out.account
made_keeps x t (Err fault) out h p = cc
made_keeps x t (Ok m) out h p = sized_keeps x t m (size_of (frame_of_ops (open_ops x ++ m.ops))) out h p

edit_keeps : (x : Account) (e : Edit) (o : Option Nodes) (out : Calls.Done) → ClocksRunOn x → Calls.edit_on x e o ≡ Ok out → ClocksRunOn out.account
edit_keeps x e None out h p = cc
edit_keeps x e (Some t) out h p = made_keeps x t (make t (clocks x) e) out h p

-- batches

begin_keeps : (x y : Account) (o : Option OpenBatch) → ClocksRunOn x → Calls.begin_at x o ≡ Ok y → ClocksRunOn y
begin_keeps x y (Some o) h p = cc
begin_keeps x y None h p = subst ClocksRunOn (ok_is _ _ p) h

end_keeps : (x : Account) (o : Option OpenBatch) (out : Calls.Done) → ClocksRunOn x → Calls.end_at x o ≡ Ok out → ClocksRunOn out.account
end_keeps x None out h p = cc
end_keeps x (Some o) out h p = subst (λ (d : Calls.Done). ClocksRunOn d.account) (ok_is _ _ p) (issues_more x o.bodies h)

-- history

presence_keeps : (way : Calls.Direction) (x : Account) (entry : List Change) (size : ℕ) (out : Calls.Done) → ClocksRunOn x → Calls.back_presence way x entry size ≡ Ok (Some out) → ClocksRunOn out.account
presence_keeps way x entry size out h p =
    subst (λ (d : Calls.Done). ClocksRunOn d.account) (some_is _ _ (under (nat_lt most_bytes size) _ _ _ p)) (issues_more x (Calls.entry_bodies entry) h)

back_sized_keeps : (way : Calls.Direction) (x : Account) (entry : List Change) (b : Bool) (fault : Calls.UndoFault) (size : ℕ) (out : Calls.Done)
    → ClocksRunOn x → cond b (Err fault) (Calls.back_presence way x entry size) ≡ Ok (Some out) → ClocksRunOn out.account
back_sized_keeps way x entry true fault size out h p = cc
back_sized_keeps way x entry false fault size out h p = presence_keeps way x entry size out h p

clocked_keeps : (way : Calls.Direction) (x : Account) (entry : List Change) (bs : List Body) (o : Option ℕ) (out : Calls.Done) → ClocksRunOn x → Calls.back_clocked way x entry bs o ≡ Ok (Some out) → ClocksRunOn out.account
clocked_keeps way x entry bs (Some last) out h p = cc
clocked_keeps way x entry bs None out h p =
    let size = size_of (frame_of_ops (ops_from (actor x) (last_issued x + 1) bs)) in
    back_sized_keeps way x entry (is_some_list bs && nat_lt most_bytes size) (Calls.UndoBatchTooLarge size) (Calls.presence_size (Calls.entry_presence x.me entry)) out h p

entry_keeps : (way : Calls.Direction) (x : Account) (o : Option (List Change)) (out : Calls.Done) → ClocksRunOn x → Calls.back_entry way x o ≡ Ok (Some out) → ClocksRunOn out.account
entry_keeps way x None out h p = absurd (none_some out (ok_is _ _ p))
entry_keeps way x (Some entry) out h p = clocked_keeps way x entry (Calls.entry_bodies entry) (spent (last_issued x + 1) (length (Calls.entry_bodies entry))) out h p

back_keeps : (way : Calls.Direction) (x : Account) (o : Option OpenBatch) (out : Calls.Done) → ClocksRunOn x → Calls.back_at way x o ≡ Ok (Some out) → ClocksRunOn out.account
back_keeps way x (Some o) out h p = cc
back_keeps way x None out h p = entry_keeps way x (Calls.entry_of way x.history) out h p

-- presence and events

patch_keeps : (x y : Account) (patch : List (List ℕ × Value)) (in_history : Bool) (b : Bool) (fault : Calls.SayFault) (size : ℕ)
    → ClocksRunOn x → cond b (Err fault) (Calls.presence_sized x patch in_history size) ≡ Ok y → ClocksRunOn y
patch_keeps x y patch in_history true fault size h p = cc
patch_keeps x y patch in_history false fault size h p = subst ClocksRunOn (under (nat_lt most_bytes size) _ _ _ p) h

event_on_keeps : (x y : Account) (e : Json) (b : Bool) (fault : Calls.SayFault) (size : ℕ)
    → ClocksRunOn x → cond b (Err fault) (Calls.event_sized x e size) ≡ Ok y → ClocksRunOn y
event_on_keeps x y e true fault size h p = cc
event_on_keeps x y e false fault size h p = subst ClocksRunOn (under (nat_lt most_bytes size) _ _ _ p) h

event_keeps : (x y : Account) (e : Json) (b c : Bool) (f g : Calls.SayFault) (size : ℕ)
    → ClocksRunOn x → cond b (Err f) (cond c (Err g) (Calls.event_sized x e size)) ≡ Ok y → ClocksRunOn y
event_keeps x y e true c f g size h p = cc
event_keeps x y e false c f g size h p = event_on_keeps x y e c g size h p

-- sending

synced_keeps : (x : Account) (synced : Bool) → ClocksRunOn x → RunsOn x.told (cond synced (issued x) x.sent ++ cond synced [] x.fresh)
synced_keeps x true h = all_sent x h
synced_keeps x false h = h

flush_keeps : (x y : Account) (on : Bool) → ClocksRunOn x → ClocksRunOn y → ClocksRunOn (cond on x y)
flush_keeps x y true h k = h
flush_keeps x y false h k = k

-- what a flush leaves of a client that is on
abbrev turned : Account → Account
turned x = record x {
  unsent = kept_names x.unsent (Calls.held x);
  events = [];
  sent = cond (is_synced x.stage) (issued x) x.sent;
  fresh = cond (is_synced x.stage) [] x.fresh;
}

-- messages

received_is : (x : Account) (kind : ℕ) (out y : Receive.Received) (b : Bool) → cond b (Ok out) (Err (Receive.Unexpected kind)) ≡ Ok y → ClocksRunOn out.account → ClocksRunOn y.account
received_is x kind out y b p h = subst (λ (d : Receive.Received). ClocksRunOn d.account) (over b (Receive.Unexpected kind) out y p) h

welcome_keeps : (x : Account) (a key : ℕ) (o : Option Resume) (out : Receive.Received) → ClocksRunOn x → Receive.welcomed_as x a key o ≡ Ok out → ClocksRunOn out.account
welcome_keeps x a key None out h p = subst (λ (d : Receive.Received). ClocksRunOn d.account) (ok_is _ _ p) h
welcome_keeps x a key (Some s) out h p = subst (λ (d : Receive.Received). ClocksRunOn d.account) (over (s.actor == a) _ _ _ p) h

room_keeps : (x : Account) (a key : ℕ) (g : Stage) (out : Receive.Received) → ClocksRunOn x → Receive.receive_room x a key g ≡ Ok out → ClocksRunOn out.account
room_keeps x a key Dialled out h p = welcome_keeps x a key x.session out h p
room_keeps x a key Idle out h p = cc
room_keeps x a key Connected out h p = cc
room_keeps x a key Synced out h p = cc

target_keeps : (x : Account) (a : ℕ) (o : Option ℤ) (patch : List (List ℕ × Value)) → ClocksRunOn x → ClocksRunOn (Receive.presence_taken x a o patch)
target_keeps x a None patch h = h
target_keeps x a (Some target) patch h = h

-- a state: its last clock isn't below `told`

pub second_none : (b : Bool) (f : ℕ × ℕ) (o : Option (ℕ × ℕ)) → cond b (Some f) o ≡ None → (b ≡ false) × (o ≡ None)
second_none true f o p = cc
second_none false f o p = (refl, p)

load_keeps : (x : Account) (seq last : ℕ) (t : Nodes) (o : Option (ℕ × ℕ)) (out : Receive.Received) → Receive.state_fault x seq last ≡ o → ClocksRunOn x → Receive.load_at x seq last t o ≡ Ok out → ClocksRunOn out.account
load_keeps x seq last t (Some f) out q h p = cc
load_keeps x seq last t None out q h p =
    let later = second_none (nat_lt seq x.n) _ _ q in
    let told = second_none (nat_lt last x.told) _ _ later.1 in
    let le : x.told ≤ last = grind (arith, nat_tests, told.0) in
    subst (λ (d : Receive.Received). ClocksRunOn d.account) (ok_is _ _ p)
    (subst (λ bs. RunsOn last bs) (sym (append-nil (beyond last (issued x)))) (runs_beyond x.told last (issued x) h le))

loaded_keeps : (x : Account) (seq last : ℕ) (o : Option Nodes) (out : Receive.Received) → ClocksRunOn x → Receive.load x seq last o ≡ Ok out → ClocksRunOn out.account
loaded_keeps x seq last None out h p = cc
loaded_keeps x seq last (Some t) out h p = load_keeps x seq last t (Receive.state_fault x seq last) out refl h p

part_keeps : (x : Account) (seq last : ℕ) (items : List Value) (more : Bool) (o : Option (ℕ × ℕ)) (out : Receive.Received) → ClocksRunOn x → Receive.receive_part x seq last items more o ≡ Ok out → ClocksRunOn out.account
part_keeps x seq last items more (Some f) out h p = cc
part_keeps x seq last items true None out h p = subst (λ (d : Receive.Received). ClocksRunOn d.account) (ok_is _ _ p) h
part_keeps x seq last items false None out h p = loaded_keeps x seq last (tree_in (Receive.parts_items x.parts ++ items)) out h p

state_keeps : (x : Account) (seq last : ℕ) (items : List Value) (more b : Bool) (out : Receive.Received) → ClocksRunOn x
    → cond b (Err (Receive.Unexpected 200)) (Receive.receive_part x seq last items more (Receive.other_parts x.parts seq last)) ≡ Ok out → ClocksRunOn out.account
state_keeps x seq last items more true out h p = cc
state_keeps x seq last items more false out h p = part_keeps x seq last items more (Receive.other_parts x.parts seq last) out h p

-- an update: the clock that it tells isn't below `told`

own_later : (a limit c : ℕ) (o : Op) (os : List Op) (r : ℕ) (other own : Bool) → (clock_of o == c + 1) && nat_le (clock_of o) limit ≡ own
    → ((c : ℕ) → Receive.told_by a limit c os ≡ Ok r → c ≤ r)
    → cond other (Receive.told_by a limit c os) (cond own (Receive.told_by a limit (c + 1) os) (Err (c, clock_of o))) ≡ Ok r → c ≤ r
own_later a limit c o os r true own q k p = k c p
own_later a limit c o os r false true q k p = omega (arith, k (c + 1) p)
own_later a limit c o os r false false q k p = cc

pub told_later : (a limit : ℕ) (os : List Op) (r : ℕ) (c : ℕ) → Receive.told_by a limit c os ≡ Ok r → c ≤ r
told_later a limit [] r c p = let e : c ≡ r = cc in omega arith
told_later a limit (o ∷ os) r c p = own_later a limit c o os r (not (actor_of o == a)) ((clock_of o == c + 1) && nat_le (clock_of o) limit) refl (told_later a limit os r) p

told_keeps : (x : Account) (os : List Op) (t : Nodes) (r : Result ℕ (ℕ × ℕ)) (out : Receive.Received) → Receive.told_by (actor x) (last_issued x) x.told os ≡ r → ClocksRunOn x → Receive.update_told x os t r ≡ Ok out → ClocksRunOn out.account
told_keeps x os t (Err f) out q h p = cc
told_keeps x os t (Ok told) out q h p =
    subst (λ (d : Receive.Received). ClocksRunOn d.account) (ok_is _ _ p)
    (subst (λ bs. RunsOn told bs) (beyond-append told x.sent x.fresh) (runs_beyond x.told told (issued x) h (told_later (actor x) (last_issued x) os told x.told q)))

update_keeps : (x : Account) (os : List Op) (o : Option Nodes) (out : Receive.Received) → ClocksRunOn x → Receive.update_on x os o ≡ Ok out → ClocksRunOn out.account
update_keeps x os None out h p = cc
update_keeps x os (Some t) out h p = told_keeps x os t (Receive.told_by (actor x) (last_issued x) x.told os) out refl h p

numbered_keeps : (x : Account) (os : List Op) (b : Bool) (f : Receive.FrameFault) (out : Receive.Received) → ClocksRunOn x → cond b (Receive.update_on x os x.confirmed) (Err f) ≡ Ok out → ClocksRunOn out.account
numbered_keeps x os true f out h p = update_keeps x os x.confirmed out h p
numbered_keeps x os false f out h p = cc

parts_keeps : (x : Account) (seq : ℕ) (os : List Op) (ps : List Part) (out : Receive.Received) → ClocksRunOn x → Receive.update_synced x seq os ps ≡ Ok out → ClocksRunOn out.account
parts_keeps x seq os [] out h p = numbered_keeps x os (seq == x.n + 1) (Receive.Gap (x.n + 1) seq) out h p
parts_keeps x seq os (q ∷ qs) out h p = cc

stage_keeps : (x : Account) (seq : ℕ) (os : List Op) (g : Stage) (out : Receive.Received) → ClocksRunOn x → Receive.receive_update x seq os g ≡ Ok out → ClocksRunOn out.account
stage_keeps x seq os Synced out h p = parts_keeps x seq os x.parts out h p
stage_keeps x seq os Idle out h p = cc
stage_keeps x seq os Dialled out h p = cc
stage_keeps x seq os Connected out h p = cc

receive_keeps : (x : Account) (m : ServerMsg) (out : Receive.Received) → ClocksRunOn x → Receive.receive x m ≡ Ok out → ClocksRunOn out.account
receive_keeps x (server.Presence a target patch) out h p = received_is x 100 _ out (is_on x.stage) p (target_keeps x a target patch h)
receive_keeps x (server.Joined a) out h p = received_is x 101 _ out (is_on x.stage) p h
receive_keeps x (server.Left a) out h p = received_is x 102 _ out (is_on x.stage) p h
receive_keeps x (server.Broadcast a e) out h p = received_is x 103 _ out (is_on x.stage) p h
receive_keeps x (server.RoomState a key users) out h p = room_keeps x a key x.stage out h p
receive_keeps x (server.State seq last items more) out h p = state_keeps x seq last items more (not (is_on x.stage)) out h p
receive_keeps x (server.Update seq os) out h p = stage_keeps x seq os x.stage out h p

pub keeps_clocks : KeepsClocks
keeps_clocks = record {
  new = λ room. record {};
  lost = all_fresh;
  dialled = all_fresh;
  edit = λ x e out h p. edit_keeps x e (shown x) out h p;
  batch_begin = λ x y h p. begin_keeps x y x.batch h p;
  batch_end = λ x out h p. end_keeps x x.batch out h p;
  go_back = λ way x out h p. back_keeps way x x.batch out h p;
  presence = λ x y patch in_history h p. patch_keeps x y patch in_history (nat_lt 50 (fields_most patch)) (Calls.ValueTooDeep (fields_most patch)) (Calls.presence_size (merged x.me patch)) h p;
  event = λ x y e h p. event_keeps x y e (not (is_on x.stage)) (nat_lt 50 (depth (json_of e))) Calls.NotConnected (Calls.ValueTooDeep (depth (json_of e))) (size_of (frame_of_event e)) h p;
  pauses = λ x h. h;
  resumes = λ x h. h;
  clears = λ x h. h;
  flushed = λ x h. flush_keeps x (turned x) (not (is_on x.stage)) h (synced_keeps x (is_synced x.stage) h);
  resent = λ x h. flush_keeps (record x { sent = issued x; fresh = [] }) x (is_synced x.stage) (all_sent x h) h;
  receive = receive_keeps;
}
