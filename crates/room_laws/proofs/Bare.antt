-- An open batch without operations has none that goes back.
use Rattle.std.proofs.Common.{◌≡◌, ℕ, Bool, true, false, cond, not, nat_lt, ◌==◌, ◌+◌, List, [], ◌∷◌, ◌++◌, refl, sym, ap, ◌∙◌, subst}
use Rattle.std.specs.Prelude.{Option, Some, None, Result, Ok, Err}
use Rattle.room_json.specs.Value.{Value, depth, merged}
use Rattle.room_json.specs.View.{json_of}
use Rattle.room_nodes.specs.declared.nodes.Body.{Body}
use Rattle.room_nodes.specs.declared.nodes.Change.{Change}
use Rattle.room_nodes.specs.declared.nodes.Op.{Op}
use Rattle.room_nodes.specs.Shape.{Nodes}
use Rattle.room_items.specs.Items.{tree_in}
use Rattle.room_msg.specs.declared.messages.Resume.{Resume}
use Rattle.room_msg.specs.declared.messages.ServerMsg.{ServerMsg}
use Rattle.room_msg.specs.declared.messages.ServerMsg.TheVariants as server
use Rattle.room_log.specs.Log.{State, bodies_of}
use Rattle.room_model.specs.Account.{Account, OpenBatch, Part, Stage, Idle, Dialled, Connected, Synced, actor, last_issued, is_on, size_of, frame_of_event}
use Rattle.room_model.specs.Calls as calls
use Rattle.room_model.specs.Receive
use Rattle.room_model.specs.Edits.{Made, fields_most}
use Rattle.room_model.specs.Lines.{Line}
use Rattle.room_model.specs.World
use Rattle.room_model.specs.World.{Slot, slot_in, account}
use Rattle.room_model.specs.Run.{run, opened}
use Rattle.room_laws.specs.Events.{Event, Called, Arrived, Ended, happened, happen, events}
use Rattle.room_laws.proofs.Alone.{back_as}
use Rattle.room_laws.proofs.Facts.{ok_is, over, under}
use Rattle.room_laws.proofs.Happens.{Keeps, keeps_event}
use Rattle.room_laws.proofs.Maps.{get_none}
use Rattle.room_laws.proofs.Open.{edit_as, entry-append, no_bodies, flushed_same, resent_same, event_at}
use Rattle.room_laws.proofs.Slots.{follows_events}

abbrev pub Bare : Option OpenBatch → Type 0
Bare None = Unit {0}
Bare (Some o) = o.bodies ≡ [] → calls.entry_bodies o.changes ≡ []

abbrev IsBare : Account → Type 0
IsBare x = Bare x.batch

stays : (x y : Account) → y.batch ≡ x.batch → IsBare x → IsBare y
stays x y e h = subst Bare (sym e) h

-- a message leaves the open batch

pub through : {A E : Type 0} (b : Bool) (e : E) (r : Result A E) (y : A) → cond b (Err e) r ≡ Ok y → r ≡ Ok y
through true e r y p = cc
through false e r y p = p

pub reaches : {A E : Type 0} (b : Bool) (e : E) (r : Result A E) (y : A) → cond b r (Err e) ≡ Ok y → r ≡ Ok y
reaches true e r y p = p
reaches false e r y p = cc

pub record Leaves (x : Account) (out : Receive.Received) : Type 0 where
  pub batch : out.account.batch ≡ x.batch
  pub history : out.account.history ≡ x.history

as_received : (x : Account) (a out : Receive.Received) → ◌≡◌ {A = Result Receive.Received Receive.FrameFault} (Ok a) (Ok out) → Leaves x a → Leaves x out
as_received x a out p h = subst (Leaves x) (ok_is a out p) h

load_leaves : (x : Account) (seq last : ℕ) (t : Nodes) (o : Option (ℕ × ℕ)) (out : Receive.Received) → Receive.load_at x seq last t o ≡ Ok out → Leaves x out
load_leaves x seq last t (Some f) out p = cc
load_leaves x seq last t None out p = as_received x (Receive.loaded x seq last t) out p (record { batch = refl; history = refl })

tree_leaves : (x : Account) (seq last : ℕ) (o : Option Nodes) (out : Receive.Received) → Receive.load x seq last o ≡ Ok out → Leaves x out
tree_leaves x seq last None out p = cc
tree_leaves x seq last (Some t) out p = load_leaves x seq last t (Receive.state_fault x seq last) out p

part_leaves : (x : Account) (seq last : ℕ) (items : List Value) (more : Bool) (o : Option (ℕ × ℕ)) (out : Receive.Received) → Receive.receive_part x seq last items more o ≡ Ok out → Leaves x out
part_leaves x seq last items more (Some f) out p = cc
part_leaves x seq last items true None out p = as_received x (Receive.keeps_part x seq last items) out p (record { batch = refl; history = refl })
part_leaves x seq last items false None out p = tree_leaves x seq last (tree_in (Receive.parts_items x.parts ++ items)) out p

told_leaves : (x : Account) (os : List Op) (t : Nodes) (r : Result ℕ (ℕ × ℕ)) (out : Receive.Received) → Receive.update_told x os t r ≡ Ok out → Leaves x out
told_leaves x os t (Err f) out p = cc
told_leaves x os t (Ok told) out p = as_received x _ out p (record { batch = refl; history = refl })

on_leaves : (x : Account) (os : List Op) (o : Option Nodes) (out : Receive.Received) → Receive.update_on x os o ≡ Ok out → Leaves x out
on_leaves x os None out p = cc
on_leaves x os (Some t) out p = told_leaves x os t (Receive.told_by (actor x) (last_issued x) x.told os) out p

synced_leaves : (x : Account) (seq : ℕ) (os : List Op) (ps : List Part) (out : Receive.Received) → Receive.update_synced x seq os ps ≡ Ok out → Leaves x out
synced_leaves x seq os [] out p = on_leaves x os x.confirmed out (reaches (seq == x.n + 1) _ (Receive.update_on x os x.confirmed) out p)
synced_leaves x seq os (q ∷ ps) out p = cc

update_leaves : (x : Account) (seq : ℕ) (os : List Op) (g : Stage) (out : Receive.Received) → Receive.receive_update x seq os g ≡ Ok out → Leaves x out
update_leaves x seq os Idle out p = cc
update_leaves x seq os Dialled out p = cc
update_leaves x seq os Connected out p = cc
update_leaves x seq os Synced out p = synced_leaves x seq os x.parts out p

once_leaves : (x : Account) (kind : ℕ) (a out : Receive.Received) → Leaves x a → Receive.once_on x kind a ≡ Ok out → Leaves x out
once_leaves x kind a out h p = subst (Leaves x) (over (is_on x.stage) _ a out p) h

named_leaves : (x : Account) (a key : ℕ) (o : Option Resume) (out : Receive.Received) → Receive.welcomed_as x a key o ≡ Ok out → Leaves x out
named_leaves x a key None out p = as_received x (Receive.welcomed x a key) out p (record { batch = refl; history = refl })
named_leaves x a key (Some w) out p = subst (Leaves x) (over (w.actor == a) _ (Receive.welcomed x a key) out p) (record { batch = refl; history = refl })

room_leaves : (x : Account) (a key : ℕ) (g : Stage) (out : Receive.Received) → Receive.receive_room x a key g ≡ Ok out → Leaves x out
room_leaves x a key Dialled out p = named_leaves x a key x.session out p
room_leaves x a key Idle out p = cc
room_leaves x a key Connected out p = cc
room_leaves x a key Synced out p = cc

pub receive_leaves : (x : Account) (m : ServerMsg) (out : Receive.Received) → Receive.receive x m ≡ Ok out → Leaves x out
receive_leaves x (server.Presence a None patch) out p = once_leaves x 100 (Receive.received (Receive.presence_taken x a None patch)) out (record { batch = refl; history = refl }) p
receive_leaves x (server.Presence a (Some target) patch) out p = once_leaves x 100 (Receive.received (Receive.presence_taken x a (Some target) patch)) out (record { batch = refl; history = refl }) p
receive_leaves x (server.Joined a) out p = once_leaves x 101 _ out (record { batch = refl; history = refl }) p
receive_leaves x (server.Left a) out p = once_leaves x 102 _ out (record { batch = refl; history = refl }) p
receive_leaves x (server.Broadcast a e) out p = once_leaves x 103 _ out (record { batch = refl; history = refl }) p
receive_leaves x (server.RoomState a key users) out p = room_leaves x a key x.stage out p
receive_leaves x (server.State seq last items more) out p =
    part_leaves x seq last items more (Receive.other_parts x.parts seq last) out (through (not (is_on x.stage)) _ (Receive.receive_part x seq last items more (Receive.other_parts x.parts seq last)) out p)
receive_leaves x (server.Update seq os) out p = update_leaves x seq os x.stage out p

-- calls

no_front : (xs ys : List Body) → xs ++ ys ≡ [] → (xs ≡ []) × (ys ≡ [])
no_front [] ys e = (refl, e)
no_front (x ∷ xs) ys e = cc

edited_bare : (x : Account) (t : Nodes) (m : Made) (bs : List Body) (o : Option OpenBatch) → x.batch ≡ o → Bare o → IsBare (calls.edited_in x t m bs o)
edited_bare x t m bs (Some o) e h = λ i.
    let both = no_front o.bodies bs i in
    entry-append (calls.changes_back t bs) o.changes ∙ ap (λ (z : List Body). calls.entry_bodies (calls.changes_back t z) ++ calls.entry_bodies o.changes) both.1 ∙ h both.0
edited_bare x t m [] None e h = subst Bare (sym e) tt
edited_bare x t m (b ∷ bs) None e h = subst Bare (sym e) tt

begun_bare : (x y : Account) (o : Option OpenBatch) → calls.begin_at x o ≡ Ok y → IsBare y
begun_bare x y (Some o) p = cc
begun_bare x y None p = subst IsBare (ok_is _ y p) (λ i. refl)

ended_bare : (x : Account) (out : calls.Done) (o : Option OpenBatch) → calls.end_at x o ≡ Ok out → IsBare out.account
ended_bare x out None p = cc
ended_bare x out (Some o) p = subst (λ (d : calls.Done). IsBare d.account) (ok_is (calls.closed x o) out p) tt

back_bare : (direction : calls.Direction) (x : Account) (out : calls.Done) → IsBare x → calls.go_back direction x ≡ Ok (Some out) → IsBare out.account
back_bare direction x out h p = let a = back_as direction x x.batch out refl p in subst (λ (d : calls.Done). IsBare d.account) a.is h

patched_bare : (back : List Change) (patch : List (List ℕ × Value)) (o : Option OpenBatch) → calls.entry_bodies back ≡ [] → Bare o → Bare (calls.open_patched back patch o)
patched_bare back patch None e h = tt
patched_bare back patch (Some o) e h = λ i. entry-append back o.changes ∙ ap (λ z. z ++ calls.entry_bodies o.changes) e ∙ h i

presence_bare : (x y : Account) (patch : List (List ℕ × Value)) (in_history : Bool) (b : Bool) (fault : calls.SayFault) (size : ℕ) → IsBare x → cond b (Err fault) (calls.presence_sized x patch in_history size) ≡ Ok y → IsBare y
presence_bare x y patch in_history true fault size h p = cc
presence_bare x y patch in_history false fault size h p = subst IsBare (under (nat_lt _ size) _ (calls.patched_me x patch (calls.back_noted x patch in_history)) y p)
    (patched_bare (calls.back_noted x patch in_history) patch x.batch (no_bodies x patch in_history) h)

keeps_bare : Keeps IsBare (λ call. Unit {0}) (λ m. Unit {0})
keeps_bare = record {
  edit = λ x e out a h p. (let d = edit_as x e _ out p in subst (λ (z : calls.Done). IsBare z.account) d.is (edited_bare x d.tree d.made (bodies_of d.made.ops) x.batch refl h));
  begin = λ x y a h p. begun_bare x y x.batch p;
  end = λ x out a h p. ended_bare x out x.batch p;
  undo = λ x out a h p. back_bare calls.Undo x out h p;
  redo = λ x out a h p. back_bare calls.Redo x out h p;
  paused = λ x h. h;
  resumed = λ x h. h;
  cleared = λ x a h. h;
  presence = λ x y patch in_history a h p. presence_bare x y patch in_history (nat_lt 50 (fields_most patch)) (calls.ValueTooDeep (fields_most patch)) (calls.presence_size (merged x.me patch)) h p;
  event = λ x y e a h p. stays x y (event_at x y e (not (is_on x.stage)) (nat_lt 50 (depth (json_of e))) calls.NotConnected (calls.ValueTooDeep (depth (json_of e))) (size_of (frame_of_event e)) p).batch h;
  flushed = λ x h. stays x (calls.flushed x) (flushed_same x x.stage refl).batch h;
  resent = λ x h. stays x (calls.resent x) (resent_same x x.stage refl).batch h;
  lost = λ x h. h;
  dialled = λ x h. h;
  receive = λ x m out a h p. stays x out.account (receive_leaves x m out p).batch h;
}

event_bare : (x : Account) (e : Event) → IsBare x → IsBare (happened x e)
event_bare x (Called call) h = keeps_event IsBare (λ c. Unit {0}) (λ m. Unit {0}) keeps_bare x (Called call) tt h
event_bare x (Arrived m) h = keeps_event IsBare (λ c. Unit {0}) (λ m. Unit {0}) keeps_bare x (Arrived m) tt h
event_bare x Ended h = h

happen_bare : (x : Account) (es : List Event) → IsBare x → IsBare (happen x es)
happen_bare x [] h = h
happen_bare x (e ∷ es) h = happen_bare (happened x e) es (event_bare x e h)

pub always_bare : (s : State) (ls : List (ℕ × Line)) (c : ℕ) → Bare (account (run (opened s) ls).world c).batch
always_bare s ls c = subst IsBare (sym (follows_events (opened s) c ls)) (happen_bare (account (World.opening s) c) (events (World.opening s) c ls)
    (subst (λ (o : Option Slot). Bare (slot_in o).account.batch) (sym (get_none c)) tt))
