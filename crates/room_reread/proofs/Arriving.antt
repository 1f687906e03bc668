-- Each message that a client takes keeps what it sends within a frame.
use Rattle.std.proofs.Common.{◌≡◌, ◌≤◌, ◌+◌, ◌==◌, ℕ, ℤ, Bool, true, false, cond, not, nat_lt, List, [], ◌∷◌, ◌++◌}
use Rattle.std.proofs.Common.{Option, Some, None, refl, sym, ap, ◌∙◌, subst, arith, append-nil}
use Rattle.std.specs.Prelude.{Result, Ok, Err}
use Rattle.std.proofs.lemmas.Bool.{eqb-true}
use Rattle.std.proofs.lemmas.Bool.Decides.{nat_tests}
use Rattle.room_json.specs.Value.{Value}
use Rattle.room_nodes.specs.declared.nodes.Op.{Op}
use Rattle.room_nodes.specs.Shape.{Nodes}
use Rattle.room_items.specs.Items.{tree_in}
use Rattle.room_msg.specs.declared.messages.Resume.{Resume}
use Rattle.room_msg.specs.declared.messages.ServerMsg.{ServerMsg}
use Rattle.room_msg.specs.declared.messages.ServerMsg.TheVariants as server
use Rattle.room_model.specs.Presence.{Others}
use Rattle.room_model.specs.Account.{Account, Batch, Part, Stage, Idle, Dialled, Connected, Synced, actor, actor_in}
use Rattle.room_model.specs.Account.{issued, last_issued, ends, beyond, bodies_in, is_on}
use Rattle.room_model.specs.Receive
use Rattle.room_model.specs.Sound.{HasTree, MadeNothing, IsSound}
use Rattle.room_laws.proofs.Batches.{beyond-append, ends_later, ends_stay}
use Rattle.room_laws.proofs.ClocksKept.{told_later, second_none}
use Rattle.room_laws.proofs.Facts.{ok_is, over}
use Rattle.room_laws.proofs.SoundReceives.{told_within}
use Rattle.room_reread.specs.Fits.{KnowsItself, AreSized, FitsFrames}
use Rattle.room_reread.proofs.Fitting.{OpsFit, beyond_sized, knows_on, none_begun}

abbrev Fits : Receive.Received → Type 0
Fits d = FitsFrames d.account

others_fit : (x : Account) (os : Others) → FitsFrames x → FitsFrames (record x { others = os })
others_fit x os h = record { room = h.room; knows = h.knows; closed = h.closed; begun = h.begun }

shown_fits : (x : Account) (a : ℕ) (target : Option ℤ) (patch : List (List ℕ × Value)) → FitsFrames x
    → FitsFrames (Receive.presence_taken x a target patch)
shown_fits x a None patch h = others_fit x _ h
shown_fits x a (Some target) patch h = others_fit x _ h

-- a session: before it, nothing was made

made_nothing : (x : Account) (r : Option Resume) → x.session ≡ r → r ≡ None → IsSound x → FitsFrames x
    → MadeNothing (issued x) x.batch x.history
made_nothing x r e i s h =
    let knows : KnowsItself x.stage None x.confirmed =
    subst (λ (q : Option Resume). KnowsItself x.stage q x.confirmed) (e ∙ i) h.knows in
    (subst (HasTree x.stage (issued x) x.batch x.history) knows.1 s.tree).1

welcomed_new : (x : Account) (a key : ℕ) → x.session ≡ None → IsSound x → FitsFrames x
    → FitsFrames (Receive.welcomed x a key).account
welcomed_new x a key e s h =
    let none = made_nothing x x.session refl e s h in
    record {
      room = h.room;
      knows = tt;
      closed = subst (AreSized a) (sym none.closed) tt;
      begun = none_begun a (last_issued x + 1) x.batch none.bodies;
    }

welcomed_again : (x : Account) (a key : ℕ) (r : Resume) → x.session ≡ Some r → r.actor ≡ a → FitsFrames x
    → FitsFrames (Receive.welcomed x a key).account
welcomed_again x a key r e i h =
    let same : actor x ≡ a = ap actor_in e ∙ i in
    record {
      room = h.room;
      knows = tt;
      closed = subst (λ n. AreSized n (issued x)) same h.closed;
      begun = subst (λ n. OpsFit n (last_issued x + 1) (bodies_in x.batch)) same h.begun;
    }

again_by : (x : Account) (a key : ℕ) (r : Resume) (out : Receive.Received) (f : Receive.FrameFault) (b : Bool)
    → (r.actor == a) ≡ b → x.session ≡ Some r → FitsFrames x
    → cond b (Ok (Receive.welcomed x a key)) (Err f) ≡ Ok out → FitsFrames out.account
again_by x a key r out f true i e h p =
    subst Fits (ok_is (Receive.welcomed x a key) out p) (welcomed_again x a key r e (eqb-true r.actor a i) h)
again_by x a key r out f false i e h p = cc

named_fits : (x : Account) (a key : ℕ) (o : Option Resume) (out : Receive.Received) → x.session ≡ o → IsSound x
    → FitsFrames x → Receive.welcomed_as x a key o ≡ Ok out → FitsFrames out.account
named_fits x a key None out e s h p = subst Fits (ok_is (Receive.welcomed x a key) out p) (welcomed_new x a key e s h)
named_fits x a key (Some r) out e s h p =
    again_by x a key r out (Receive.AccountFault r.actor a) (r.actor == a) refl e h p

room_fits : (x : Account) (a key : ℕ) (g : Stage) (out : Receive.Received) → IsSound x → FitsFrames x
    → Receive.receive_room x a key g ≡ Ok out → FitsFrames out.account
room_fits x a key Dialled out s h p = named_fits x a key x.session out refl s h p
room_fits x a key Idle out s h p = cc
room_fits x a key Connected out s h p = cc
room_fits x a key Synced out s h p = cc

-- what is left beyond a clock that was issued

left_begun : (x : Account) (c : ℕ) (bs : List Batch) → bs ≡ beyond c (issued x) → x.told ≤ c → c ≤ last_issued x
    → IsSound x → FitsFrames x → OpsFit (actor x) (ends c bs + 1) (bodies_in x.batch)
left_begun x c bs is l m s h =
    let same : last_issued x ≡ ends c bs =
    sym (ends_stay x.told c (issued x) s.own.runs l m) ∙ ap (ends c) (sym is) in
    subst (λ n. OpsFit (actor x) (n + 1) (bodies_in x.batch)) same h.begun

left_closed : (x : Account) (c : ℕ) (bs : List Batch) → bs ≡ beyond c (issued x) → FitsFrames x → AreSized (actor x) bs
left_closed x c bs is h = subst (AreSized (actor x)) (sym is) (beyond_sized (actor x) c (issued x) h.closed)

-- a state

loaded_fits : (x : Account) (seq last : ℕ) (t : Nodes) → is_on x.stage ≡ true → x.told ≤ last → last ≤ last_issued x
    → IsSound x → FitsFrames x → FitsFrames (Receive.loaded_account x seq last t)
loaded_fits x seq last t on l m s h = record {
  room = h.room;
  knows = knows_on x.session x.confirmed (Some t) x.stage Synced on h.knows;
  closed = left_closed x last (beyond last (issued x) ++ []) (append-nil (beyond last (issued x))) h;
  begun = left_begun x last (beyond last (issued x) ++ []) (append-nil (beyond last (issued x))) l m s h;
}

fault_at : (x : Account) (seq last : ℕ) (t : Nodes) (o : Option (ℕ × ℕ)) (out : Receive.Received)
    → Receive.state_fault x seq last ≡ o → is_on x.stage ≡ true → IsSound x → FitsFrames x
    → Receive.load_at x seq last t o ≡ Ok out → FitsFrames out.account
fault_at x seq last t (Some f) out q on s h p = cc
fault_at x seq last t None out q on s h p =
    let later = second_none (nat_lt seq x.n) (x.n, seq) _ q in
    let told = second_none (nat_lt last x.told) (x.told, last) _ later.1 in
    let issues = second_none (nat_lt (last_issued x) last) (last_issued x, last) None told.1 in
    subst Fits (ok_is (Receive.loaded x seq last t) out p)
    (loaded_fits x seq last t on (grind (arith, nat_tests, told.0)) (grind (arith, nat_tests, issues.0)) s h)

load_fits : (x : Account) (seq last : ℕ) (o : Option Nodes) (out : Receive.Received) → is_on x.stage ≡ true → IsSound x
    → FitsFrames x → Receive.load x seq last o ≡ Ok out → FitsFrames out.account
load_fits x seq last None out on s h p = cc
load_fits x seq last (Some t) out on s h p = fault_at x seq last t (Receive.state_fault x seq last) out refl on s h p

kept_fits : (x : Account) (ps : List Part) → FitsFrames x → FitsFrames (record x { parts = ps })
kept_fits x ps h = record { room = h.room; knows = h.knows; closed = h.closed; begun = h.begun }

part_fits : (x : Account) (seq last : ℕ) (items : List Value) (more : Bool) (o : Option (ℕ × ℕ))
    (out : Receive.Received) → is_on x.stage ≡ true → IsSound x → FitsFrames x
    → Receive.receive_part x seq last items more o ≡ Ok out → FitsFrames out.account
part_fits x seq last items more (Some f) out on s h p = cc
part_fits x seq last items true None out on s h p =
    subst Fits (ok_is (Receive.keeps_part x seq last items) out p) (kept_fits x _ h)
part_fits x seq last items false None out on s h p =
    load_fits x seq last (tree_in (Receive.parts_items x.parts ++ items)) out on s h p

state_fits : (x : Account) (seq last : ℕ) (items : List Value) (more b : Bool) (out : Receive.Received)
    → is_on x.stage ≡ b → IsSound x → FitsFrames x
    → cond (not b) (Err (Receive.Unexpected 200))
    (Receive.receive_part x seq last items more (Receive.other_parts x.parts seq last)) ≡ Ok out
    → FitsFrames out.account
state_fits x seq last items more true out on s h p =
    part_fits x seq last items more (Receive.other_parts x.parts seq last) out on s h p
state_fits x seq last items more false out on s h p = cc

-- an update

told_fits : (x : Account) (os : List Op) (t : Nodes) (r : Result ℕ (ℕ × ℕ)) (out : Receive.Received)
    → Receive.told_by (actor x) (last_issued x) x.told os ≡ r → is_on x.stage ≡ true → IsSound x → FitsFrames x
    → Receive.update_told x os t r ≡ Ok out → FitsFrames out.account
told_fits x os t (Err f) out q on s h p = cc
told_fits x os t (Ok told) out q on s h p =
    let later = told_later (actor x) (last_issued x) os told x.told q in
    let within =
    told_within (actor x) (last_issued x) os told x.told (ends_later x.told (issued x) s.own.runs) q in
    let left : beyond told x.sent ++ beyond told x.fresh ≡ beyond told (issued x) =
    sym (beyond-append told x.sent x.fresh) in
    subst Fits (ok_is _ out p) (record {
      room = h.room;
      knows = knows_on x.session x.confirmed (Receive.updated_account x os told t).confirmed x.stage x.stage on h.knows;
      closed = left_closed x told (beyond told x.sent ++ beyond told x.fresh) left h;
      begun = left_begun x told (beyond told x.sent ++ beyond told x.fresh) left later within s h;
    })

tree_fits : (x : Account) (os : List Op) (o : Option Nodes) (out : Receive.Received) → is_on x.stage ≡ true → IsSound x
    → FitsFrames x → Receive.update_on x os o ≡ Ok out → FitsFrames out.account
tree_fits x os None out on s h p = cc
tree_fits x os (Some t) out on s h p =
    told_fits x os t (Receive.told_by (actor x) (last_issued x) x.told os) out refl on s h p

numbered_fits : (x : Account) (os : List Op) (b : Bool) (f : Receive.FrameFault) (out : Receive.Received)
    → is_on x.stage ≡ true → IsSound x → FitsFrames x → cond b (Receive.update_on x os x.confirmed) (Err f) ≡ Ok out
    → FitsFrames out.account
numbered_fits x os true f out on s h p = tree_fits x os x.confirmed out on s h p
numbered_fits x os false f out on s h p = cc

parts_fit : (x : Account) (seq : ℕ) (os : List Op) (ps : List Part) (out : Receive.Received) → is_on x.stage ≡ true
    → IsSound x → FitsFrames x → Receive.update_synced x seq os ps ≡ Ok out → FitsFrames out.account
parts_fit x seq os [] out on s h p = numbered_fits x os (seq == x.n + 1) (Receive.Gap (x.n + 1) seq) out on s h p
parts_fit x seq os (q ∷ qs) out on s h p = cc

update_fits : (x : Account) (seq : ℕ) (os : List Op) (g : Stage) (out : Receive.Received) → x.stage ≡ g → IsSound x
    → FitsFrames x → Receive.receive_update x seq os g ≡ Ok out → FitsFrames out.account
update_fits x seq os Synced out e s h p = parts_fit x seq os x.parts out (ap is_on e) s h p
update_fits x seq os Idle out e s h p = cc
update_fits x seq os Dialled out e s h p = cc
update_fits x seq os Connected out e s h p = cc

pub fits_receive : (x : Account) (m : ServerMsg) (out : Receive.Received) → IsSound x → FitsFrames x
    → Receive.receive x m ≡ Ok out → FitsFrames out.account
fits_receive x (server.Presence a target patch) out s h p =
    let taken = Receive.received (Receive.presence_taken x a target patch) in
    subst Fits (over (is_on x.stage) (Receive.Unexpected 100) taken out p) (shown_fits x a target patch h)
fits_receive x (server.Joined a) out s h p =
    subst Fits (over (is_on x.stage) (Receive.Unexpected 101) _ out p) (others_fit x _ h)
fits_receive x (server.Left a) out s h p =
    subst Fits (over (is_on x.stage) (Receive.Unexpected 102) _ out p) (others_fit x _ h)
fits_receive x (server.Broadcast a e) out s h p = subst Fits (over (is_on x.stage) (Receive.Unexpected 103) _ out p) h
fits_receive x (server.RoomState a key users) out s h p = room_fits x a key x.stage out s h p
fits_receive x (server.State seq last items more) out s h p =
    state_fits x seq last items more (is_on x.stage) out refl s h p
fits_receive x (server.Update seq os) out s h p = update_fits x seq os x.stage out refl s h p
