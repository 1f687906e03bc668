-- What a message leaves of the session.
use Rattle.std.proofs.Common.{◌≡◌, ℕ, ◌+◌, ◌==◌, ◌⊎◌, inl, inr, Bool, true, false, cond, not, List, [], ◌∷◌, ◌++◌, refl, sym, ap, ◌∙◌, subst}
use Rattle.std.specs.Prelude.{Option, Some, None, Result, Ok, Err}
use Rattle.std.proofs.lemmas.Bool.{eqb-true}
use Rattle.room_json.specs.Value.{Value}
use Rattle.room_nodes.specs.declared.nodes.Op.{Op}
use Rattle.room_nodes.specs.Shape.{Nodes}
use Rattle.room_items.specs.Items.{tree_in}
use Rattle.room_msg.specs.declared.messages.Resume.{Resume}
use Rattle.room_msg.specs.declared.messages.ServerMsg.{ServerMsg}
use Rattle.room_msg.specs.declared.messages.ServerMsg.TheVariants as server
use Rattle.room_model.specs.Account.{Account, Part, Stage, Idle, Dialled, Connected, Synced, actor, actor_in, last_issued, is_on}
use Rattle.room_model.specs.Receive
use Rattle.room_laws.proofs.Facts.{ok_is, over}

abbrev Stays : Account → Receive.Received → Type 0
Stays x out = (actor out.account ≡ actor x) ⊎ (x.session ≡ None)

on_stays : (x : Account) (kind : ℕ) (res out : Receive.Received) → Stays x res → Receive.once_on x kind res ≡ Ok out → Stays x out
on_stays x kind res out h p = subst (Stays x) (over (is_on x.stage) _ res out p) h

welcomed_some : (x : Account) (a key b : ℕ) (t : Bool) (out : Receive.Received) (f : Receive.FrameFault) → (t ≡ true → b ≡ a) → actor x ≡ b → cond t (Ok (Receive.welcomed x a key)) (Err f) ≡ Ok out → Stays x out
welcomed_some x a key b true out f h e p = subst (Stays x) (ok_is _ _ p) (inl (sym (e ∙ h refl)))
welcomed_some x a key b false out f h e p = cc

welcomed_stays : (x : Account) (a key : ℕ) (o : Option Resume) (out : Receive.Received) → x.session ≡ o → Receive.welcomed_as x a key o ≡ Ok out → Stays x out
welcomed_stays x a key None out e p = inr e
welcomed_stays x a key (Some w) out e p = welcomed_some x a key w.actor (w.actor == a) out (Receive.AccountFault w.actor a) (λ i. eqb-true w.actor a i) (ap actor_in e) p

room_stays : (x : Account) (a key : ℕ) (g : Stage) (out : Receive.Received) → Receive.receive_room x a key g ≡ Ok out → Stays x out
room_stays x a key Dialled out p = welcomed_stays x a key x.session out refl p
room_stays x a key Idle out p = cc
room_stays x a key Connected out p = cc
room_stays x a key Synced out p = cc

load_at_stays : (x : Account) (seq last : ℕ) (t : Nodes) (o : Option (ℕ × ℕ)) (out : Receive.Received) → Receive.load_at x seq last t o ≡ Ok out → Stays x out
load_at_stays x seq last t (Some fault) out p = cc
load_at_stays x seq last t None out p = subst (Stays x) (ok_is _ _ p) (inl refl)

load_stays : (x : Account) (seq last : ℕ) (o : Option Nodes) (out : Receive.Received) → Receive.load x seq last o ≡ Ok out → Stays x out
load_stays x seq last None out p = cc
load_stays x seq last (Some t) out p = load_at_stays x seq last t (Receive.state_fault x seq last) out p

part_stays : (x : Account) (seq last : ℕ) (items : List Value) (more : Bool) (o : Option (ℕ × ℕ)) (out : Receive.Received) → Receive.receive_part x seq last items more o ≡ Ok out → Stays x out
part_stays x seq last items more (Some fault) out p = cc
part_stays x seq last items true None out p = subst (Stays x) (ok_is _ _ p) (inl refl)
part_stays x seq last items false None out p = load_stays x seq last (tree_in (Receive.parts_items x.parts ++ items)) out p

state_stays : (x : Account) (b : Bool) (f : Receive.FrameFault) (res : Result Receive.Received Receive.FrameFault) (out : Receive.Received) → (res ≡ Ok out → Stays x out) → cond b (Err f) res ≡ Ok out → Stays x out
state_stays x true f res out h p = cc
state_stays x false f res out h p = h p

told_stays : (x : Account) (os : List Op) (t : Nodes) (r : Result ℕ (ℕ × ℕ)) (out : Receive.Received) → Receive.update_told x os t r ≡ Ok out → Stays x out
told_stays x os t (Err fault) out p = cc
told_stays x os t (Ok told) out p = subst (Stays x) (ok_is _ _ p) (inl refl)

update_on_stays : (x : Account) (os : List Op) (o : Option Nodes) (out : Receive.Received) → Receive.update_on x os o ≡ Ok out → Stays x out
update_on_stays x os None out p = cc
update_on_stays x os (Some t) out p = told_stays x os t (Receive.told_by (actor x) (last_issued x) x.told os) out p

numbered_stays : (x : Account) (b : Bool) (f : Receive.FrameFault) (res : Result Receive.Received Receive.FrameFault) (out : Receive.Received) → (res ≡ Ok out → Stays x out) → cond b res (Err f) ≡ Ok out → Stays x out
numbered_stays x true f res out h p = h p
numbered_stays x false f res out h p = cc

synced_stays : (x : Account) (seq : ℕ) (os : List Op) (ps : List Part) (out : Receive.Received) → Receive.update_synced x seq os ps ≡ Ok out → Stays x out
synced_stays x seq os [] out p = numbered_stays x (seq == x.n + 1) (Receive.Gap (x.n + 1) seq) (Receive.update_on x os x.confirmed) out (λ q. update_on_stays x os x.confirmed out q) p
synced_stays x seq os (q ∷ ps) out p = cc

update_stays : (x : Account) (seq : ℕ) (os : List Op) (g : Stage) (out : Receive.Received) → Receive.receive_update x seq os g ≡ Ok out → Stays x out
update_stays x seq os Synced out p = synced_stays x seq os x.parts out p
update_stays x seq os Idle out p = cc
update_stays x seq os Dialled out p = cc
update_stays x seq os Connected out p = cc

pub receive_stays : (x : Account) (m : ServerMsg) (out : Receive.Received) → Receive.receive x m ≡ Ok out → Stays x out
receive_stays x (server.Presence a None patch) out p = on_stays x 100 (Receive.received (Receive.presence_taken x a None patch)) out (inl refl) p
receive_stays x (server.Presence a (Some target) patch) out p = on_stays x 100 (Receive.received (Receive.presence_taken x a (Some target) patch)) out (inl refl) p
receive_stays x (server.Joined a) out p = on_stays x 101 _ out (inl refl) p
receive_stays x (server.Left a) out p = on_stays x 102 _ out (inl refl) p
receive_stays x (server.Broadcast a e) out p = on_stays x 103 _ out (inl refl) p
receive_stays x (server.RoomState a key users) out p = room_stays x a key x.stage out p
receive_stays x (server.State seq last items more) out p =
    state_stays x (not (is_on x.stage)) (Receive.Unexpected 200) (Receive.receive_part x seq last items more (Receive.other_parts x.parts seq last)) out
    (λ q. part_stays x seq last items more (Receive.other_parts x.parts seq last) out q) p
receive_stays x (server.Update seq os) out p = update_stays x seq os x.stage out p
