-- Which calls issue a batch, and which leave what the laws read.
use Rattle.std.proofs.Common.{◌≡◌, ℕ, ◌+◌, inl, inr, Bool, true, false, cond, List, [], ◌∷◌, ◌++◌, length, refl, subst, arith, append-nil, nat_lt, not, ◌&&◌}
use Rattle.std.specs.Prelude.{Option, Some, None, Result, Ok, Err}
use Rattle.room_json.specs.Value.{Value, depth, merged}
use Rattle.room_json.specs.View.{json_of}
use Rattle.room_json.specs.declared.tree.Json.{Json}
use Rattle.room_nodes.specs.Shape.{Nodes}
use Rattle.room_nodes.specs.declared.nodes.Body.{Body}
use Rattle.room_nodes.specs.declared.nodes.Change.{Change as Back}
use Rattle.room_log.specs.Log.{bodies_of, ops_from}
use Rattle.room_model.specs.Edits.{Edit, EditFault, Made, make, spent, fields_most}
use Rattle.room_model.specs.Account.{Account, OpenBatch, actor, clocks, size_of, most_bytes, frame_of_ops, frame_of_event, open_ops, is_some_list, last_issued, is_on}
use Rattle.room_model.specs.Calls as calls
use Rattle.room_laws.specs.Core.{core}
use Rattle.room_laws.proofs.Calls.{Called}
use Rattle.room_laws.proofs.Facts.{some_is, none_some, ok_is, under}

same_fresh : (x : Account) → record (core x) { fresh = x.fresh ++ [] } ≡ core x
same_fresh x = rw (append-nil x.fresh) refl

-- a batch of these bodies
bodies_called : (x : Account) (bs : List Body) → Called (core x) (record (core x) { fresh = x.fresh ++ calls.issues_of x bs }) (calls.issues_of x bs)
bodies_called x [] = inl (same_fresh x, refl)
bodies_called x (b ∷ bs) = inr (record { batch = calls.batch_of x (b ∷ bs); one = refl; now = refl; first = refl; some = omega arith })

edited_called : (x : Account) (t : Nodes) (m : Made) (bs : List Body) (o : Option OpenBatch) → Called (core x) (core (calls.edited_in x t m bs o)) (calls.edit_issues x bs o)
edited_called x t m bs (Some o) = inl (refl, refl)
edited_called x t m [] None = inl (refl, refl)
edited_called x t m (b ∷ bs) None = inr (record { batch = calls.batch_of x (b ∷ bs); one = refl; now = refl; first = refl; some = omega arith })

abbrev DoneCalled : Account → calls.Done → Type 0
DoneCalled x d = Called (core x) (core d.account) d.issues

sized_called : (x : Account) (t : Nodes) (m : Made) (size : ℕ) (out : calls.Done) → calls.edit_sized x t m size ≡ Ok out → DoneCalled x out
sized_called x t m size out p = subst (DoneCalled x) (under (nat_lt most_bytes size) _ _ _ p) (edited_called x t m (bodies_of m.ops) x.batch)

made_called : (x : Account) (t : Nodes) (r : Result Made EditFault) (out : calls.Done) → calls.edit_made x t r ≡ Ok out → DoneCalled x out
made_called x t (Err fault) out p = cc
made_called x t (Ok m) out p = sized_called x t m (size_of (frame_of_ops (open_ops x ++ m.ops))) out p

pub edit_called : (x : Account) (e : Edit) (o : Option Nodes) (out : calls.Done) → calls.edit_on x e o ≡ Ok out → DoneCalled x out
edit_called x e None out p = cc
edit_called x e (Some t) out p = made_called x t (make t (clocks x) e) out p

pub begin_called : (x y : Account) (o : Option OpenBatch) → calls.begin_at x o ≡ Ok y → Called (core x) (core y) []
begin_called x y (Some o) p = cc
begin_called x y None p = subst (λ (z : Account). Called (core x) (core z) []) (ok_is _ _ p) (inl (refl, refl))

pub end_called : (x : Account) (o : Option OpenBatch) (out : calls.Done) → calls.end_at x o ≡ Ok out → DoneCalled x out
end_called x None out p = cc
end_called x (Some o) out p = subst (DoneCalled x) (ok_is _ _ p) (bodies_called x o.bodies)

presence_back : (way : calls.Direction) (x : Account) (entry : List Back) (size : ℕ) (out : calls.Done) → calls.back_presence way x entry size ≡ Ok (Some out) → DoneCalled x out
presence_back way x entry size out p = subst (DoneCalled x) (some_is _ _ (under (nat_lt most_bytes size) _ _ _ p)) (bodies_called x (calls.entry_bodies entry))

back_sized : (way : calls.Direction) (x : Account) (entry : List Back) (b : Bool) (fault : calls.UndoFault) (size : ℕ) (out : calls.Done)
    → cond b (Err fault) (calls.back_presence way x entry size) ≡ Ok (Some out) → DoneCalled x out
back_sized way x entry true fault size out p = cc
back_sized way x entry false fault size out p = presence_back way x entry size out p

back_clocked : (way : calls.Direction) (x : Account) (entry : List Back) (bs : List Body) (o : Option ℕ) (out : calls.Done) → calls.back_clocked way x entry bs o ≡ Ok (Some out) → DoneCalled x out
back_clocked way x entry bs (Some last) out p = cc
back_clocked way x entry bs None out p =
    let size = size_of (frame_of_ops (ops_from (actor x) (last_issued x + 1) bs)) in
    back_sized way x entry (is_some_list bs && nat_lt most_bytes size) (calls.UndoBatchTooLarge size) (calls.presence_size (calls.entry_presence x.me entry)) out p

back_entry : (way : calls.Direction) (x : Account) (o : Option (List Back)) (out : calls.Done) → calls.back_entry way x o ≡ Ok (Some out) → DoneCalled x out
back_entry way x None out p = absurd (none_some out (ok_is _ _ p))
back_entry way x (Some entry) out p = back_clocked way x entry (calls.entry_bodies entry) (spent (last_issued x + 1) (length (calls.entry_bodies entry))) out p

pub back_called : (way : calls.Direction) (x : Account) (o : Option OpenBatch) (out : calls.Done) → calls.back_at way x o ≡ Ok (Some out) → DoneCalled x out
back_called way x (Some o) out p = cc
back_called way x None out p = back_entry way x (calls.entry_of way x.history) out p

abbrev AccountCalled : Account → Account → Type 0
AccountCalled x y = Called (core x) (core y) []

patch_called : (x y : Account) (patch : List (List ℕ × Value)) (in_history : Bool) (b : Bool) (fault : calls.SayFault) (size : ℕ)
    → cond b (Err fault) (calls.presence_sized x patch in_history size) ≡ Ok y → AccountCalled x y
patch_called x y patch in_history true fault size p = cc
patch_called x y patch in_history false fault size p = subst (AccountCalled x) (under (nat_lt most_bytes size) _ _ _ p) (inl (refl, refl))

pub presence_called : (x y : Account) (patch : List (List ℕ × Value)) (in_history : Bool) → calls.presence x patch in_history ≡ Ok y → AccountCalled x y
presence_called x y patch in_history p =
    patch_called x y patch in_history (nat_lt 50 (fields_most patch)) (calls.ValueTooDeep (fields_most patch)) (calls.presence_size (merged x.me patch)) p

event_called_on : (x y : Account) (e : Json) (b : Bool) (fault : calls.SayFault) (size : ℕ) → cond b (Err fault) (calls.event_sized x e size) ≡ Ok y → AccountCalled x y
event_called_on x y e true fault size p = cc
event_called_on x y e false fault size p = subst (AccountCalled x) (under (nat_lt most_bytes size) _ _ _ p) (inl (refl, refl))

event_called_at : (x y : Account) (e : Json) (b c : Bool) (f g : calls.SayFault) (size : ℕ) → cond b (Err f) (cond c (Err g) (calls.event_sized x e size)) ≡ Ok y → AccountCalled x y
event_called_at x y e true c f g size p = cc
event_called_at x y e false c f g size p = event_called_on x y e c g size p

pub event_called : (x y : Account) (e : Json) → calls.event x e ≡ Ok y → AccountCalled x y
event_called x y e p =
    event_called_at x y e (not (is_on x.stage)) (nat_lt 50 (depth (json_of e))) calls.NotConnected (calls.ValueTooDeep (depth (json_of e))) (size_of (frame_of_event e)) p
