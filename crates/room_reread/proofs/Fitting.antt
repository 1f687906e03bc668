-- Each call and each message keeps what a client sends within a frame.
use Rattle.std.proofs.Common.{◌≡◌, ◌≤◌, ◌+◌, ◌-◌, ◌&&◌, ℕ, zero, suc, max, Bool, true, false, cond, not}
use Rattle.std.proofs.Common.{nat_lt, List, [], ◌∷◌, ◌++◌, length, drop, Option, Some, None, refl, sym, ap, ◌∙◌, subst}
use Rattle.std.proofs.Common.{arith, append_assoc, append-nil}
use Rattle.std.specs.Prelude.{Result, Ok, Err}
use Rattle.std.proofs.lemmas.Bool.Decides.{nat_tests}
use Rattle.room_json.specs.Value.{Value, depth, merged}
use Rattle.room_json.specs.View.{json_of}
use Rattle.room_json.specs.declared.tree.Json.{Json}
use Rattle.room_nodes.specs.declared.nodes.Op.{Op}
use Rattle.room_nodes.specs.declared.nodes.Body.{Body}
use Rattle.room_nodes.specs.declared.nodes.Change.{Change}
use Rattle.room_nodes.specs.Shape.{Nodes}
use Rattle.room_msg.specs.declared.messages.Resume.{Resume}
use Rattle.room_log.specs.Log.{ops_from, op_of, bodies_of}
use Rattle.room_model.specs.Edits.{Edit, EditFault, BatchTooLarge, Clocks, Made, make, made, spent, fields_most}
use Rattle.room_model.specs.History.{History}
use Rattle.room_model.specs.Presence.{kept_names}
use Rattle.room_model.specs.Account.{Account, Batch, OpenBatch, Stage, Idle, Dialled, new_account}
use Rattle.room_model.specs.Account.{actor, issued, last_issued, ends, rest_of, beyond, last_clock, shown, clocks}
use Rattle.room_model.specs.Account.{bodies_in, open_ops, is_on, is_synced, is_some_list, frame_of, frame_of_ops}
use Rattle.room_model.specs.Account.{size_of}
use Rattle.room_model.specs.Account.{frame_of_event, most_bytes}
use Rattle.room_model.specs.Calls as calls
use Rattle.room_model.specs.World.{room_name}
use Rattle.room_laws.proofs.EditMakes.{Makes, makes}
use Rattle.room_laws.proofs.Facts.{some_is, none_some, ok_is, under}
use Rattle.room_laws.proofs.Ops.{bodies_again}
use Rattle.room_reread.specs.Fits.{KnowsItself, AreSized, FitsFrames}
use Rattle.room_reread.proofs.Sizes.{none_fits, rest_fits}

abbrev pub OpsFit : ℕ → ℕ → List Body → Type 0
OpsFit a first bs = size_of (frame_of_ops (ops_from a first bs)) ≤ most_bytes

fits_by : (size : ℕ) → nat_lt most_bytes size ≡ false → size ≤ most_bytes
fits_by size e = grind (arith, nat_tests, e)

-- operations of batches

ops_join : (a f : ℕ) (bs cs : List Body) → ops_from a f bs ++ ops_from a (f + length bs) cs ≡ ops_from a f (bs ++ cs)
ops_join a f [] cs = ap (λ n. ops_from a n cs) (none f)
  where
    none : (n : ℕ) → n + length {A = Body} [] ≡ n
    none n = omega arith
ops_join a f (b ∷ bs) cs =
    ap (λ n. op_of a f b ∷ (ops_from a (f + 1) bs ++ ops_from a n cs)) (shifted f bs)
    ∙ ap (λ os. op_of a f b ∷ os) (ops_join a (f + 1) bs cs)
  where
    shifted : (n : ℕ) (ds : List Body) → n + length (b ∷ ds) ≡ n + 1 + length ds
    shifted n ds = omega arith

ops_drop : (a f n : ℕ) (bs : List Body) → drop n (ops_from a f bs) ≡ ops_from a (f + n) (drop n bs)
ops_drop a f zero bs = ap (λ n. ops_from a n bs) (none f)
  where
    none : (n : ℕ) → n ≡ n + zero
    none n = omega arith
ops_drop a f (suc n) [] = refl
ops_drop a f (suc n) (b ∷ bs) = ops_drop a (f + 1) n bs ∙ ap (λ m. ops_from a m (drop n bs)) (shifted f n)
  where
    shifted : (i j : ℕ) → i + 1 + j ≡ i + suc j
    shifted i j = omega arith

rest_first : (f c : ℕ) → f + (c + 1 - f) ≡ max f (c + 1)
rest_first f c = omega arith

rest_sized : (a c : ℕ) (b : Batch) → size_of (frame_of a b) ≤ most_bytes
    → size_of (frame_of a (rest_of c b)) ≤ most_bytes
rest_sized a c b h =
    let n = c + 1 - b.first in
    let is : drop n (ops_from a b.first b.bodies) ≡ ops_from a (max b.first (c + 1)) (drop n b.bodies) =
    ops_drop a b.first n b.bodies ∙ ap (λ m. ops_from a m (drop n b.bodies)) (rest_first b.first c) in
    subst (λ (os : List Op). size_of (frame_of_ops os) ≤ most_bytes) is (rest_fits (ops_from a b.first b.bodies) n h)

beyond_by : (t : Bool) (a c : ℕ) (b : Batch) (bs : List Batch) → size_of (frame_of a b) ≤ most_bytes → AreSized a bs
    → AreSized a (cond t (rest_of c b ∷ bs) bs)
beyond_by true a c b bs h k = (rest_sized a c b h, k)
beyond_by false a c b bs h k = k

pub beyond_sized : (a c : ℕ) (bs : List Batch) → AreSized a bs → AreSized a (beyond c bs)
beyond_sized a c [] h = tt
beyond_sized a c (b ∷ bs) h = beyond_by (nat_lt c (last_clock b)) a c b (beyond c bs) h.0 (beyond_sized a c bs h.1)

sized_append : (a : ℕ) (bs cs : List Batch) → AreSized a bs → AreSized a cs → AreSized a (bs ++ cs)
sized_append a [] cs h k = k
sized_append a (b ∷ bs) cs h k = (h.0, sized_append a bs cs h.1 k)

issues_sized : (x : Account) (bs : List Body) → AreSized (actor x) (issued x) → OpsFit (actor x) (last_issued x + 1) bs
    → AreSized (actor x) (x.sent ++ (x.fresh ++ calls.issues_of x bs))
issues_sized x [] h k = subst (λ (cs : List Batch). AreSized (actor x) (x.sent ++ cs)) (sym (append-nil x.fresh)) h
issues_sized x (b ∷ bs) h k =
    subst (AreSized (actor x)) (append_assoc x.sent x.fresh (calls.batch_of x (b ∷ bs) ∷ []))
    (sized_append (actor x) (issued x) (calls.batch_of x (b ∷ bs) ∷ []) h (k, tt))

-- an open batch without operations
pub none_begun : (a f : ℕ) (o : Option OpenBatch) → bodies_in o ≡ [] → OpsFit a f (bodies_in o)
none_begun a f o e = subst (OpsFit a f) (sym e) none_fits

-- an account that knows itself as another did
knows_off : (r : Option Resume) (c : Option Nodes) (was now : Stage) → is_on now ≡ false → KnowsItself was r c
    → KnowsItself now r c
knows_off None c was now e h = (e, h.1)
knows_off (Some s) c was now e h = tt

pub false_true : false ≡ true → ⊥
false_true e = cc

pub knows_on : (r : Option Resume) (c d : Option Nodes) (was now : Stage) → is_on was ≡ true → KnowsItself was r c
    → KnowsItself now r d
knows_on None c d was now e h = absurd (false_true (sym h.0 ∙ e))
knows_on (Some s) c d was now e h = tt

-- a new account, and one that is lost

pub fits_new : FitsFrames (new_account room_name)
fits_new = record { room = refl; knows = (refl, refl); closed = tt; begun = none_fits }

cut_fits : (x : Account) (after : Stage) → is_on after ≡ false → FitsFrames x
    → FitsFrames (record (calls.lost x) { stage = after })
cut_fits x after e h = record {
  room = h.room;
  knows = knows_off x.session x.confirmed x.stage after e h.knows;
  closed = h.closed;
  begun = h.begun;
}

pub fits_lost : (x : Account) → FitsFrames x → FitsFrames (calls.lost x)
fits_lost x h = cut_fits x Idle refl h

pub fits_dialled : (x : Account) → FitsFrames x → FitsFrames (calls.dialled x)
fits_dialled x h = cut_fits x Dialled refl h

-- batches

begin_at : (x y : Account) (o : Option OpenBatch) → FitsFrames x → calls.begin_at x o ≡ Ok y → FitsFrames y
begin_at x y (Some o) h p = cc
begin_at x y None h p =
    subst FitsFrames (ok_is _ y p) (record { room = h.room; knows = h.knows; closed = h.closed; begun = none_fits })

pub fits_begin : (x y : Account) → FitsFrames x → calls.batch_begin x ≡ Ok y → FitsFrames y
fits_begin x y h p = begin_at x y x.batch h p

-- what was issued at the end, with no open batch left
issued_fits : (x : Account) (bs : List Body) (o : Option OpenBatch) (node : ℕ) (me : List (List ℕ × Value))
    (unsent : List (List ℕ)) (history : History) → FitsFrames x → OpsFit (actor x) (last_issued x + 1) bs
    → bodies_in o ≡ []
    → FitsFrames (record x {
      fresh = x.fresh ++ calls.issues_of x bs;
      batch = o;
      node = node;
      me = me;
      unsent = unsent;
      history = history;
    })
issued_fits x bs o node me unsent history h k e = record {
  room = h.room;
  knows = h.knows;
  closed = issues_sized x bs h.closed k;
  begun = none_begun (actor x) (ends x.told (x.sent ++ (x.fresh ++ calls.issues_of x bs)) + 1) o e;
}

end_at : (x : Account) (o : Option OpenBatch) (out : calls.Done) → x.batch ≡ o → FitsFrames x
    → calls.end_at x o ≡ Ok out → FitsFrames out.account
end_at x None out e h p = cc
end_at x (Some o) out e h p =
    let k : OpsFit (actor x) (last_issued x + 1) o.bodies =
    subst (λ (q : Option OpenBatch). OpsFit (actor x) (last_issued x + 1) (bodies_in q)) e h.begun in
    subst (λ (d : calls.Done). FitsFrames d.account) (ok_is (calls.closed x o) out p)
    (issued_fits x o.bodies None x.node x.me x.unsent (calls.closed x o).account.history h k refl)

pub fits_end : (x : Account) (out : calls.Done) → FitsFrames x → calls.batch_end x ≡ Ok out → FitsFrames out.account
fits_end x out h p = end_at x x.batch out refl h p

-- edits

edited_fits : (x : Account) (t : Nodes) (m : Made) (bs : List Body) (o : Option OpenBatch) → x.batch ≡ o → FitsFrames x
    → OpsFit (actor x) (last_issued x + 1) (bodies_in o ++ bs) → FitsFrames (calls.edited_in x t m bs o)
edited_fits x t m bs (Some o) e h k = record { room = h.room; knows = h.knows; closed = h.closed; begun = k }
edited_fits x t m [] None e h k = h
edited_fits x t m (b ∷ bs) None e h k =
    issued_fits x (b ∷ bs) x.batch m.next.node x.me x.unsent (calls.edited_in x t m (b ∷ bs) None).history h k
    (ap bodies_in e)

-- the operations of an edit go on from those of the open batch
made_ops : (t : Nodes) (c : Clocks) (e : Edit) (m : Made) → make t c e ≡ Ok m
    → m.ops ≡ ops_from c.actor c.op (bodies_of m.ops)
made_ops t c e m h = of (makes t c e m h)
  where
    at : (n : ℕ) (bs : List Body) → m ≡ made c n bs → m.ops ≡ ops_from c.actor c.op (bodies_of m.ops)
    at n bs i =
        ap (λ (d : Made). d.ops) i
        ∙ ap (ops_from c.actor c.op) (sym (bodies_again c.actor c.op bs) ∙ ap (λ (d : Made). bodies_of d.ops) (sym i))

    of : Makes t c e m → m.ops ≡ ops_from c.actor c.op (bodies_of m.ops)
    of k = at _ _ k.is

sized_at : (x : Account) (t : Nodes) (m : Made) (out : calls.Done) (f : EditFault) (b : Bool)
    → nat_lt most_bytes (size_of (frame_of_ops (open_ops x ++ m.ops))) ≡ b
    → m.ops ≡ ops_from (actor x) (last_issued x + 1 + length (bodies_in x.batch)) (bodies_of m.ops) → FitsFrames x
    → cond b (Err f) (Ok (calls.edited x t m)) ≡ Ok out → FitsFrames out.account
sized_at x t m out f true e i h p = cc
sized_at x t m out f false e i h p =
    let joined : open_ops x ++ m.ops ≡ ops_from (actor x) (last_issued x + 1) (bodies_in x.batch ++ bodies_of m.ops) =
    ap (λ (os : List Op). open_ops x ++ os) i
    ∙ ops_join (actor x) (last_issued x + 1) (bodies_in x.batch) (bodies_of m.ops) in
    let short : OpsFit (actor x) (last_issued x + 1) (bodies_in x.batch ++ bodies_of m.ops) =
    subst (λ (os : List Op). size_of (frame_of_ops os) ≤ most_bytes) joined
    (fits_by (size_of (frame_of_ops (open_ops x ++ m.ops))) e) in
    subst (λ (d : calls.Done). FitsFrames d.account) (ok_is (calls.edited x t m) out p)
    (edited_fits x t m (bodies_of m.ops) x.batch refl h short)

made_at : (x : Account) (t : Nodes) (e : Edit) (r : Result Made EditFault) (out : calls.Done) → make t (clocks x) e ≡ r
    → FitsFrames x → calls.edit_made x t r ≡ Ok out → FitsFrames out.account
made_at x t e (Err fault) out i h p = cc
made_at x t e (Ok m) out i h p =
    sized_at x t m out (BatchTooLarge (size_of (frame_of_ops (open_ops x ++ m.ops))))
    (nat_lt most_bytes (size_of (frame_of_ops (open_ops x ++ m.ops)))) refl
    (made_ops t (clocks x) e m i) h p

edit_on : (x : Account) (e : Edit) (o : Option Nodes) (out : calls.Done) → FitsFrames x → calls.edit_on x e o ≡ Ok out
    → FitsFrames out.account
edit_on x e None out h p = cc
edit_on x e (Some t) out h p = made_at x t e (make t (clocks x) e) out refl h p

pub fits_edit : (x : Account) (e : Edit) (out : calls.Done) → FitsFrames x → calls.edit x e ≡ Ok out
    → FitsFrames out.account
fits_edit x e out h p = edit_on x e (shown x) out h p

-- undo and redo

abbrev is_over : ℕ → ℕ → List Body → Bool
is_over a f bs = is_some_list bs && nat_lt most_bytes (size_of (frame_of_ops (ops_from a f bs)))

back_short : (a f : ℕ) (bs : List Body) → is_over a f bs ≡ false → OpsFit a f bs
back_short a f [] e = none_fits
back_short a f (b ∷ bs) e = fits_by (size_of (frame_of_ops (ops_from a f (b ∷ bs)))) e

went_by : (way : calls.Direction) (x : Account) (entry : List Change) (out : calls.Done) (b c : Bool)
    (f g : calls.UndoFault)
    → is_over (actor x) (last_issued x + 1) (calls.entry_bodies entry) ≡ b → x.batch ≡ None → FitsFrames x
    → cond b (Err f) (cond c (Err g) (Ok (Some (calls.went_back way x entry)))) ≡ Ok (Some out) → FitsFrames out.account
went_by way x entry out true c f g q e h p = cc
went_by way x entry out false true f g q e h p = cc
went_by way x entry out false false f g q e h p =
    let done = calls.went_back way x entry in
    subst (λ (d : calls.Done). FitsFrames d.account) (some_is done out (ok_is _ _ p))
    (issued_fits x (calls.entry_bodies entry) x.batch x.node done.account.me done.account.unsent done.account.history h
    (back_short (actor x) (last_issued x + 1) (calls.entry_bodies entry) q) (ap bodies_in e))

clocked_at : (way : calls.Direction) (x : Account) (entry : List Change) (out : calls.Done) (o : Option ℕ)
    → x.batch ≡ None → FitsFrames x → calls.back_clocked way x entry (calls.entry_bodies entry) o ≡ Ok (Some out)
    → FitsFrames out.account
clocked_at way x entry out (Some l) e h p = cc
clocked_at way x entry out None e h p =
    let size = size_of (frame_of_ops (ops_from (actor x) (last_issued x + 1) (calls.entry_bodies entry))) in
    went_by way x entry out (is_over (actor x) (last_issued x + 1) (calls.entry_bodies entry))
    (nat_lt most_bytes (calls.presence_size (calls.entry_presence x.me entry))) (calls.UndoBatchTooLarge size)
    (calls.UndoTooLarge (calls.presence_size (calls.entry_presence x.me entry))) refl e h p

entry_at : (way : calls.Direction) (x : Account) (out : calls.Done) (o : Option (List Change)) → x.batch ≡ None
    → FitsFrames x → calls.back_entry way x o ≡ Ok (Some out) → FitsFrames out.account
entry_at way x out None e h p = absurd (none_some out (ok_is _ _ p))
entry_at way x out (Some entry) e h p =
    clocked_at way x entry out (spent (last_issued x + 1) (length (calls.entry_bodies entry))) e h p

back_at : (way : calls.Direction) (x : Account) (out : calls.Done) (o : Option OpenBatch) → x.batch ≡ o → FitsFrames x
    → calls.back_at way x o ≡ Ok (Some out) → FitsFrames out.account
back_at way x out (Some o) e h p = cc
back_at way x out None e h p = entry_at way x out (calls.entry_of way x.history) e h p

pub fits_back : (way : calls.Direction) (x : Account) (out : calls.Done) → FitsFrames x
    → calls.go_back way x ≡ Ok (Some out) → FitsFrames out.account
fits_back way x out h p = back_at way x out x.batch refl h p

-- history, presence and events

pub fits_history : (x : Account) (k : History) → FitsFrames x → FitsFrames (record x { history = k })
fits_history x k h = record { room = h.room; knows = h.knows; closed = h.closed; begun = h.begun }

patched_bodies : (back : List Change) (patch : List (List ℕ × Value)) (o : Option OpenBatch)
    → bodies_in o ≡ bodies_in (calls.open_patched back patch o)
patched_bodies back patch None = refl
patched_bodies back patch (Some o) = refl

patched_fits : (x : Account) (patch : List (List ℕ × Value)) (back : List Change) → FitsFrames x
    → FitsFrames (calls.patched_me x patch back)
patched_fits x patch back h = record {
  room = h.room;
  knows = h.knows;
  closed = h.closed;
  begun = subst (OpsFit (actor x) (last_issued x + 1)) (patched_bodies back patch x.batch) h.begun;
}

under_both : {A E : Type 0} (b c : Bool) (f g : E) (x y : A) → cond b (Err f) (cond c (Err g) (Ok x)) ≡ Ok y → x ≡ y
under_both true c f g x y p = cc
under_both false c f g x y p = under c g x y p

pub fits_presence : (x y : Account) (patch : List (List ℕ × Value)) (in_history : Bool) → FitsFrames x
    → calls.presence x patch in_history ≡ Ok y → FitsFrames y
fits_presence x y patch in_history h p =
    let z = calls.patched_me x patch (calls.back_noted x patch in_history) in
    subst FitsFrames
    (under_both (nat_lt 50 (fields_most patch)) (nat_lt most_bytes (calls.presence_size (merged x.me patch)))
    (calls.ValueTooDeep (fields_most patch)) (calls.TooLarge (calls.presence_size (merged x.me patch))) z y p)
    (patched_fits x patch (calls.back_noted x patch in_history) h)

event_fits : (x : Account) (es : List Json) → FitsFrames x → FitsFrames (record x { events = es })
event_fits x es h = record { room = h.room; knows = h.knows; closed = h.closed; begun = h.begun }

under_all : {A E : Type 0} (a b c : Bool) (d f g : E) (x y : A)
    → cond a (Err d) (cond b (Err f) (cond c (Err g) (Ok x))) ≡ Ok y → x ≡ y
under_all true b c d f g x y p = cc
under_all false b c d f g x y p = under_both b c f g x y p

pub fits_event : (x y : Account) (e : Json) → FitsFrames x → calls.event x e ≡ Ok y → FitsFrames y
fits_event x y e h p =
    subst FitsFrames
    (under_all (not (is_on x.stage)) (nat_lt 50 (depth (json_of e))) (nat_lt most_bytes (size_of (frame_of_event e)))
    calls.NotConnected (calls.ValueTooDeep (depth (json_of e))) (calls.TooLarge (size_of (frame_of_event e)))
    (record x { events = x.events ++ e ∷ [] }) y p)
    (event_fits x (x.events ++ e ∷ []) h)

-- sending: what is sent and what isn't are the issued batches still

sent_as : (x : Account) (sent fresh : List Batch) (unsent : List (List ℕ)) (events : List Json)
    → sent ++ fresh ≡ issued x → FitsFrames x
    → FitsFrames (record x { sent = sent; fresh = fresh; unsent = unsent; events = events })
sent_as x sent fresh unsent events e h = record {
  room = h.room;
  knows = h.knows;
  closed = subst (AreSized (actor x)) (sym e) h.closed;
  begun = subst (λ (bs : List Batch). OpsFit (actor x) (ends x.told bs + 1) (bodies_in x.batch)) (sym e) h.begun;
}

turned_by : (x : Account) (synced : Bool) → FitsFrames x
    → FitsFrames (record x {
      unsent = kept_names x.unsent (calls.held x);
      events = [];
      sent = cond synced (issued x) x.sent;
      fresh = cond synced [] x.fresh;
    })
turned_by x true h = sent_as x (issued x) [] (kept_names x.unsent (calls.held x)) [] (append-nil (issued x)) h
turned_by x false h = sent_as x x.sent x.fresh (kept_names x.unsent (calls.held x)) [] refl h

either : (x y : Account) (b : Bool) → FitsFrames x → FitsFrames y → FitsFrames (cond b x y)
either x y true h k = h
either x y false h k = k

pub fits_flushed : (x : Account) → FitsFrames x → FitsFrames (calls.flushed x)
fits_flushed x h = either x _ (not (is_on x.stage)) h (turned_by x (is_synced x.stage) h)

pub fits_resent : (x : Account) → FitsFrames x → FitsFrames (calls.resent x)
fits_resent x h =
    either (record x { sent = issued x; fresh = [] }) x (is_synced x.stage)
    (sent_as x (issued x) [] x.unsent x.events (append-nil (issued x)) h) h
