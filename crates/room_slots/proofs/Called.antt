-- What a call does to one client, and so to the clients of a world.
use Rattle.std.proofs.Common.{◌≡◌, ℕ, List, [], ◌∷◌, Option, Some, None, Result, Ok, Err, refl, sym, ap, ◌∙◌, subst}
use Rattle.std.proofs.Common.{nat_cmp, cond}
use Rattle.std.specs.BTreeMap.{is_at}
use Rattle.std.specs.FinMap.{get, insert}
use Rattle.std.specs.Result.{IfOk}
use Rattle.std.proofs.lemmas.Result.{IfOk-at_ok}
use Rattle.room_model.specs.Account.{Account}
use Rattle.room_model.specs.Notices.{Notice}
use Rattle.room_model.specs.Edits as edits
use Rattle.room_model.specs.Calls as calls
use Rattle.room_model.specs.Calls.{Done}
use Rattle.room_model.specs.Lines.{Call, refused_line, nothing_line, edit_fault_words, batch_fault_words}
use Rattle.room_model.specs.Lines.{undo_fault_words, say_fault_words}
use Rattle.room_model.specs.World.{Slot, Stepped, World, slot, slot_in, new_slot, with_slot, with_account, refuses}
use Rattle.room_model.specs.World.{edit_out, begin_out, end_out, back_out, say_out, client_calls}
use Rattle.room_props.specs.Edits.{IsFaultOf}
use Rattle.room_props.specs.declared.editing.EditFault.{EditFault}
use Rattle.room_props.specs.declared.editing.EditFault.TheVariants as edit
use Rattle.room_editor.specs.Editor.{Outcome, WentBack, done, done_if}
use Rattle.room_editor.specs.Faults.{IsBatchFault, IsSayFault, IsUndoFault}
use Rattle.room_editor.specs.declared.faults.BatchFault.{BatchFault}
use Rattle.room_editor.specs.declared.faults.BatchFault.TheVariants as batch
use Rattle.room_editor.specs.declared.faults.UndoFault.{UndoFault}
use Rattle.room_editor.specs.declared.faults.UndoFault.TheVariants as undo
use Rattle.room_editor.specs.declared.faults.SayFault.{SayFault}
use Rattle.room_editor.specs.declared.faults.SayFault.TheVariants as say
use Rattle.room_slots.specs.Refusals.{TellsBatch, TellsEdit, TellsSaying, TellsUndo}
use Rattle.room_slots.specs.Slots.{Acts, Calls, Clients, as_map, kept, line_in}
use Rattle.room_queues.proofs.Maps.{at, looked, put_view}
use Rattle.room_slots.proofs.Maps.{insert_there}

-- a refused call

abbrev Tells : Stepped → World → List ℕ → Type 0
Tells s w t = (s.lines ≡ t ∷ []) × (s.world ≡ w)

told : {A F : Type 0} (out : Result A F → Stepped) (w : World) (line : ℕ) (ws : List (List ℕ)) (r : Result A F) (f : F)
    (t : List ℕ) → out (Err f) ≡ refuses w line ws → r ≡ Err f → t ≡ refused_line line ws → Tells (out r) w t
told out w line ws r f t so h is = (
  ap (λ q. (out q).lines) h ∙ ap (λ (s : Stepped). s.lines) so ∙ ap (λ u. u ∷ []) (sym is),
  ap (λ q. (out q).world) h ∙ ap (λ (s : Stepped). s.world) so,
)

pub edit_refused : (line : ℕ) (p : Slot) (r : Result Done edits.EditFault) (f : EditFault) (t : List ℕ) → IsFaultOf r f
    → TellsEdit line f t → (w : World) (c : ℕ) → Tells (edit_out w line c p r) w t
edit_refused line p r edit.Memory t h is w c = absurd is
edit_refused line p r edit.NotLoaded t h is w c =
    told (edit_out w line c p) w line (edit_fault_words edits.NotLoaded) r _ t refl h is
edit_refused line p r (edit.NoNode x) t h is w c =
    told (edit_out w line c p) w line (edit_fault_words (edits.NoNode x)) r _ t refl h is
edit_refused line p r (edit.WrongKind x) t h is w c =
    told (edit_out w line c p) w line (edit_fault_words (edits.WrongKind x)) r _ t refl h is
edit_refused line p r (edit.BadIndex i n) t h is w c =
    told (edit_out w line c p) w line (edit_fault_words (edits.BadIndex i n)) r _ t refl h is
edit_refused line p r (edit.ValueTooDeep d) t h is w c =
    told (edit_out w line c p) w line (edit_fault_words (edits.ValueTooDeep d)) r _ t refl h is
edit_refused line p r (edit.NodeTooDeep d) t h is w c =
    told (edit_out w line c p) w line (edit_fault_words (edits.NodeTooDeep d)) r _ t refl h is
edit_refused line p r (edit.PosTooLong n) t h is w c =
    told (edit_out w line c p) w line (edit_fault_words (edits.PosTooLong n)) r _ t refl h is
edit_refused line p r (edit.ClocksSpent k) t h is w c =
    told (edit_out w line c p) w line (edit_fault_words (edits.ClocksSpent k)) r _ t refl h is
edit_refused line p r (edit.BatchTooLarge b) t h is w c =
    told (edit_out w line c p) w line (edit_fault_words (edits.BatchTooLarge b)) r _ t refl h is

pub begin_refused : (line : ℕ) (p : Slot) (r : Result Account calls.BatchFault) (f : BatchFault) (t : List ℕ)
    → IsBatchFault r f → TellsBatch line f t → (w : World) (c : ℕ) → Tells (begin_out w line c p r) w t
begin_refused line p r batch.Memory t h is w c = absurd is
begin_refused line p r batch.InBatch t h is w c =
    told (begin_out w line c p) w line (batch_fault_words calls.InBatch) r _ t refl h is
begin_refused line p r batch.NoBatch t h is w c =
    told (begin_out w line c p) w line (batch_fault_words calls.NoBatch) r _ t refl h is

pub end_refused : (line : ℕ) (p : Slot) (r : Result Done calls.BatchFault) (f : BatchFault) (t : List ℕ)
    → IsBatchFault r f → TellsBatch line f t → (w : World) (c : ℕ) → Tells (end_out w line c p r) w t
end_refused line p r batch.Memory t h is w c = absurd is
end_refused line p r batch.InBatch t h is w c =
    told (end_out w line c p) w line (batch_fault_words calls.InBatch) r _ t refl h is
end_refused line p r batch.NoBatch t h is w c =
    told (end_out w line c p) w line (batch_fault_words calls.NoBatch) r _ t refl h is

pub back_refused : (line : ℕ) (p : Slot) (r : Result (Option Done) calls.UndoFault) (f : UndoFault) (t : List ℕ)
    → IsUndoFault r f → TellsUndo line f t → (w : World) (c : ℕ) → Tells (back_out w line c p r) w t
back_refused line p r undo.Memory t h is w c = absurd is
back_refused line p r undo.InBatch t h is w c =
    told (back_out w line c p) w line (undo_fault_words calls.UndoInBatch) r _ t refl h is
back_refused line p r (undo.ClocksSpent k) t h is w c =
    told (back_out w line c p) w line (undo_fault_words (calls.UndoClocksSpent k)) r _ t refl h is
back_refused line p r (undo.BatchTooLarge b) t h is w c =
    told (back_out w line c p) w line (undo_fault_words (calls.UndoBatchTooLarge b)) r _ t refl h is
back_refused line p r (undo.TooLarge b) t h is w c =
    told (back_out w line c p) w line (undo_fault_words (calls.UndoTooLarge b)) r _ t refl h is

pub say_refused : (line : ℕ) (p : Slot) (r : Result Account calls.SayFault) (f : SayFault) (t : List ℕ)
    → IsSayFault r f → TellsSaying line f t → (w : World) (c : ℕ) → Tells (say_out w line c p r) w t
say_refused line p r say.Memory t h is w c = absurd is
say_refused line p r say.NotConnected t h is w c =
    told (say_out w line c p) w line (say_fault_words calls.NotConnected) r _ t refl h is
say_refused line p r (say.ValueTooDeep d) t h is w c =
    told (say_out w line c p) w line (say_fault_words (calls.ValueTooDeep d)) r _ t refl h is
say_refused line p r (say.TooLarge b) t h is w c =
    told (say_out w line c p) w line (say_fault_words (calls.TooLarge b)) r _ t refl h is

-- a call that is Ok

abbrev Changes : Stepped → World → ℕ → Slot → Type 0
Changes s w c q = (s.lines ≡ []) × (s.world ≡ with_slot w c q)

abbrev noticing : Slot → Account → List Notice → Slot
noticing p x ns = record { account = x; present = p.present; noticed = ns }

ok_is : {A F : Type 0} {x y : A} → ◌≡◌ {A = Result A F} (Ok x) (Ok y) → x ≡ y
ok_is e = cc

some_is : {A : Type 0} {x y : A} → Some x ≡ Some y → x ≡ y
some_is e = cc

abbrev outcome : Account → List Notice → Outcome
outcome x ns = record { account = x; notices = ns }

put_outcome : (w : World) (c : ℕ) (p : Slot) (a b : Outcome) → a ≡ b
    → with_slot w c (noticing p a.account a.notices) ≡ with_slot w c (noticing p b.account b.notices)
put_outcome w c p a b e = ap (λ (o : Outcome). with_slot w c (noticing p o.account o.notices)) e

put_account : (w : World) (c : ℕ) (p : Slot) (a b : Outcome) → a ≡ b
    → with_slot w c (with_account p a.account) ≡ with_slot w c (with_account p b.account)
put_account w c p a b e = ap (λ (o : Outcome). with_slot w c (with_account p o.account)) e

pub edit_changes : (line : ℕ) (p : Slot) (r : Result Done edits.EditFault) (x : Account) (ns : List Notice)
    → done r ≡ Ok (outcome x ns) → (w : World) (c : ℕ) → Changes (edit_out w line c p r) w c (noticing p x ns)
edit_changes line p (Err f) x ns h w c = (cc, cc)
edit_changes line p (Ok d) x ns h w c =
    (refl, put_outcome w c p (outcome d.account d.notices) (outcome x ns) (ok_is h))

pub begin_changes : (line : ℕ) (p : Slot) (r : Result Account calls.BatchFault) (x : Account)
    → r ≡ Ok x → (w : World) (c : ℕ) → Changes (begin_out w line c p r) w c (with_account p x)
begin_changes line p r x h w c =
    (ap (λ q. (begin_out w line c p q).lines) h, ap (λ q. (begin_out w line c p q).world) h)

pub end_changes : (line : ℕ) (p : Slot) (r : Result Done calls.BatchFault) (x : Account)
    → done r ≡ Ok (outcome x []) → (w : World) (c : ℕ) → Changes (end_out w line c p r) w c (with_account p x)
end_changes line p (Err f) x h w c = (cc, cc)
end_changes line p (Ok d) x h w c =
    (refl, put_account w c p (outcome d.account d.notices) (outcome x []) (ok_is h))

pub back_changes : (line : ℕ) (p : Slot) (r : Result (Option Done) calls.UndoFault) (y : Account) (ns : List Notice)
    → done_if r ≡ Ok (Some (outcome y ns)) → (w : World) (c : ℕ)
    → Changes (back_out w line c p r) w c (noticing p y ns)
back_changes line p (Err f) y ns h w c = (cc, cc)
back_changes line p (Ok None) y ns h w c = (cc, cc)
back_changes line p (Ok (Some d)) y ns h w c =
    (refl, put_outcome w c p (outcome d.account d.notices) (outcome y ns) (some_is (ok_is h)))

-- an undo or a redo that finds nothing
pub back_nothing : (line : ℕ) (p : Slot) (r : Result (Option Done) calls.UndoFault) (t : List ℕ)
    → done_if r ≡ Ok None → t ≡ nothing_line line → (w : World) (c : ℕ) → Tells (back_out w line c p r) w t
back_nothing line p (Err f) t h is w c = (cc, cc)
back_nothing line p (Ok None) t h is w c = (ap (λ u. u ∷ []) (sym is), refl)
back_nothing line p (Ok (Some d)) t h is w c = (cc, cc)

pub say_changes : (line : ℕ) (p : Slot) (r : Result Account calls.SayFault) (x : Account)
    → r ≡ Ok x → (w : World) (c : ℕ) → Changes (say_out w line c p r) w c (with_account p x)
say_changes line p r x h w c =
    (ap (λ q. (say_out w line c p q).lines) h, ap (λ q. (say_out w line c p q).world) h)

-- the clients of a world

slot_at : (w : World) (c : ℕ) (p : Slot) → get w.clients c ≡ Some p → slot w c ≡ p
slot_at w c p h = ap slot_in h

slot_none : (w : World) (c : ℕ) → get w.clients c ≡ None → slot w c ≡ new_slot
slot_none w c h = ap slot_in h

same_clients : (w : World) (new : Clients) → new ≡ w.clients → w ≡ record w { clients = new }
same_clients w new e = ap (λ ps. record w { clients = ps }) (sym e)

abbrev Becomes : World → (line c : ℕ) → Call → Clients → List (List ℕ) → Slot → Type 0
Becomes w line c call new ls p =
    ((client_calls w line c p call).lines ≡ ls) × ((client_calls w line c p call).world ≡ record w { clients = new })

-- on a client that is there
pub acted_there : (old new : Clients) (line c : ℕ) (call : Call) (p q : Slot) (t : Option (List ℕ))
    → get old c ≡ Some p → new ≡ insert old c q → Acts p q line call t → Calls old new line c call (line_in t)
acted_there old new line c call p q None there put acts w is =
    let here : slot w c ≡ p = slot_at w c p (ap (λ ps. get ps c) is ∙ there) in
    let put_in : insert w.clients c q ≡ new = ap (λ ps. insert ps c q) is ∙ sym put in
    let a = acts w c in
    subst (Becomes w line c call new []) (sym here) (a.0, a.1 ∙ ap (λ ps. record w { clients = ps }) put_in)
acted_there old new line c call p q (Some t) there put acts w is =
    let here : slot w c ≡ p = slot_at w c p (ap (λ ps. get ps c) is ∙ there) in
    let a = acts.1 w c in
    let same : new ≡ w.clients = put ∙ ap (insert old c) acts.0 ∙ insert_there old c p there ∙ sym is in
    subst (Becomes w line c call new (t ∷ [])) (sym here) (a.0, a.1 ∙ same_clients w new same)

-- with the entries beside the maps that they make
pub acted_in : (es fs : List (ℕ × Slot)) (old : Clients) (line c : ℕ) (call : Call) (p q : Slot) (t : Option (List ℕ))
    → as_map es ≡ old → at es c ≡ Some p → ((k : ℕ) → at fs k ≡ cond (is_at (nat_cmp c) k) (Some q) (at es k))
    → Acts p q line call t → Calls old (as_map fs) line c call (line_in t)
acted_in es fs old line c call p q t view there put acts =
    acted_there old (as_map fs) line c call p q t (ap (λ ps. get ps c) (sym view) ∙ looked es c ∙ there)
    (put_view c q es fs put ∙ ap (λ ps. insert ps c q) view) acts

-- on one that was not heard of
pub acted_new : (old new : Clients) (line c : ℕ) (call : Call) (p q : Slot) (t : Option (List ℕ))
    → get old c ≡ None → p ≡ new_slot → new ≡ kept old c q t → Acts p q line call t
    → Calls old new line c call (line_in t)
acted_new old new line c call p q None none fresh put acts w is =
    let here : slot w c ≡ p = slot_none w c (ap (λ ps. get ps c) is ∙ none) ∙ sym fresh in
    let put_in : insert w.clients c q ≡ new = ap (λ ps. insert ps c q) is ∙ sym put in
    let a = acts w c in
    subst (Becomes w line c call new []) (sym here) (a.0, a.1 ∙ ap (λ ps. record w { clients = ps }) put_in)
acted_new old new line c call p q (Some t) none fresh put acts w is =
    let here : slot w c ≡ p = slot_none w c (ap (λ ps. get ps c) is ∙ none) ∙ sym fresh in
    let a = acts.1 w c in
    subst (Becomes w line c call new (t ∷ [])) (sym here) (a.0, a.1 ∙ same_clients w new (put ∙ sym is))

pub acted_fresh : {E F : Type 0} (es : List (ℕ × Slot)) (old new : Clients) (line c : ℕ) (call : Call) (p q : Slot)
    (said : Result (Option (List ℕ)) E) (r : Result (Option (List ℕ)) F) → as_map es ≡ old → at es c ≡ None
    → p ≡ new_slot → IfOk said (Acts p q line call) → IfOk r (λ t. said ≡ Ok t)
    → IfOk r (λ t. new ≡ kept old c q t) → IfOk r (λ t. Calls old new line c call (line_in t))
acted_fresh es old new line c call p q said (Err e) view none fresh acts is put = tt
acted_fresh es old new line c call p q said (Ok t) view none fresh acts is put =
    acted_new old new line c call p q t (ap (λ ps. get ps c) (sym view) ∙ looked es c ∙ none) fresh put
    (IfOk-at_ok (Acts p q line call) is acts)

-- a call that always changes a client
pub put_there : (f : Slot → Slot) (es fs : List (ℕ × Slot)) (old : Clients) (c : ℕ) (p q : Slot) → as_map es ≡ old
    → at es c ≡ Some p → ((k : ℕ) → at fs k ≡ cond (is_at (nat_cmp c) k) (Some q) (at es k)) → q ≡ f p
    → as_map fs ≡ insert old c (f (slot_in (get old c)))
put_there f es fs old c p q view there put is =
    let found : slot_in (get old c) ≡ p = ap slot_in (ap (λ ps. get ps c) (sym view) ∙ looked es c ∙ there) in
    put_view c q es fs put ∙ ap (λ ps. insert ps c q) view ∙ ap (insert old c) (is ∙ ap f (sym found))
