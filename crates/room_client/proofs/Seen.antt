-- What a user's call of the editor makes of the client, seen as `now`.
use Rattle.std.proofs.Common.{◌≡◌, ℕ, Bool, List, [], Option, Result, Ok, Err, IfOk, IfErr, OnOk}
use Rattle.std.proofs.Common.{OnErr}
use Rattle.std.proofs.Common.{sym, subst}
use Rattle.std.specs.Option.{option_map}
use Rattle.room_json.specs.Value.{Value}
use Rattle.room_json.specs.declared.tree.Json.{Json}
use Rattle.room_notice.specs.declared.shapes.Notice.{Notice}
use Rattle.room_notice.specs.Notices.{notices_in}
use Rattle.room_props.specs.Edits.{IsFaultOf}
use Rattle.room_props.specs.declared.editing.EditFault.{EditFault}
use Rattle.room_props.specs.declared.editing.EditFault.TheVariants as edits
use Rattle.room_model.specs.Account.{Account, Part, Stage, issued}
use Rattle.room_model.specs.Calls.{Direction, Done, batch_begin, batch_end, edit, go_back, presence}
use Rattle.room_model.specs.Calls as model
use Rattle.room_model.specs.Edits.{Edit}
use Rattle.room_model.specs.Notices.{Notice as ModelNotice}
use Rattle.room_model.specs.Edits as model_edits
use Rattle.room_model.specs.Sound.{RunsOn}
use Rattle.room_editor.specs.Editor.{WentBack, at_rest, done}
use Rattle.room_editor.specs.Faults.{IsBatchFault, IsSayFault, IsUndoFault}
use Rattle.room_editor.specs.declared.faults.BatchFault.{BatchFault}
use Rattle.room_editor.specs.declared.faults.BatchFault.TheVariants as batch
use Rattle.room_editor.specs.declared.faults.UndoFault.{UndoFault}
use Rattle.room_editor.specs.declared.faults.UndoFault.TheVariants as undo
use Rattle.room_editor.specs.declared.faults.SayFault.{SayFault}
use Rattle.room_editor.specs.declared.faults.SayFault.TheVariants as say
use Rattle.room_client.specs.Client.{Stands, client_of}
use Rattle.room_client.proofs.Calling.{OptionsLike, ResultsLike, back_like, begun, carried, edit_like, end_like}
use Rattle.room_client.proofs.Calling.{refused_begin, refused_both, refused_like, rests, said, unsaid, went_carried}

-- faults go over where refusals do

edit_fault : {A B : Type 0} (r : Result A model_edits.EditFault) (s : Result B model_edits.EditFault)
    → ((m : model_edits.EditFault) → s ≡ Err m → r ≡ Err m) → (f : EditFault) → IsFaultOf s f → IsFaultOf r f
edit_fault r s t edits.Memory h = tt
edit_fault r s t edits.NotLoaded h = t _ h
edit_fault r s t (edits.NoNode x) h = t _ h
edit_fault r s t (edits.WrongKind x) h = t _ h
edit_fault r s t (edits.BadIndex n len) h = t _ h
edit_fault r s t (edits.ValueTooDeep n) h = t _ h
edit_fault r s t (edits.NodeTooDeep n) h = t _ h
edit_fault r s t (edits.PosTooLong n) h = t _ h
edit_fault r s t (edits.ClocksSpent n) h = t _ h
edit_fault r s t (edits.BatchTooLarge n) h = t _ h

batch_fault : {A B : Type 0} (r : Result A model.BatchFault) (s : Result B model.BatchFault)
    → ((m : model.BatchFault) → s ≡ Err m → r ≡ Err m) → (f : BatchFault) → IsBatchFault s f → IsBatchFault r f
batch_fault r s t batch.Memory h = tt
batch_fault r s t batch.InBatch h = t _ h
batch_fault r s t batch.NoBatch h = t _ h

undo_fault : {A B : Type 0} (r : Result A model.UndoFault) (s : Result B model.UndoFault)
    → ((m : model.UndoFault) → s ≡ Err m → r ≡ Err m) → (f : UndoFault) → IsUndoFault s f → IsUndoFault r f
undo_fault r s t undo.Memory h = tt
undo_fault r s t undo.InBatch h = t _ h
undo_fault r s t (undo.ClocksSpent n) h = t _ h
undo_fault r s t (undo.BatchTooLarge n) h = t _ h
undo_fault r s t (undo.TooLarge n) h = t _ h

say_fault : {A B : Type 0} (r : Result A model.SayFault) (s : Result B model.SayFault)
    → ((m : model.SayFault) → s ≡ Err m → r ≡ Err m) → (f : SayFault) → IsSayFault s f → IsSayFault r f
say_fault r s t say.Memory h = tt
say_fault r s t say.NotConnected h = t _ h
say_fault r s t (say.ValueTooDeep n) h = t _ h
say_fault r s t (say.TooLarge n) h = t _ h

err_weaker : {A F : Type 0} (q : Result A F) (P Q : F → Type 0) → ((f : F) → P f → Q f) → IfErr q P → IfErr q Q
err_weaker (Ok a) P Q t h = tt
err_weaker (Err f) P Q t h = t f h

module _ (e : Account) (stage : Stage) (c : ℕ) (parts : List Part) (events : List Json) (now : Account)
    (v : client_of e stage c parts events ≡ now) where
  abbrev client : Account → Account
  client y = client_of y stage c parts events

  -- edits, and the end of a batch

  done_seen : {A F G : Type 0} (ns : A → List ModelNotice) (y : Account) (r s : Result Done F) (q : Result A G)
      → ResultsLike (client e) r s → RunsOn y.told (issued y) → Stands e stage c
      → IfOk q (λ a. done s ≡ Ok (record { account = y; notices = ns a })) → OnErr q (y ≡ e)
      → IfOk q (λ a. done r ≡ Ok (record { account = client y; notices = ns a })) × Stands y stage c
  done_seen ns y r s (Ok a) l run st h k = carried e stage c parts events y (ns a) run st r s l h
  done_seen ns y r s (Err f) l run st h k = (tt, subst (λ z. Stands z stage c) (sym k) st)

  module _ (rest : at_rest e ≡ e) where
    edits_alike : (d : Edit) → ResultsLike (client e) (edit (client e) d) (edit e d)
    edits_alike d =
        subst (λ z. ResultsLike (client e) (edit (client e) d) (edit z d)) (rests e stage c parts events rest)
        (edit_like (client e) d)

    ends_alike : ResultsLike (client e) (batch_end (client e)) (batch_end e)
    ends_alike =
        subst (λ z. ResultsLike (client e) (batch_end (client e)) (batch_end z)) (rests e stage c parts events rest)
        (end_like (client e) e.batch)

    back_alike : (way : Direction) → OptionsLike (client e) (go_back way (client e)) (go_back way e)
    back_alike way =
        subst (λ z. OptionsLike (client e) (go_back way (client e)) (go_back way z)) (rests e stage c parts events rest)
        (back_like way (client e) e.batch)

    pub edited : (y : Account) (d : Edit) (q : Result (List Notice) EditFault) → RunsOn y.told (issued y)
        → Stands e stage c → IfOk q (λ ns. done (edit e d) ≡ Ok (record { account = y; notices = notices_in ns }))
        → OnErr q (y ≡ e)
        → IfOk q (λ ns. done (edit now d) ≡ Ok (record { account = client y; notices = notices_in ns }))
        × Stands y stage c
    edited y d q run st h k =
        subst
        (λ x. IfOk q (λ ns. done (edit x d) ≡ Ok (record { account = client y; notices = notices_in ns }))
        × Stands y stage c)
        v (done_seen notices_in y (edit (client e) d) (edit e d) q (edits_alike d) run st h k)

    pub unedited : (d : Edit) (q : Result (List Notice) EditFault) → IfErr q (IsFaultOf (edit e d))
        → IfErr q (IsFaultOf (edit now d))
    unedited d q h =
        subst (λ x. IfErr q (IsFaultOf (edit x d))) v
        (err_weaker q (IsFaultOf (edit e d)) (IsFaultOf (edit (client e) d))
        (edit_fault (edit (client e) d) (edit e d)
        (λ m. refused_like (client e) (edit (client e) d) (edit e d) m (edits_alike d))) h)

    pub ended : (y : Account) (q : Result (Unit {0}) BatchFault) → RunsOn y.told (issued y) → Stands e stage c
        → OnOk q (done (batch_end e) ≡ Ok (record { account = y; notices = [] })) → OnErr q (y ≡ e)
        → OnOk q (done (batch_end now) ≡ Ok (record { account = client y; notices = [] })) × Stands y stage c
    ended y q run st h k =
        subst
        (λ x. OnOk q (done (batch_end x) ≡ Ok (record { account = client y; notices = [] })) × Stands y stage c)
        v (done_seen (λ u. []) y (batch_end (client e)) (batch_end e) q ends_alike run st h k)

    pub unended : (q : Result (Unit {0}) BatchFault) → IfErr q (IsBatchFault (batch_end e))
        → IfErr q (IsBatchFault (batch_end now))
    unended q h =
        subst (λ x. IfErr q (IsBatchFault (batch_end x))) v
        (err_weaker q (IsBatchFault (batch_end e)) (IsBatchFault (batch_end (client e)))
        (batch_fault (batch_end (client e)) (batch_end e)
        (λ m. refused_like (client e) (batch_end (client e)) (batch_end e) m ends_alike)) h)

    -- undo and redo

    went_seen : (y : Account) (way : Direction) (q : Result (Option (List Notice)) UndoFault)
        → RunsOn y.told (issued y) → Stands e stage c
        → IfOk q (λ o. WentBack (go_back way e) e y (option_map notices_in o)) → OnErr q (y ≡ e)
        → IfOk q (λ o. WentBack (go_back way (client e)) (client e) (client y) (option_map notices_in o))
        × Stands y stage c
    went_seen y way (Ok o) run st h k =
        went_carried e stage c parts events y (go_back way (client e)) (go_back way e) (option_map notices_in o) run st
        (back_alike way) h
    went_seen y way (Err f) run st h k = (tt, subst (λ z. Stands z stage c) (sym k) st)

    pub went : (y : Account) (way : Direction) (q : Result (Option (List Notice)) UndoFault)
        → RunsOn y.told (issued y) → Stands e stage c
        → IfOk q (λ o. WentBack (go_back way e) e y (option_map notices_in o)) → OnErr q (y ≡ e)
        → IfOk q (λ o. WentBack (go_back way now) now (client y) (option_map notices_in o)) × Stands y stage c
    went y way q run st h k =
        subst
        (λ x. IfOk q (λ o. WentBack (go_back way x) x (client y) (option_map notices_in o)) × Stands y stage c)
        v (went_seen y way q run st h k)

    pub stayed : (way : Direction) (q : Result (Option (List Notice)) UndoFault)
        → IfErr q (IsUndoFault (go_back way e)) → IfErr q (IsUndoFault (go_back way now))
    stayed way q h =
        subst (λ x. IfErr q (IsUndoFault (go_back way x))) v
        (err_weaker q (IsUndoFault (go_back way e)) (IsUndoFault (go_back way (client e)))
        (undo_fault (go_back way (client e)) (go_back way e)
        (λ m. refused_both (client e) (go_back way (client e)) (go_back way e) m (back_alike way))) h)

  -- the begin of a batch, and presence

  begun_seen : (y : Account) (q : Result (Unit {0}) BatchFault) → Stands e stage c → OnOk q (batch_begin e ≡ Ok y)
      → OnErr q (y ≡ e) → OnOk q (batch_begin (client e) ≡ Ok (client y)) × Stands y stage c
  begun_seen y (Ok u) st h k = begun e stage c parts events y e.batch st h
  begun_seen y (Err f) st h k = (tt, subst (λ z. Stands z stage c) (sym k) st)

  pub began : (y : Account) (q : Result (Unit {0}) BatchFault) → Stands e stage c → OnOk q (batch_begin e ≡ Ok y)
      → OnErr q (y ≡ e) → OnOk q (batch_begin now ≡ Ok (client y)) × Stands y stage c
  began y q st h k =
      subst (λ x. OnOk q (batch_begin x ≡ Ok (client y)) × Stands y stage c) v (begun_seen y q st h k)

  pub unbegun : (q : Result (Unit {0}) BatchFault)
      → IfErr q (λ f. (f ≡ batch.InBatch) × IsBatchFault (batch_begin e) f)
      → IfErr q (λ f. (f ≡ batch.InBatch) × IsBatchFault (batch_begin now) f)
  unbegun q h =
      subst (λ x. IfErr q (λ f. (f ≡ batch.InBatch) × IsBatchFault (batch_begin x) f)) v
      (err_weaker q _ (λ f. (f ≡ batch.InBatch) × IsBatchFault (batch_begin (client e)) f)
      (λ f p.
      (p.0, batch_fault (batch_begin (client e)) (batch_begin e) (λ m. refused_begin (client e) e e.batch m) f p.1))
      h)

  said_seen : (y : Account) (patch : List (List ℕ × Value)) (in_history : Bool) (q : Result (Unit {0}) SayFault)
      → Stands e stage c → OnOk q (presence e patch in_history ≡ Ok y) → OnErr q (y ≡ e)
      → OnOk q (presence (client e) patch in_history ≡ Ok (client y)) × Stands y stage c
  said_seen y patch in_history (Ok u) st h k = said e stage c parts events y patch in_history st h
  said_seen y patch in_history (Err f) st h k = (tt, subst (λ z. Stands z stage c) (sym k) st)

  pub spoken : (y : Account) (patch : List (List ℕ × Value)) (in_history : Bool) (q : Result (Unit {0}) SayFault)
      → Stands e stage c → OnOk q (presence e patch in_history ≡ Ok y) → OnErr q (y ≡ e)
      → OnOk q (presence now patch in_history ≡ Ok (client y)) × Stands y stage c
  spoken y patch in_history q st h k =
      subst (λ x. OnOk q (presence x patch in_history ≡ Ok (client y)) × Stands y stage c) v
      (said_seen y patch in_history q st h k)

  pub unspoken : (patch : List (List ℕ × Value)) (in_history : Bool) (q : Result (Unit {0}) SayFault)
      → IfErr q (IsSayFault (presence e patch in_history)) → IfErr q (IsSayFault (presence now patch in_history))
  unspoken patch in_history q h =
      subst (λ x. IfErr q (IsSayFault (presence x patch in_history))) v
      (err_weaker q (IsSayFault (presence e patch in_history)) (IsSayFault (presence (client e) patch in_history))
      (say_fault (presence (client e) patch in_history) (presence e patch in_history)
      (λ m. unsaid e stage c parts events patch in_history m)) h)
