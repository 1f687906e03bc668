-- The model's refusals that the faults of an editor stand for; out of memory may come at any time.
use Rattle.std.specs.Prelude.{◌≡◌, Result, Err, ⊤}
use Rattle.room_model.specs.Calls as model
use Rattle.room_editor.specs.declared.faults.BatchFault.{BatchFault}
use Rattle.room_editor.specs.declared.faults.BatchFault.TheVariants as batch
use Rattle.room_editor.specs.declared.faults.UndoFault.{UndoFault}
use Rattle.room_editor.specs.declared.faults.UndoFault.TheVariants as undo
use Rattle.room_editor.specs.declared.faults.SayFault.{SayFault}
use Rattle.room_editor.specs.declared.faults.SayFault.TheVariants as say

abbrev pub IsBatchFault : {A : Type 0} → Result A model.BatchFault → BatchFault → Type 0
IsBatchFault r batch.Memory = ⊤
IsBatchFault r batch.InBatch = r ≡ Err model.InBatch
IsBatchFault r batch.NoBatch = r ≡ Err model.NoBatch

abbrev pub IsUndoFault : {A : Type 0} → Result A model.UndoFault → UndoFault → Type 0
IsUndoFault r undo.Memory = ⊤
IsUndoFault r undo.InBatch = r ≡ Err model.UndoInBatch
IsUndoFault r (undo.ClocksSpent last) = r ≡ Err (model.UndoClocksSpent last)
IsUndoFault r (undo.BatchTooLarge bytes) = r ≡ Err (model.UndoBatchTooLarge bytes)
IsUndoFault r (undo.TooLarge bytes) = r ≡ Err (model.UndoTooLarge bytes)

abbrev pub IsSayFault : {A : Type 0} → Result A model.SayFault → SayFault → Type 0
IsSayFault r say.Memory = ⊤
IsSayFault r say.NotConnected = r ≡ Err model.NotConnected
IsSayFault r (say.ValueTooDeep depth) = r ≡ Err (model.ValueTooDeep depth)
IsSayFault r (say.TooLarge bytes) = r ≡ Err (model.TooLarge bytes)
