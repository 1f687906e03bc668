-- The line of a call that was refused, for each fault of the program; out of memory has none.
use Rattle.std.specs.Prelude.{◌≡◌, ℕ, List}
use Rattle.room_model.specs.Lines.{refused_line, edit_fault_words, batch_fault_words, undo_fault_words}
use Rattle.room_model.specs.Lines.{say_fault_words, frame_fault_words}
use Rattle.room_model.specs.Edits as edits
use Rattle.room_model.specs.Calls as calls
use Rattle.room_model.specs.Receive as receive
use Rattle.room_props.specs.declared.editing.EditFault.{EditFault}
use Rattle.room_props.specs.declared.editing.EditFault.TheVariants as edit
use Rattle.room_editor.specs.declared.faults.BatchFault.{BatchFault}
use Rattle.room_editor.specs.declared.faults.BatchFault.TheVariants as batch
use Rattle.room_editor.specs.declared.faults.UndoFault.{UndoFault}
use Rattle.room_editor.specs.declared.faults.UndoFault.TheVariants as undo
use Rattle.room_editor.specs.declared.faults.SayFault.{SayFault}
use Rattle.room_editor.specs.declared.faults.SayFault.TheVariants as say
use Rattle.room_client.specs.declared.faults.FrameFault.{FrameFault}
use Rattle.room_client.specs.declared.faults.FrameFault.TheVariants as frame

abbrev pub TellsEdit : ℕ → EditFault → List ℕ → Type 0
TellsEdit line edit.Memory t = ⊥
TellsEdit line edit.NotLoaded t = t ≡ refused_line line (edit_fault_words edits.NotLoaded)
TellsEdit line (edit.NoNode x) t = t ≡ refused_line line (edit_fault_words (edits.NoNode x))
TellsEdit line (edit.WrongKind x) t = t ≡ refused_line line (edit_fault_words (edits.WrongKind x))
TellsEdit line (edit.BadIndex i n) t = t ≡ refused_line line (edit_fault_words (edits.BadIndex i n))
TellsEdit line (edit.ValueTooDeep d) t = t ≡ refused_line line (edit_fault_words (edits.ValueTooDeep d))
TellsEdit line (edit.NodeTooDeep d) t = t ≡ refused_line line (edit_fault_words (edits.NodeTooDeep d))
TellsEdit line (edit.PosTooLong n) t = t ≡ refused_line line (edit_fault_words (edits.PosTooLong n))
TellsEdit line (edit.ClocksSpent c) t = t ≡ refused_line line (edit_fault_words (edits.ClocksSpent c))
TellsEdit line (edit.BatchTooLarge b) t = t ≡ refused_line line (edit_fault_words (edits.BatchTooLarge b))

abbrev pub TellsBatch : ℕ → BatchFault → List ℕ → Type 0
TellsBatch line batch.Memory t = ⊥
TellsBatch line batch.InBatch t = t ≡ refused_line line (batch_fault_words calls.InBatch)
TellsBatch line batch.NoBatch t = t ≡ refused_line line (batch_fault_words calls.NoBatch)

abbrev pub TellsUndo : ℕ → UndoFault → List ℕ → Type 0
TellsUndo line undo.Memory t = ⊥
TellsUndo line undo.InBatch t = t ≡ refused_line line (undo_fault_words calls.UndoInBatch)
TellsUndo line (undo.ClocksSpent c) t = t ≡ refused_line line (undo_fault_words (calls.UndoClocksSpent c))
TellsUndo line (undo.BatchTooLarge b) t = t ≡ refused_line line (undo_fault_words (calls.UndoBatchTooLarge b))
TellsUndo line (undo.TooLarge b) t = t ≡ refused_line line (undo_fault_words (calls.UndoTooLarge b))

abbrev pub TellsSaying : ℕ → SayFault → List ℕ → Type 0
TellsSaying line say.Memory t = ⊥
TellsSaying line say.NotConnected t = t ≡ refused_line line (say_fault_words calls.NotConnected)
TellsSaying line (say.ValueTooDeep d) t = t ≡ refused_line line (say_fault_words (calls.ValueTooDeep d))
TellsSaying line (say.TooLarge b) t = t ≡ refused_line line (say_fault_words (calls.TooLarge b))

abbrev pub TellsFrame : ℕ → FrameFault → List ℕ → Type 0
TellsFrame line frame.Memory t = ⊥
TellsFrame line (frame.BadServerFrame r) t = t ≡ refused_line line (frame_fault_words (receive.BadServerFrame r))
TellsFrame line (frame.Unexpected k) t = t ≡ refused_line line (frame_fault_words (receive.Unexpected k))
TellsFrame line frame.NotATree t = t ≡ refused_line line (frame_fault_words receive.NotATree)
TellsFrame line (frame.Gap e g) t = t ≡ refused_line line (frame_fault_words (receive.Gap e g))
TellsFrame line (frame.Account k g) t = t ≡ refused_line line (frame_fault_words (receive.AccountFault k g))
TellsFrame line (frame.Parts k g) t = t ≡ refused_line line (frame_fault_words (receive.Parts k g))
