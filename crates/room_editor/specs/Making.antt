-- What an edit makes of an account, in two steps: the operations, and where they go.
use Rattle.std.specs.Prelude.{◌≡◌, ◌<◌, ℕ, List, [], ◌∷◌, ◌++◌, Option, Some, None, Result, Err, ⊤}
use Rattle.room_nodes.specs.declared.nodes.Body.{Body}
use Rattle.room_nodes.specs.declared.nodes.Change.{Change}
use Rattle.room_nodes.specs.Shape.{Nodes}
use Rattle.room_model.specs.Account.{Account, OpenBatch, clocks, shown}
use Rattle.room_model.specs.Calls.{batch_of}
use Rattle.room_model.specs.Edits.{Edit, Made, make, EditFault as Fault, NotLoaded}
use Rattle.room_model.specs.History.{note}
use Rattle.room_props.specs.declared.editing.EditFault.{EditFault}
use Rattle.room_props.specs.declared.editing.EditFault.TheVariants as fault

-- the operations, or why there are none

abbrev pub made_at : Account → Edit → Option Nodes → Result Made Fault
made_at x e None = Err NotLoaded
made_at x e (Some t) = make t (clocks x) e

abbrev pub made_by : Account → Edit → Result Made Fault
made_by x e = made_at x e (shown x)

-- a frame of so many bytes is too large, or memory ran out
abbrev pub IsSizeFault : ℕ → EditFault → Type 0
IsSizeFault size fault.Memory = ⊤
IsSizeFault size (fault.BatchTooLarge bytes) = (bytes ≡ size) × (1048576 < size)
IsSizeFault size f = ⊥

-- operations, what takes them back and the next node clock, in an open batch or outside of one

abbrev pub put_edit : Account → List Body → List Change → ℕ → Option OpenBatch → Account
put_edit x bs back node (Some o) = record x {
  batch = Some (record { bodies = o.bodies ++ bs; changes = back ++ o.changes; keys = o.keys });
  node = node;
}
put_edit x [] back node None = x
put_edit x (b ∷ bs) back node None = record x {
  fresh = x.fresh ++ batch_of x (b ∷ bs) ∷ [];
  history = note back x.history;
  node = node;
}
