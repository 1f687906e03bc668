-- The edits, clocks, outcomes and faults of the model that those of the program stand for.
use Rattle.std.specs.Prelude.{◌≡◌, ◌≤◌, Bool, true, false, Result, Ok, Err, ⊤}
use Rattle.room_model.specs.Edits as model
use Rattle.room_props.specs.Inits.{init_of}
use Rattle.room_props.specs.declared.editing.Edit.{Edit}
use Rattle.room_props.specs.declared.editing.Edit.TheVariants as edits
use Rattle.room_props.specs.declared.editing.Clocks.{Clocks}
use Rattle.room_props.specs.declared.editing.Made.{Made}
use Rattle.room_props.specs.declared.editing.EditFault.{EditFault}
use Rattle.room_props.specs.declared.editing.EditFault.TheVariants.{Memory, NotLoaded, NoNode, WrongKind, BadIndex}
use Rattle.room_props.specs.declared.editing.EditFault.TheVariants.{ValueTooDeep, NodeTooDeep, PosTooLong}
use Rattle.room_props.specs.declared.editing.EditFault.TheVariants.{ClocksSpent, BatchTooLarge}

abbrev pub edit_of : Edit → model.Edit
edit_of (edits.Set x k i) = model.Set x k (init_of i)
edit_of (edits.Update x fs) = model.Update x fs
edit_of (edits.Remove x k) = model.Remove x k
edit_of (edits.Push x i) = model.Push x (init_of i)
edit_of (edits.Insert x n i) = model.Insert x n (init_of i)
edit_of (edits.Put x n i) = model.Put x n (init_of i)
edit_of (edits.Move x f t) = model.Move x f t
edit_of (edits.Take x n) = model.Take x n
edit_of (edits.Clear x) = model.Clear x

abbrev pub clocks_of : Clocks → model.Clocks
clocks_of c = record { actor = c.actor; node = c.node; op = c.op }

-- both counters are at most 2^53
pub record HaveRoom (c : Clocks) : Type 0 where
  pub node : c.node ≤ 9007199254740992
  pub op : c.op ≤ 9007199254740992

abbrev pub made_of : Made → model.Made
made_of m = record { ops = m.ops; next = clocks_of m.next }

-- what a call answers where the model makes something
abbrev pub IsMade : Result model.Made model.EditFault → Made → Type 0
IsMade r m = r ≡ Ok (made_of m)

-- a fault that stands for a refusal; out of memory may come at any time
abbrev pub IsFaultOf : {A : Type 0} → Result A model.EditFault → EditFault → Type 0
IsFaultOf r Memory = ⊤
IsFaultOf r NotLoaded = r ≡ Err model.NotLoaded
IsFaultOf r (NoNode x) = r ≡ Err (model.NoNode x)
IsFaultOf r (WrongKind x) = r ≡ Err (model.WrongKind x)
IsFaultOf r (BadIndex i n) = r ≡ Err (model.BadIndex i n)
IsFaultOf r (ValueTooDeep d) = r ≡ Err (model.ValueTooDeep d)
IsFaultOf r (NodeTooDeep d) = r ≡ Err (model.NodeTooDeep d)
IsFaultOf r (PosTooLong n) = r ≡ Err (model.PosTooLong n)
IsFaultOf r (ClocksSpent c) = r ≡ Err (model.ClocksSpent c)
IsFaultOf r (BatchTooLarge b) = r ≡ Err (model.BatchTooLarge b)

-- edits of objects and maps; the others are of lists
abbrev pub is_prop : model.Edit → Bool
is_prop (model.Set x k i) = true
is_prop (model.Update x fs) = true
is_prop (model.Remove x k) = true
is_prop (model.Push x i) = false
is_prop (model.Insert x n i) = false
is_prop (model.Put x n i) = false
is_prop (model.Move x f t) = false
is_prop (model.Take x n) = false
is_prop (model.Clear x) = false
