-- What a live value weighs, and the tests of it.
use Rattle.std.specs.Prelude.{◌≡◌, ◌<◌, ℕ, nat_lt, length, if◌then◌else◌, List, Option, Some, None, Result, Err}
use Rattle.room_ids.specs.Position.{first as first_position, after as after_position}
use Rattle.room_ids.specs.declared.places.PosFault.{PosFault}
use Rattle.room_ids.specs.declared.places.PosFault.TheVariants.{TooLong}
use Rattle.room_model.specs.Edits.{Made, EditFault, ValueTooDeep, NodeTooDeep}
use Rattle.room_model.specs.Init.{Init, plain_depth, node_depth}
use Rattle.room_props.specs.Edits.{IsFaultOf}
use Rattle.room_props.specs.declared.editing.EditFault.{EditFault as Fault}

-- an edit whose deepest plain value and deepest node have these depths, and which else does that
abbrev pub checked : ℕ → ℕ → Result Made EditFault → Result Made EditFault
checked v d r = if nat_lt 50 v then Err (ValueTooDeep v) else (if nat_lt 60 d then Err (NodeTooDeep d) else r)

-- why a live value is too deep as a node of that depth
abbrev pub IsTooDeep : ℕ → Init → Fault → Type 0
IsTooDeep at i e = (r : Result Made EditFault) → IsFaultOf (checked (plain_depth i) (node_depth at i) r) e

-- the position of an item of a new list, behind the last one
abbrev pub following : Option (List ℕ) → List ℕ
following None = first_position
following (Some p) = after_position p

-- why a position is not made: it would have n bytes
abbrev pub IsTooLong : List ℕ → PosFault → Type 0
IsTooLong p e = (n : ℕ) → e ≡ TooLong n → (n ≡ length p) × (4096 < n)
