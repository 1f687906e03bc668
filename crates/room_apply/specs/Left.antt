-- What is left of a step once the nodes that it removes are gone.
use Rattle.std.specs.Prelude.{ℕ, List, ◌++◌, if◌then◌else◌, Option, Some, None, is_some}
use Rattle.std.specs.Ordering.{nat_cmp}
use Rattle.std.specs.Cmp.Lexicographic.{slice_cmp}
use Rattle.std.specs.FinMap.{find}
use Rattle.room_json.specs.Value.{Value}
use Rattle.room_nodes.specs.Steps.{without_field}
use Rattle.room_nodes.specs.declared.nodes.Node.{Node}
use Rattle.room_nodes.specs.declared.nodes.Kind.{Kind}
use Rattle.room_nodes.specs.declared.nodes.Kind.TheVariants.{Object}
use Rattle.room_nodes.specs.declared.turns.Turn.{Turn}
use Rattle.room_apply.specs.Edits.{some_turn}

abbrev pub left_in : List ℕ → Kind → Option (List (List ℕ × Value))
left_in k (Object fs) = if is_some (find (slice_cmp nat_cmp) k fs) then Some (without_field k fs) else None
left_in k _ = None

-- the fields of an object where one of them goes, if it is there
abbrev pub fields_left : List ℕ → Option Node → Option (List (List ℕ × Value))
fields_left k None = None
fields_left k (Some n) = left_in k n.kind

-- the changes that are left: fields, and then a node or a key
abbrev pub lefts : Option Turn → Option Turn → List Turn
lefts fields last = some_turn last ++ some_turn fields
