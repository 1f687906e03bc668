-- The value that a `Json` stands for.
use Rattle.std.specs.Prelude.{ℕ, List, [], ◌∷◌, Option}
use Rattle.std.specs.Ordering.{nat_cmp}
use Rattle.std.specs.Cmp.Lexicographic.{slice_cmp}
use Rattle.std.specs.BTreeMap.{is_at}
use Rattle.std.specs.Map.{lookup}
use Rattle.room_json.specs.Value.{Value, nothing, flag, whole, text, list, members, values_of, fields_of}
use Rattle.room_json.specs.declared.tree.Json.{Json}
use Rattle.room_json.specs.declared.tree.Json.TheVariants.{Null, Flag, Int, Text, List as Listed, Object}

abbrev pub json_of : Json → Value
json_of Null = nothing
json_of (Flag b) = flag b
json_of (Int z) = whole z
json_of (Text s) = text s
json_of (Listed vs) = list (values_of vs)
json_of (Object fs) = members (fields_of fs)

-- the members of some entries
abbrev pub members_view : List (List ℕ × Json) → List (List ℕ × Value)
members_view [] = []
members_view (e ∷ es) = (e.0, json_of e.1) ∷ members_view es

-- the object of some entries
abbrev pub object_of_entries : List (List ℕ × Json) → Value
object_of_entries es = members (fields_of (members_view es))

-- the value of a name among some entries
abbrev pub entry_at : List ℕ → List (List ℕ × Json) → Option Value
entry_at name es = lookup (is_at (slice_cmp nat_cmp name)) (members_view es)
