-- The `Json` that stands for a value.
use Rattle.room_json.specs.Value.{Value, nothing, flag, whole, text, list, members, values_list, fields_list}
use Rattle.room_json.specs.declared.tree.Json.{Json}
use Rattle.room_json.specs.declared.tree.Json.TheVariants.{Null, Flag, Int, Text, List as Listed, Object}

abbrev pub json_in : Value → Json
json_in nothing = Null
json_in (flag b) = Flag b
json_in (whole z) = Int z
json_in (text s) = Text s
json_in (list vs) = Listed (values_list vs)
json_in (members fs) = Object (fields_list fs)
