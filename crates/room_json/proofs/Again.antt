-- A `Json` is what its value gives back.
use Rattle.std.proofs.Common.{◌≡◌, refl, ap}
use Rattle.room_json.proofs.Values.{values_list-values_of, fields_list-fields_of}
use Rattle.room_json.specs.View.{json_of}
use Rattle.room_json.specs.Back.{json_in}
use Rattle.room_json.specs.declared.tree.Json.{Json}
use Rattle.room_json.specs.declared.tree.Json.TheVariants.{Null, Flag, Int, Text, List as Listed, Object}

pub json_again : (j : Json) → json_in (json_of j) ≡ j
json_again Null = refl
json_again (Flag b) = refl
json_again (Int z) = refl
json_again (Text s) = refl
json_again (Listed vs) = ap Listed (values_list-values_of vs)
json_again (Object ms) = ap Object (fields_list-fields_of ms)
