-- Laws of the definitions.
use Rattle.std.specs.Prelude.{◌≡◌, ◌≤◌, Ok}
use Rattle.room_json.specs.Limits.{max_depth}
use Rattle.room_json.specs.Profile.{IsJson}
use Rattle.room_json.specs.Reading.{value_of_text}
use Rattle.room_json.specs.Value.{Value, depth, text_of}

-- the text of a value is read again as that value
abbrev pub TextsSpell : Type 0
TextsSpell = (v : Value) → IsJson v → depth v ≤ max_depth → value_of_text (text_of v) ≡ Ok v
