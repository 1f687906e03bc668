-- What a client shows of presence.
use Rattle.std.specs.Prelude.{ℕ, List}
use Rattle.std.specs.Ordering.{nat_cmp}
use Rattle.std.specs.FinMap as map
use Rattle.std.specs.Coded.{Coded, coded_ℕ}
use Rattle.room_json.specs.Value.{Value}
use Rattle.room_json.specs.Codes.{coded_list_of_fields}
use Rattle.room_model.specs.Presence.{Others}

pub record Shown : Type 0 where
  pub me : List (List ℕ × Value)  -- its own
  pub others : Others  -- that of each other actor of whom a full one was taken

-- entries in order, as a map
abbrev pub as_map : List (ℕ × List (List ℕ × Value)) → Others
as_map es = map.from_entries es

pub others_code : Coded Others
others_code = map.code coded_ℕ coded_list_of_fields
