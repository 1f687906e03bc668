-- Live values as JSON: an object with the one name `$object` or `$map` and an object as value, or `$list` and a list as
-- value, is live, and its members are such again. Everything else is plain, with all that stands in it.
use Rattle.std.specs.Prelude.{ℕ, if◌then◌else◌, List, codes}
use Rattle.std.specs.Str.{bytes_eq}
use Rattle.room_json.specs.Value.{Value, nothing, flag, whole, text, list, members, Values, no_values, value, Fields}
use Rattle.room_json.specs.Value.{no_fields, field}
use Rattle.room_model.specs.Init.{Init, Plain, AnObject, AMap, AList, Parts, no_parts, part, Inits, no_inits, init}

abbrev mutual
  pub init_of : Value → Init
  init_of nothing = Plain nothing
  init_of (flag b) = Plain (flag b)
  init_of (whole z) = Plain (whole z)
  init_of (text s) = Plain (text s)
  init_of (list vs) = Plain (list vs)
  init_of (members no_fields) = Plain (members no_fields)
  init_of (members (field k v no_fields)) = init_named k v
  init_of (members (field k v (field l u fs))) = Plain (members (field k v (field l u fs)))

  -- an object with one name
  pub init_named : List ℕ → Value → Init
  init_named k (members fs) =
      if bytes_eq k (codes "$object") then AnObject (parts_of fs)
      else if bytes_eq k (codes "$map") then AMap (parts_of fs)
      else Plain (members (field k (members fs) no_fields))
  init_named k (list vs) =
      if bytes_eq k (codes "$list") then AList (inits_of vs) else Plain (members (field k (list vs) no_fields))
  init_named k nothing = Plain (members (field k nothing no_fields))
  init_named k (flag b) = Plain (members (field k (flag b) no_fields))
  init_named k (whole z) = Plain (members (field k (whole z) no_fields))
  init_named k (text s) = Plain (members (field k (text s) no_fields))

  pub parts_of : Fields → Parts
  parts_of no_fields = no_parts
  parts_of (field k v fs) = part k (init_of v) (parts_of fs)

  pub inits_of : Values → Inits
  inits_of no_values = no_inits
  inits_of (value v vs) = init (init_of v) (inits_of vs)
