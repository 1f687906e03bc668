-- What is live, one decision at a time: the one member of an object, then its name.
use Rattle.std.specs.Prelude.{ℕ, if◌then◌else◌, List, [], ◌∷◌, Option, Some, None, codes}
use Rattle.std.specs.Str.{bytes_eq}
use Rattle.room_json.specs.Value.{Value, nothing, flag, whole, text, list, members, fields_list}
use Rattle.room_json.specs.View.{json_of}
use Rattle.room_json.specs.declared.tree.Json.{Json}
use Rattle.room_model.specs.Init.{Init, AnObject, AMap, AList}
use Rattle.room_script.specs.Live.{init_of, parts_of, inits_of}

-- the one member
abbrev pub only_entry : List (List ℕ × Value) → Option (List ℕ × Value)
only_entry [] = None
only_entry (m ∷ []) = Some m
only_entry (m ∷ n ∷ ms) = None

abbrev pub only : Value → Option (List ℕ × Value)
only nothing = None
only (flag b) = None
only (whole z) = None
only (text s) = None
only (list vs) = None
only (members fs) = only_entry (fields_list fs)

-- the live value of an object with one name, unless it is plain
abbrev pub live_named : List ℕ → Value → Option Init
live_named k nothing = None
live_named k (flag b) = None
live_named k (whole z) = None
live_named k (text s) = None
live_named k (list vs) = if bytes_eq k (codes "$list") then Some (AList (inits_of vs)) else None
live_named k (members fs) =
    if bytes_eq k (codes "$object") then Some (AnObject (parts_of fs))
    else if bytes_eq k (codes "$map") then Some (AMap (parts_of fs))
    else None

-- the live values of some entries
abbrev pub live_entries : List (List ℕ × Json) → List (List ℕ × Init)
live_entries [] = []
live_entries (e ∷ es) = (e.0, init_of (json_of e.1)) ∷ live_entries es
