-- The live value that an `Init` stands for.
use Rattle.std.specs.Prelude.{ℕ, List, [], ◌∷◌, map}
use Rattle.std.specs.Ordering.{nat_cmp}
use Rattle.std.specs.Cmp.Lexicographic.{slice_cmp}
use Rattle.std.specs.List.Sorted.{IsStrictlySortedBy}
use Rattle.room_json.specs.View.{json_of}
use Rattle.room_model.specs.Init as model
use Rattle.room_model.specs.Init.{Init as Meaning, AnObject, AMap, AList, no_parts, part, no_inits, init}
use Rattle.room_model.specs.Sound.{AreSoundParts, names_of}
use Rattle.room_props.specs.declared.live.Init.{Init}
use Rattle.room_props.specs.declared.live.Init.TheVariants.{Plain, Object, Map, List as Listed}

abbrev pub parts_of : List (List ℕ × Meaning) → model.Parts
parts_of [] = no_parts
parts_of (p ∷ ps) = part p.0 p.1 (parts_of ps)

abbrev pub inits_of : List Meaning → model.Inits
inits_of [] = no_inits
inits_of (i ∷ is) = init i (inits_of is)

abbrev pub init_of : Init → Meaning
init_of (Plain v) = model.Plain (json_of v)
init_of (Object ps) = AnObject (parts_of ps)
init_of (Map ps) = AMap (parts_of ps)
init_of (Listed is) = AList (inits_of is)

-- the parts of some entries
abbrev pub named : List (List ℕ × Init) → List (List ℕ × Meaning)
named [] = []
named (e ∷ es) = (e.0, init_of e.1) ∷ named es

-- what the entries of a map, and items, are

abbrev pub parts_in : List (List ℕ × Init) → model.Parts
parts_in es = parts_of (named es)

abbrev pub items_in : List Init → model.Inits
items_in is = inits_of (map init_of is)

-- the members of a live object or map are sound, and stand in byte order of their names, each name once
abbrev pub AreSoundNamed : List (List ℕ × Meaning) → Type 0
AreSoundNamed ps = IsStrictlySortedBy (slice_cmp nat_cmp) (names_of (parts_of ps)) × AreSoundParts (parts_of ps)
