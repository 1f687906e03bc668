-- A number that is larger for a live value than for those in it.
use Rattle.std.specs.Prelude.{ℕ, ◌+◌, List, [], ◌∷◌}
use Rattle.room_json.specs.Weights.{weight as value_weight}
use Rattle.room_model.specs.Init.{Init, Plain, AnObject, AMap, AList, Parts, no_parts, part, Inits, no_inits, init}

abbrev mutual
  pub weight : Init → ℕ
  weight (Plain v) = value_weight v + 1
  weight (AnObject ps) = parts_weight ps + 1
  weight (AMap ps) = parts_weight ps + 1
  weight (AList is) = inits_weight is + 1

  pub parts_weight : Parts → ℕ
  parts_weight no_parts = 0
  parts_weight (part k i ps) = weight i + 1 + parts_weight ps

  pub inits_weight : Inits → ℕ
  inits_weight no_inits = 0
  inits_weight (init i is) = weight i + 1 + inits_weight is

abbrev pub list_weight : List Init → ℕ
list_weight [] = 0
list_weight (i ∷ is) = weight i + 1 + list_weight is

abbrev pub list_weight_of_parts : List (List ℕ × Init) → ℕ
list_weight_of_parts [] = 0
list_weight_of_parts (p ∷ ps) = weight p.1 + 1 + list_weight_of_parts ps
