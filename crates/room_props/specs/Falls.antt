-- Each live value is larger than those in it.
use Rattle.std.specs.Prelude.{◌≡◌, ◌≤◌, ◌+◌, ℕ, max, List, [], ◌∷◌, map}
use Rattle.std.proofs.Common.{arith, refl, ap}
use denote.Param.Weighed.{most}
use Rattle.room_model.specs.Init.{Init as Meaning}
use Rattle.room_props.specs.Inits.{init_of, inits_of, parts_of, named}
use Rattle.room_props.specs.Weights.{weight, parts_weight, inits_weight, list_weight, list_weight_of_parts}
use Rattle.room_props.specs.declared.live.Init.{Init}
use Rattle.room_props.specs.declared.live.Init.TheVariants.{Plain, Object, Map, List as Listed}
use Rattle.room_props.specs.declared.live.Inits.TheDeep.{deep-Init}

inits_weight-inits_of : (is : List Meaning) → inits_weight (inits_of is) ≡ list_weight is
inits_weight-inits_of [] = refl
inits_weight-inits_of (i ∷ is) = ap (λ n. weight i + 1 + n) (inits_weight-inits_of is)

parts_weight-parts_of : (ps : List (List ℕ × Meaning)) → parts_weight (parts_of ps) ≡ list_weight_of_parts ps
parts_weight-parts_of [] = refl
parts_weight-parts_of (p ∷ ps) = ap (λ n. weight p.1 + 1 + n) (parts_weight-parts_of ps)

deep-Init_le : (i : Init) → deep-Init i ≤ weight (init_of i)
deep-Init_le (Plain v) = omega arith
deep-Init_le (Object ps) = omega (arith, parts_weight-parts_of ps)
deep-Init_le (Map ps) = omega (arith, parts_weight-parts_of ps)
deep-Init_le (Listed is) = omega (arith, inits_weight-inits_of is)

pub inits_fall : (is : List Init) → max (most deep-Init is) 0 ≤ list_weight (map init_of is)
inits_fall [] = omega arith
inits_fall (i ∷ is) = omega (arith, deep-Init_le i, inits_fall is)

pub parts_fall : (es : List (List ℕ × Init))
    → max (most deep-Init (map (λ (e : List ℕ × Init). e.1) es)) 0 ≤ list_weight_of_parts (named es)
parts_fall [] = omega arith
parts_fall (e ∷ es) = omega (arith, deep-Init_le e.1, parts_fall es)
