-- Each value is larger than those in it.
use Rattle.std.specs.Prelude.{◌≡◌, ◌≤◌, ◌+◌, ℕ, max, List, [], ◌∷◌, map}
use Rattle.std.proofs.Common.{arith, refl, ap}
use denote.Param.Weighed.{most}
use Rattle.room_json.specs.Value.{Value, values_of, fields_of}
use Rattle.room_json.specs.View.{json_of, members_view}
use Rattle.room_json.specs.Weights.{weight, values_weight, fields_weight, list_weight, pairs_weight}
use Rattle.room_json.specs.declared.tree.Json.{Json}
use Rattle.room_json.specs.declared.tree.Json.TheVariants.{Null, Flag, Int, Text, List as Listed, Object}
use Rattle.room_json.specs.declared.tree.Items.TheDeep.{deep-Json}

values_weight-values_of : (vs : List Value) → values_weight (values_of vs) ≡ list_weight vs
values_weight-values_of [] = refl
values_weight-values_of (v ∷ vs) = ap (λ n. weight v + 1 + n) (values_weight-values_of vs)

fields_weight-fields_of : (ms : List (List ℕ × Value)) → fields_weight (fields_of ms) ≡ pairs_weight ms
fields_weight-fields_of [] = refl
fields_weight-fields_of (m ∷ ms) = ap (λ n. weight m.1 + 1 + n) (fields_weight-fields_of ms)

deep-Json_le : (j : Json) → deep-Json j ≤ weight (json_of j)
deep-Json_le Null = omega arith
deep-Json_le (Flag b) = omega arith
deep-Json_le (Int z) = omega arith
deep-Json_le (Text s) = omega arith
deep-Json_le (Listed vs) = omega (arith, values_weight-values_of vs)
deep-Json_le (Object ms) = omega (arith, fields_weight-fields_of ms)

pub items_fall : (js : List Json) → max (most deep-Json js) 0 ≤ list_weight (map json_of js)
items_fall [] = omega arith
items_fall (j ∷ js) = omega (arith, deep-Json_le j, items_fall js)

pub members_fall : (es : List (List ℕ × Json))
    → max (most deep-Json (map (λ (e : List ℕ × Json). e.1) es)) 0 ≤ pairs_weight (members_view es)
members_fall [] = omega arith
members_fall (e ∷ es) = omega (arith, deep-Json_le e.1, members_fall es)
